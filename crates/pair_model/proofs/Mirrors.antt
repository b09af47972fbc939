-- A chip tree that mirrors the source tree continues to do so (Lemmas 5.6, 5.7 and 5.9 of document 001): both trees empty; after a push on the source
-- and the carried push on the chip; and after a pop on both, which gives the same packet. Push and pop are treated queue by queue. At each target
-- node with an owner the carried path makes the lift of the owner's entry, and lifting commutes with insertion and removal. At each node above the
-- image of the source's root it makes an entry of rank 0, equal to all others there. At nodes unrelated to that image it makes none.
use mathlib.Core.Path.{◌≡◌, refl, sym, ap, ap₂, ◌∙◌, subst}
use Prim.Native.Nat.{ℕ, zero, suc, ◌≤◌, ◌<◌}
use native.Mathlib.Decide.{ℕ_discrete}
use native.Mathlib.Omega.{arith}
use mathlib.Core.List.{List, [], ◌∷◌, ◌++◌}
use mathlib.Core.Bool.{true}
use mathlib.Core.Option.{Option, none, some}
use lib.ListN.{length, replicate, length-replicate}
use borrow.Author.Tests.{le-ltb}
use Rattle.base.proofs.Permutation.{length_perm}
use Rattle.base.proofs.Prefix.{Meet, below, over, apart, meet}
use Rattle.std.proofs.lemmas.Bool.{and_parts}
use Rattle.topology.specs.Tree.{Topo, width}
use Rattle.topology.specs.Address.{Addr, In, sub, Above}
use Rattle.topology.proofs.Ancestry.{in_front, in_below, in_join}
use Rattle.topology.proofs.AncestryOrder.{above_trans}
use Rattle.pifo_model.specs.Queue.{Entry, child, packet, entry, rank, insert, allowed, every, insert_some}
use Rattle.pifo_model.specs.Tree.{Step, path_fault, PTree, shape, empty, push, pop, held, well}
use Rattle.pifo_model.specs.Addressed.{queue_at, along, atop}
use Rattle.pifo_model.specs.Way.{takes}
use Rattle.pifo_model.proofs.Queues.{push_queue, Trail, Trails, pop_trail, Heads, trail_pop, queue_empty, queue_rises, root_held}
use Rattle.pifo_model.proofs.Well.{packets_empty}
use Rattle.pifo_model.proofs.Push.{push-held}
use Rattle.pifo_model.proofs.Pop.{child_own, pop_some}
use Rattle.pair_model.specs.Mirror.{toward, Owns, ranked, lift, lifted, Mirrors}
use Rattle.pair_model.specs.Carrying.{steps, carry_from, carry_by}
use Rattle.pair_model.proofs.Images.{Keeps}
use Rattle.pair_model.proofs.Lift.{lift_rank, after, lifted_atop, lifted_put}
use Rattle.pair_model.proofs.Owns.{owner}
use Rattle.pair_model.proofs.Carry.{fault-steps, along-behind, along_on, along_off, carried_fault, carried_along}
use Rattle.pifo_model.proofs.Chains.{chain_held, queue_own}

-- only the root lies above the root
above_root : (a : Addr) → Above a [] → a ≡ []
above_root [] u = refl
above_root (x ∷ a) (d, e) = absurd (omega (arith, ap length e))

module _ {P : Type 0} where
  -- an entry inserted among entries equal to it
  insert_same : (e : Entry P) (n : ℕ) → insert e (replicate n e) ≡ replicate (suc n) e
  insert_same e zero = refl
  insert_same e (suc n) = rw (le-ltb (rank e) (rank e) (omega arith)) (ap (λ (q : List (Entry P)). e ∷ q) (insert_same e n))

  on_head : (x : Option (Entry P)) (q k : List (Entry P)) → q ≡ atop x k → Heads x q
  on_head none q k h = tt
  on_head (some y) q k h = (k, h)

  under : (x : Option (Entry P)) (q k : List (Entry P)) → atop x q ≡ atop x k → q ≡ k
  under none q k h = h
  under (some y) q k h = cc

module _ {S T : Topo} {F : Addr → Addr} (K : Keeps S T F) where
  pub path_fault_lem : (ss : List Step) → path_fault S ss ≡ 0 → path_fault T (carry_by F ss) ≡ 0
  path_fault_lem ss h = fault-steps T 0 (F []) (carry_from F [] ss) (K.there [] tt) (carried_fault K [] ss tt h)

  -- The entry that a carried path makes: at a node with an owner, above the image of the source's root, and unrelated to that image.
  module _ {P : Type 0} (ss : List Step) (l : ℕ) (p : P) where
    path_along : (b a : Addr) → path_fault S ss ≡ 0 → In S b → In T a → Owns S F b a
        → along (carry_by F ss) l p a ≡ after (lift F b a) (along ss l p b)
    path_along b a h i j o =
        let u = above_trans (F []) (F b) a (K.down [] b tt i (b, refl)) o.covers in
        ap (along (carry_by F ss) l p) u.1
        ∙ along-behind 0 (carry_from F [] ss) l p (F []) u.0
        ∙ carried_along K ss l p [] b u.0 b a tt h refl u.1 i j o

    path_over : (a : Addr) (j : ℕ) (d : Addr) → F [] ≡ a ++ (j ∷ d) → along (carry_by F ss) l p a ≡ some (entry 0 (child j))
    path_over a j d e =
        ap (λ (g : Addr). along (steps 0 g ++ carry_from F [] ss) l p a) e ∙ along_on 0 (carry_from F [] ss) l p a j d

    path_off : (c : Addr) (x y : ℕ) (d e : Addr) → (x ≡ y → ⊥) → F [] ≡ c ++ (y ∷ e) → along (carry_by F ss) l p (c ++ (x ∷ d)) ≡ none
    path_off c x y d e n q =
        ap (λ (g : Addr). along (steps 0 g ++ carry_from F [] ss) l p (c ++ (x ∷ d))) q ∙ along_off 0 (carry_from F [] ss) l p c x y d e n

  -- If the image of a node below c is the target's root, c has one child: two children would have unrelated images, and the root is unrelated to none.
  alone : (c : Addr) (x : ℕ) (d : Addr) → In S (c ++ (x ∷ d)) → F (c ++ (x ∷ d)) ≡ [] → width (sub S c) ≡ 1
  alone c x d i e = by_width (ℕ_discrete (width (sub S c)) 1) (ℕ_discrete x 1)
    where
      below_c : In (sub S c) (x ∷ d)
      below_c = in_below S c (x ∷ d) i

      second : (y : ℕ) → (x ≡ y → ⊥) → 0 < y → y ≤ width (sub S c) → ⊥
      second y n p l =
          let j = in_join S c (y ∷ []) (in_front S c (x ∷ d) i) (p, l, tt) in
          K.apart c x y d [] n i j (F (c ++ (y ∷ [])), ap (λ (g : Addr). g ++ F (c ++ (y ∷ []))) (sym e))

      by_width : Dec (width (sub S c) ≡ 1) → Dec (x ≡ 1) → width (sub S c) ≡ 1
      by_width (yes q) r = q
      by_width (no q) (yes r) = absurd (second 2 (λ z. omega arith) (omega arith) (omega (arith, below_c.0, below_c.1)))
      by_width (no q) (no r) = absurd (second 1 r (omega arith) (omega (arith, below_c.0, below_c.1)))

  module _ {P : Type 0} where
    pub mirrors_empty : Mirrors {P = P} S T F (empty S) (empty T)
    mirrors_empty =
        record {
          queues = λ b a i j o. queue_empty T a ∙ ap (lifted (lift F b a)) (sym (queue_empty S b));
          over = λ a j d e. queue_empty T a ∙ ap (λ (n : ℕ). replicate n (entry 0 (child j))) (ap length (sym (packets_empty P S)));
          off = λ c x y d e n q. queue_empty T (c ++ (x ∷ d));
        }

    -- no entry of the owner of the target's root is left out, since its children's images lie below the root
    lifted_all : (b : Addr) → In S b → Owns S F b [] → (q : List (Entry P)) → every (allowed (width (sub S b))) q ≡ true
        → length (lifted (lift F b []) q) ≡ length q
    lifted_all b i o [] h = refl
    lifted_all b i o (entry r (packet p) ∷ q) h =
        ap suc (lifted_all b i o q (and_parts (allowed (width (sub S b)) (packet p)) (every (allowed (width (sub S b))) q) h).1)
    lifted_all b i o (entry r (child x) ∷ q) h =
        let c = child_own (width (sub S b)) r x q h in
        by_image (F (b ++ (x ∷ []))) refl (in_join S b (x ∷ []) i (c.0, c.1, tt))
        (lifted_all b i o q (and_parts (allowed (width (sub S b)) (child x)) (every (allowed (width (sub S b))) q) h).1)
      where
        by_image : (g : Addr) → F (b ++ (x ∷ [])) ≡ g → In S (b ++ (x ∷ [])) → length (lifted (lift F b []) q) ≡ length q
            → length (atop (ranked r (toward [] g)) (lifted (lift F b []) q)) ≡ suc (length q)
        by_image [] e j k = absurd (o.lowest x j ([], rw e))
        by_image (z ∷ g) e j k = ap suc k

    -- Both trees hold equally many packets, since the target's root has an entry for each packet of the source. If the image of the source's root
    -- lies below the target's root, this is `over`, the property of nodes above that image. Otherwise all ancestors of the root's owner have one child.
    pub mirrors_held : (s t : PTree P) → well s ≡ true → well t ≡ true → shape s ≡ S → Mirrors S T F s t → held t ≡ held s
    mirrors_held s t w v hs M = sym (root_held t v) ∙ by_image (F []) refl
      where
        own : (b : Addr) → In S b → every (allowed (width (sub S b))) (queue_at s b) ≡ true
        own b i =
            subst (λ (u : Topo). every (allowed (width (sub u b))) (queue_at s b) ≡ true) hs
            (queue_own s b w (subst (λ (u : Topo). In u b) (sym hs) i))

        by_image : (f : Addr) → F [] ≡ f → length (queue_at t []) ≡ held s
        by_image (j ∷ d) e = ap length (M.over [] j d e) ∙ length-replicate (held s) (entry 0 (child j))
        by_image [] e =
            let o = owner K [] ([], rw e) in
            let b = o.node in
            let i = o.there in
            let root : F b ≡ [] = above_root (F b) o.owns.covers in
            ap length (M.queues b [] i tt o.owns)
            ∙ lifted_all b i o.owns (queue_at s b) (own b i)
            ∙ chain_held s b w (subst (λ (u : Topo). In u b) (sym hs) i)
            (λ c x d q. subst (λ (u : Topo). width (sub u c) ≡ 1) (sym hs) (alone c x d (subst (In S) q i) (ap F (sym q) ∙ root)))

    module _ (s t : PTree P) (w : well s ≡ true) (hs : shape s ≡ S) (ht : shape t ≡ T) (M : Mirrors S T F s t) where
      pub mirrors_push : (ss : List Step) (l : ℕ) (p : P) → path_fault S ss ≡ 0 → Mirrors S T F (push s ss l p) (push t (carry_by F ss) l p)
      mirrors_push ss l p h =
          record {
            queues = λ b a i j o.
                pushed a
                ∙ ap₂ insert_some (path_along ss l p b a h i j o) (M.queues b a i j o)
                ∙ sym (lifted_put (lift F b a) (lift_rank F b a) (along ss l p b) (queue_at s b) (queue_rises s b w))
                ∙ ap (lifted (lift F b a)) (sym (push_queue s ss l p b (rw hs h)));
            over = λ a j d e.
                pushed a
                ∙ ap₂ insert_some (path_over ss l p a j d e) (M.over a j d e)
                ∙ insert_same (entry 0 (child j)) (held s)
                ∙ ap (λ (n : ℕ). replicate n (entry 0 (child j))) (sym (push-held s ss l p (rw hs h)));
            off = λ c x y d e n q. pushed (c ++ (x ∷ d)) ∙ ap₂ insert_some (path_off ss l p c x y d e n q) (M.off c x y d e n q);
          }
        where
          pushed : (a : Addr) → queue_at (push t (carry_by F ss) l p) a ≡ insert_some (along (carry_by F ss) l p a) (queue_at t a)
          pushed a = push_queue t (carry_by F ss) l p a (rw ht (path_fault_lem ss h))

      pub record Followed (p : P) (u : PTree P) : Type 0 where
        pub tree : PTree P
        pub is : pop t ≡ some (p, tree)
        pub mirrors : Mirrors S T F u tree
        pub entries : (b a : Addr) → In S b → In T a → Owns S F b a → takes t a ≡ after (lift F b a) (takes s b)

      -- The source's pop takes the entries of a path from the heads. So the carried path's entries are at the chip's heads, and the chip's pop takes
      -- them. The chip's queues behind these heads mirror the source's queues after the pop.
      pub mirrors_pop : (p : P) (u : PTree P) → pop s ≡ some (p, u) → Followed p u
      mirrors_pop p u e =
          let z = trail_pop t path trail.last p (rw ht (path_fault_lem trail.steps valid)) heads in
          let o = trail_pop s trail.steps trail.last p trail.valid source_heads in
          let left : (a : Addr) (q : List (Entry P)) → Stands a q → queue_at z.tree a ≡ q =
          λ a q g. under (along path trail.last p a) (queue_at z.tree a) q (sym (z.queues a) ∙ g) in
          record {
            tree = z.tree;
            is = z.is;
            mirrors =
                record {
                  queues = λ b a i j o. left a (lifted (lift F b a) (queue_at u b)) (before b a i j o);
                  over = λ a j d q. left a (replicate (held u) (entry 0 (child j))) (before_over a j d q);
                  off = λ c x y d g n q. left (c ++ (x ∷ d)) [] (before_off c x y d g n q);
                };
            entries = λ b a i j g. z.entries a ∙ along_turned b a i j g ∙ ap (after (lift F b a)) (sym (o.entries b));
          }
        where
          trail : Trail s p u
          trail = subst (Trails s) e (pop_trail s w)

          path : List Step
          path = carry_by F trail.steps

          valid : path_fault S trail.steps ≡ 0
          valid = rw hs at trail.valid

          -- the chip's queue at a has the carried path's entry at its head, and q behind it
          Stands : Addr → List (Entry P) → Type 0
          Stands a q = queue_at t a ≡ atop (along path trail.last p a) q

          along_turned : (b a : Addr) → In S b → In T a → Owns S F b a
              → along path trail.last p a ≡ after (lift F b a) (along trail.steps trail.last p b)
          along_turned b a i j o = path_along trail.steps trail.last p b a valid i j o

          before : (b a : Addr) → In S b → In T a → Owns S F b a → Stands a (lifted (lift F b a) (queue_at u b))
          before b a i j o =
              M.queues b a i j o
              ∙ ap (lifted (lift F b a)) (trail.queues b)
              ∙ lifted_atop (lift F b a) (along trail.steps trail.last p b) (queue_at u b)
              ∙ ap (λ (x : Option (Entry P)). atop x (lifted (lift F b a) (queue_at u b))) (sym (along_turned b a i j o))

          before_over : (a : Addr) (j : ℕ) (d : Addr) → F [] ≡ a ++ (j ∷ d) → Stands a (replicate (held u) (entry 0 (child j)))
          before_over a j d q =
              M.over a j d q
              ∙ ap (λ (n : ℕ). replicate n (entry 0 (child j))) (length_perm (pop_some s p u w e).contents)
              ∙ ap (λ (x : Option (Entry P)). atop x (replicate (held u) (entry 0 (child j)))) (sym (path_over trail.steps trail.last p a j d q))

          before_off : (c : Addr) (x y : ℕ) (d g : Addr) → (x ≡ y → ⊥) → F [] ≡ c ++ (y ∷ g) → Stands (c ++ (x ∷ d)) []
          before_off c x y d g n q =
              M.off c x y d g n q ∙ ap (λ (o : Option (Entry P)). atop o []) (sym (path_off trail.steps trail.last p c x y d g n q))

          heads : (a : Addr) → In (shape t) a → Heads (along path trail.last p a) (queue_at t a)
          heads a h = by_meet (meet a (F []))
            where
              at_head : (q : List (Entry P)) → Stands a q → Heads (along path trail.last p a) (queue_at t a)
              at_head q g = on_head (along path trail.last p a) (queue_at t a) q g

              by_meet : Meet a (F []) → Heads (along path trail.last p a) (queue_at t a)
              by_meet (below d q) =
                  let o = owner K a (d, q) in
                  at_head (lifted (lift F o.node a) (queue_at u o.node)) (before o.node a o.there (rw ht at h) o.owns)
              by_meet (over j d q) = at_head (replicate (held u) (entry 0 (child j))) (before_over a j d q)
              by_meet (apart c x y d g n q r) = at_head [] (subst (λ (z : Addr). Stands z []) (sym q) (before_off c x y d g n r))

          source_heads : (b : Addr) → In (shape s) b → Heads (along trail.steps trail.last p b) (queue_at s b)
          source_heads b i = on_head (along trail.steps trail.last p b) (queue_at s b) (queue_at u b) (trail.queues b)

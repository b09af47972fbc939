-- The carried path. If a path has no fault, the carried path has none, it has at most as many steps as the target is high, and at each target node it
-- makes the lift of the entry that the path makes at the node's owner (`carried_along`). Push and pop both rest on this law.
use mathlib.Core.Path.{◌≡◌, refl, sym, ap, ap₂, ◌∙◌, subst}
use Prim.Native.Nat.{ℕ, ◌≤◌}
use native.Mathlib.Decide.{ℕ_discrete, dec_le}
use native.Mathlib.Omega.{arith}
use mathlib.Core.List.{List, [], ◌∷◌, ◌++◌, append-nil, append_assoc, append_cancel_left}
use mathlib.Core.Option.{none, some}
use lib.ListN.{length, drop}
use lib.Seq.{drop-append_seam}
use borrow.Author.Tests.{eq-eqb, ne_eqb}
use Rattle.base.proofs.Prefix.{Meet, below, over, apart, meet, apart-prefix}
use Rattle.topology.specs.Tree.{Topo, width, height}
use Rattle.topology.specs.Address.{Addr, child, In, sub, Above}
use Rattle.topology.proofs.Ancestry.{in_below, in_join, sub-append}
use Rattle.topology.proofs.AncestryOrder.{above_trans, above-strict}
use Rattle.pifo_model.specs.Queue.{entry, child as child_item}
use Rattle.pifo_model.specs.Tree.{Step, step, path_fault}
use Rattle.pifo_model.proofs.PathFault.{fault_end, end_fault, fault_step, step_fault, too_long}
use Rattle.pifo_model.specs.Addressed.{along}
use Rattle.pair_model.specs.Mirror.{toward, Owns, ranked, lift}
use Rattle.pair_model.specs.Carrying.{steps, carry_from}
use Rattle.pair_model.proofs.Toward.{toward_over, toward-apart}
use Rattle.pair_model.proofs.Images.{Keeps}
use Rattle.pair_model.proofs.Lift.{after}
use Rattle.pair_model.proofs.Owns.{owner_low}

-- Steps down a way that exists, followed by steps with no fault, have no fault.
pub fault-steps : (t : Topo) (r : ℕ) (g : Addr) (rest : List Step) → In t g → path_fault (sub t g) rest ≡ 0 → path_fault t (steps r g ++ rest) ≡ 0
fault-steps t r [] rest i h = h
fault-steps t r (k ∷ g) rest (p, l, i) h =
    step_fault t k r (steps r g ++ rest) record { low = p; high = l; rest = fault-steps (child t k) r g rest i h }

-- a path with no fault is no longer than the tree is high
pub fault-length : (t : Topo) (ss : List Step) → path_fault t ss ≡ 0 → length ss ≤ height t
fault-length t ss h = by_length (dec_le (length ss) (height t))
  where
    by_length : Dec (length ss ≤ height t) → length ss ≤ height t
    by_length (yes l) = l
    by_length (no l) = absurd (omega (arith, h, too_long t ss (omega arith)))

-- Below a leaf there is no node.
leaf_only : (t : Topo) (a d : Addr) → width (sub t a) ≡ 0 → In t (a ++ d) → d ≡ []
leaf_only t a [] e i = refl
leaf_only t a (k ∷ d) e i =
    let r = in_below t a (k ∷ d) i in
    absurd (omega (arith, r.0, r.1))

-- The entries that steps down a way, and some steps after them, make at an address: behind the way, on it, and off it.
module _ {P : Type 0} (r : ℕ) (rest : List Step) (l : ℕ) (p : P) where
  pub along-behind : (g d : Addr) → along (steps r g ++ rest) l p (g ++ d) ≡ along rest l p d
  along-behind [] d = refl
  along-behind (k ∷ g) d = rw (eq-eqb k k refl) (along-behind g d)

  pub along_on : (d : Addr) (j : ℕ) (g : Addr) → along (steps r (d ++ (j ∷ g)) ++ rest) l p d ≡ some (entry r (child_item j))
  along_on [] j g = refl
  along_on (k ∷ d) j g = rw (eq-eqb k k refl) (along_on d j g)

  pub along_off : (c : Addr) (x y : ℕ) (d g : Addr) → (x ≡ y → ⊥) → along (steps r (c ++ (y ∷ g)) ++ rest) l p (c ++ (x ∷ d)) ≡ none
  along_off [] x y d g n = rw (ne_eqb y x (λ e. n (sym e)))
  along_off (k ∷ c) x y d g n = rw (eq-eqb k k refl) (along_off c x y d g n)

module _ {S T : Topo} {F : Addr → Addr} (K : Keeps S T F) where
  -- one step without fault from the node at c: the node to which it leads, and the way of the steps that it is carried to
  record Leg (c : Addr) (i : ℕ) (r : ℕ) (ss : List Step) : Type 0 where
    there : In S (c ++ (i ∷ []))
    rest : path_fault (sub S (c ++ (i ∷ []))) ss ≡ 0
    way : Addr
    to : F (c ++ (i ∷ [])) ≡ F c ++ way
    carried : carry_from F c (step i r ∷ ss) ≡ steps r way ++ carry_from F (c ++ (i ∷ [])) ss

  leg : (c : Addr) (i r : ℕ) (ss : List Step) → In S c → path_fault (sub S c) (step i r ∷ ss) ≡ 0 → Leg c i r ss
  leg c i r ss h e =
      let f = fault_step (sub S c) i r ss e in
      let there = in_join S c (i ∷ []) h (f.low, f.high, tt) in
      let w = K.down c (c ++ (i ∷ [])) h there (i ∷ [], refl) in
      let dropped : drop (length (F c)) (F (c ++ (i ∷ []))) ≡ w.0 = ap (drop (length (F c))) w.1 ∙ drop-append_seam (F c) w.0 in
      record {
        there = there;
        rest = rw (sub-append S c (i ∷ [])) f.rest;
        way = w.0;
        to = w.1;
        carried = ap (λ (g : Addr). steps r g ++ carry_from F (c ++ (i ∷ [])) ss) dropped;
      }

  pub carried_fault : (c : Addr) (ss : List Step) → In S c → path_fault (sub S c) ss ≡ 0 → path_fault (sub T (F c)) (carry_from F c ss) ≡ 0
  carried_fault c [] h e = end_fault (sub T (F c)) (K.leaf c h (fault_end (sub S c) e))
  carried_fault c (step i r ∷ ss) h e =
      let g = leg c i r ss h e in
      let down = in_below T (F c) g.way (subst (In T) g.to (K.there (c ++ (i ∷ [])) g.there)) in
      let same : sub T (F (c ++ (i ∷ []))) ≡ sub (sub T (F c)) g.way = ap (sub T) g.to ∙ sub-append T (F c) g.way in
      rw g.carried
      (fault-steps (sub T (F c)) r g.way (carry_from F (c ++ (i ∷ [])) ss) down
      (rw same at (carried_fault (c ++ (i ∷ [])) ss g.there g.rest)))

  -- The three cases of a step: the target node at a lies behind the way of the step from c to child k, on it, or off it.
  module _ {P : Type 0} (l : ℕ) (p : P) (k r : ℕ) (ss : List Step) (c e d b a : Addr) (is : b ≡ c ++ e) (at : a ≡ F c ++ d) (i : In S b)
      (o : Owns S F b a) (g : Leg c k r ss) where
    abbrev next : Addr
    next = c ++ (k ∷ [])

    -- if the child is b or lies above it, the child's image is a or lies above it
    child_low : Above next b → Above (F next) a
    child_low u = above_trans (F (c ++ (k ∷ []))) (F b) a (K.down (c ++ (k ∷ [])) b g.there i u) o.covers

    behind : (d' : Addr) → d ≡ g.way ++ d' → a ≡ F next ++ d'
    behind d' q =
        at ∙ ap (λ (z : Addr). F c ++ z) q ∙ sym (append_assoc (F c) g.way d') ∙ ap (λ (z : Addr). z ++ d') (sym g.to)

    on : (x : ℕ) (g' : Addr) → g.way ≡ d ++ (x ∷ g') → F next ≡ a ++ (x ∷ g')
    on x g' q =
        g.to ∙ ap (λ (z : Addr). F c ++ z) q ∙ sym (append_assoc (F c) d (x ∷ g')) ∙ ap (λ (z : Addr). z ++ (x ∷ g')) (sym at)

    -- if a lies on the way, its owner is c: the child's image lies below a, and nodes below other children have images unrelated to it
    on_owner : (x : ℕ) (g' : Addr) → g.way ≡ d ++ (x ∷ g') → e ≡ []
    on_owner x g' q = by_rest e is
      where
        low : Above next b → ⊥
        low u = above-strict a x g' (subst (λ (y : Addr). Above y a) (on x g' q) (child_low u))

        other : (z : ℕ) (e' : Addr) → b ≡ c ++ (z ∷ e') → Dec (k ≡ z) → ⊥
        other z e' is (yes p) = low (e', is ∙ ap (λ (z : ℕ). c ++ (z ∷ e')) (sym p) ∙ sym (append_assoc c (k ∷ []) e'))
        other z e' is (no n) =
            K.apart c z k e' [] (λ p. n (sym p)) (subst (In S) is i) g.there
            (above_trans (F (c ++ (z ∷ e'))) a (F (c ++ (k ∷ []))) (subst (λ (y : Addr). Above (F y) a) is o.covers) (x ∷ g', on x g' q))

        by_rest : (e : Addr) → b ≡ c ++ e → e ≡ []
        by_rest [] is = refl
        by_rest (z ∷ e') is = absurd (other z e' is (ℕ_discrete k z))

    lift_on : (x : ℕ) (g' : Addr) → g.way ≡ d ++ (x ∷ g')
        → along (steps r g.way ++ carry_from F next ss) l p d ≡ after (lift F b a) (along (step k r ∷ ss) l p e)
    lift_on x g' q =
        let e0 = on_owner x g' q in
        let same : F (b ++ (k ∷ [])) ≡ a ++ (x ∷ g') =
        ap (λ (z : Addr). F (z ++ (k ∷ []))) (is ∙ ap (λ (y : Addr). c ++ y) e0 ∙ append-nil c) ∙ on x g' q in
        rw (q, e0, same, toward_over a x g') (along_on r (carry_from F (c ++ (k ∷ [])) ss) l p d x g')

    lift_off : (m : Addr) (x y : ℕ) (u v : Addr) → (x ≡ y → ⊥) → d ≡ m ++ (x ∷ u) → g.way ≡ m ++ (y ∷ v)
        → along (steps r g.way ++ carry_from F next ss) l p d ≡ after (lift F b a) (along (step k r ∷ ss) l p e)
    lift_off m x y u v n q w =
        rw (q, w) (along_off r (carry_from F (c ++ (k ∷ [])) ss) l p m x y u v n) ∙ sym (nothing e is)
      where
        here : a ≡ (F c ++ m) ++ (x ∷ u)
        here = at ∙ ap (λ (z : Addr). F c ++ z) q ∙ sym (append_assoc (F c) m (x ∷ u))

        there : F next ≡ (F c ++ m) ++ (y ∷ v)
        there = g.to ∙ ap (λ (z : Addr). F c ++ z) w ∙ sym (append_assoc (F c) m (y ∷ v))

        nothing : (e : Addr) → b ≡ c ++ e → after (lift F b a) (along (step k r ∷ ss) l p e) ≡ none
        nothing [] is =
            let same : F (b ++ (k ∷ [])) ≡ (F c ++ m) ++ (y ∷ v) = ap (λ (z : Addr). F (z ++ (k ∷ []))) (is ∙ append-nil c) ∙ there in
            ap (ranked r) (ap₂ toward here same ∙ toward-apart (F c ++ m) x y u v n)
        nothing (z ∷ e) is = by_child (ℕ_discrete k z)
          where
            by_child : Dec (k ≡ z) → after (lift F b a) (along (step k r ∷ ss) l p (z ∷ e)) ≡ none
            by_child (yes q) =
                let low = child_low (e, is ∙ ap (λ (z : ℕ). c ++ (z ∷ e)) (sym q) ∙ sym (append_assoc c (k ∷ []) e)) in
                absurd (n (apart-prefix (F c ++ m) x y u v low.0 (sym here ∙ low.1 ∙ ap (λ (z : Addr). z ++ low.0) there)))
            by_child (no n) = rw (ne_eqb k z n)

    lift_behind : (d' : Addr) → d ≡ g.way ++ d'
        → ((e' : Addr) → b ≡ next ++ e' → a ≡ F next ++ d' → along (carry_from F next ss) l p d' ≡ after (lift F b a) (along ss l p e'))
        → along (steps r g.way ++ carry_from F next ss) l p d ≡ after (lift F b a) (along (step k r ∷ ss) l p e)
    lift_behind d' q more =
        let at' = behind d' q in
        let low = owner_low K b next a i g.there o (d', at') in
        let rest : e ≡ k ∷ low.0 = append_cancel_left c e (k ∷ low.0) (sym is ∙ low.1 ∙ append_assoc c (k ∷ []) low.0) in
        rw (q, rest, eq-eqb k k refl) (along-behind r (carry_from F next ss) l p g.way d' ∙ more low.0 low.1 at')

  -- The entry that the carried path makes at the target node at a, owned by the source node at b, is the lift of the entry that the path makes at b.
  -- Here the paths begin at the source node at c and at its image; b lies e below c, and a lies d below c's image. By induction on the steps:
  -- * At its end c is a leaf, and so is its image: e and d are empty, and both paths make the packet's entry.
  -- * A step from c to child k goes down the way g to that child's image. If d continues g, the child's image is a or above it, so the child is b or
  --   above it, and the remaining steps decide. If d ends on the way, b is c itself, and its entry is lifted toward the child. If d leaves the way, no
  --   entry is made at a; and either none is made at b, or the one made there names a child whose image is not below a.
  pub carried_along : {P : Type 0} (ss : List Step) (l : ℕ) (p : P) (c e d b a : Addr) → In S c → path_fault (sub S c) ss ≡ 0
      → b ≡ c ++ e → a ≡ F c ++ d → In S b → In T a → Owns S F b a → along (carry_from F c ss) l p d ≡ after (lift F b a) (along ss l p e)
  carried_along [] l p c e d b a h f is at i j o =
      let e0 = leaf_only S c e (fault_end (sub S c) f) (subst (In S) is i) in
      let d0 = leaf_only T (F c) d (K.leaf c h (fault_end (sub S c) f)) (subst (In T) at j) in
      rw (e0, d0)
  carried_along (step k r ∷ ss) l p c e d b a h f is at i j o =
      let g = leg c k r ss h f in
      rw g.carried
      (by_meet g (meet d g.way) (λ e' d'. carried_along ss l p (c ++ (k ∷ [])) e' d' b a g.there g.rest))
    where
      by_meet : (g : Leg c k r ss) → Meet d g.way
          → ((e' d' : Addr) → b ≡ (c ++ (k ∷ [])) ++ e' → a ≡ F (c ++ (k ∷ [])) ++ d' → In S b → In T a → Owns S F b a
          → along (carry_from F (c ++ (k ∷ [])) ss) l p d' ≡ after (lift F b a) (along ss l p e'))
          → along (steps r g.way ++ carry_from F (c ++ (k ∷ [])) ss) l p d ≡ after (lift F b a) (along (step k r ∷ ss) l p e)
      by_meet g (below d' q) more = lift_behind l p k r ss c e d b a is at i o g d' q (λ e' is' at'. more e' d' is' at' i j o)
      by_meet g (over x g' q) more = lift_on l p k r ss c e d b a is at i o g x g' q
      by_meet g (apart m x y u v n q w) more = lift_off l p k r ss c e d b a is at i o g m x y u v n q w

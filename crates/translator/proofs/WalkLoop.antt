-- The carrying of a path: after i of its steps the walk is at a source node, and the carried path has reached that node's image or, for a passed node,
-- the image of the next kept node below it.
use mathlib.Core.Path.{◌≡◌, refl, sym, ap, ap₂, ◌∙◌}
use Prim.Native.Nat.{ℕ, suc, ◌+◌, ◌<◌}
use native.Mathlib.Numerals.{add-one}
use native.Mathlib.Omega.{arith}
use mathlib.Core.List.{List, [], ◌∷◌, ◌++◌, append-nil, append_assoc}
use lib.ListN.{length, drop, length-append, length-drop}
use Rattle.std.proofs.lemmas.List.{length-map}
use Rattle.topology.specs.Tree.{Topo, size}
use Rattle.topology.specs.Address.{Above, addr, depth, route}
use Rattle.topology.specs.Reader.{fault, tree}
use Rattle.topology.specs.Branch.{child_at}
use Rattle.std.specs.Prelude.{Option, None, Some}
use Rattle.topology.proofs.Numbering.{addr_root, addr_in, num_lt}
use Rattle.topology.proofs.Ancestry.{size_pos}
use Rattle.topology.proofs.Lookup.{valid_size}
use Rattle.topology.proofs.Reader.{drawn}
use Rattle.pifo_model.specs.Tree.{Step, step, path_fault}
use Rattle.topology_reduction.specs.Kept.{kept_at}
use Rattle.topology_reduction.specs.Reduced.{next_kept}
use Rattle.topology_reduction.proofs.Kept.{kept_in, kept-is}
use Rattle.topology_reduction.proofs.NextKept.{next_kept_lem}
use Rattle.embedding_model.specs.Rules.{image, Passes}
use Rattle.embedding_model.specs.Check.{map_fault}
use Rattle.embedding_model.proofs.MapFault.{map_fault_none}
use Rattle.pair_model.specs.Carrying.{steps, carry}
use Rattle.pair_model.proofs.CarryNodes.{image-below, carry-nodes}
use Rattle.queue_push.specs.Calls.{step_of, steps_of, path_of, Plain}
use Rattle.queue_push.specs.declared.Step.{Step as CodeStep}
use Rattle.queue_push.specs.declared.Path.{Path}
use Rattle.queue_push.proofs.PathSteps.{steps_path, path_plain}
use Rattle.translator.specs.InnerWays.{Over}
use Rattle.translator.proofs.Standing.{Standing, standing_start, standing_lost, standing_child, standing_next}
use Rattle.topology_reduction.specs.InnerNodes.{kept_node}
use Rattle.pair_model.specs.InnerCarryNodes.{carry_nodes, carry_root}

-- The steps carried so far, followed by the carried rest of the path, are the carried path (`rest`).
pub record Walking (source target m : List ℕ) (path carried : Path) (from node i : ℕ) : Type 0 where
  pub standing : Standing source (steps_of path) node i
  pub image : from ≡ image m (kept_node (tree source) node)
  pub plain : Plain carried
  pub leaf : carried.leaf_rank ≡ path.leaf_rank
  pub below : carried.count ≡ depth (tree target) from
  pub rest : steps_of carried ++ carry_nodes (tree source) (tree target) m node (drop i (steps_of path)) ≡ carry_root (tree source) (tree target) m (steps_of path)

-- A path carried to node x of the target and then along the way down to y has reached y.
module _ (target : List ℕ) (carried : Path) (rank x y : ℕ) (plain : Plain carried) (below : carried.count ≡ depth (tree target) x)
    (o : Above (addr (tree target) x) (addr (tree target) y)) (more : Path)
    (is : more ≡ path_of (steps_of carried ++ steps rank (route (tree target) x y)) carried.leaf_rank) where
  abbrev way : List Step
  way = steps rank (route (tree target) x y)

  more_steps : steps_of more ≡ steps_of carried ++ way
  more_steps = ap steps_of is ∙ steps_path (steps_of carried ++ way) carried.leaf_rank

  more_plain : Plain more
  more_plain = rw is (path_plain (steps_of carried ++ way) carried.leaf_rank)

  more_below : more.count ≡ depth (tree target) y
  more_below =
      omega (
        arith,
        ap (λ (p : Path). p.count) is,
        length-append (steps_of carried) way,
        ap (λ (p : Path). p.count) plain,
        below,
        length-map (route (tree target) x y) (λ (k : ℕ). step k rank),
        length-drop (depth (tree target) x) (addr (tree target) y),
        ap length o.1,
        length-append (addr (tree target) x) o.0,
      )

module _ (source target m : List ℕ) (z : map_fault source target m ≡ 0) where
  abbrev S : Topo
  S = tree source

  abbrev T : Topo
  T = tree target

  pub valid_source : fault 32 source ≡ 0
  valid_source = ((map_fault_none source target m).0 z).0

  valid_target : fault 64 target ≡ 0
  valid_target = ((map_fault_none source target m).0 z).1

  passes : Passes S T m
  passes = ((map_fault_none source target m).0 z).2

  -- the next kept node, as the code finds it
  module _ (n k : ℕ) (l : n < size S) (e : k ≡ next_kept source n) where
    kept_found : k ≡ kept_node S n
    kept_found = e ∙ ap (λ (bs : List ℕ). next_kept bs n) (sym (drawn 32 source valid_source)) ∙ next_kept_lem S n l

    kept-lt : kept_node S n < size S
    kept-lt = num_lt S (kept_at S (addr S n)) (kept_in S (addr S n) (addr_in S n l))

    pub kept_listed : k < length m
    kept_listed = omega (arith, kept_found, kept-lt, passes.long)

    kept-image : image m (kept_node S n) < length target
    kept-image =
        omega (arith, passes.within (kept_node S n) kept-lt (kept-is S (addr S n) (addr_in S n l)), valid_size 64 target valid_target)

  module _ (path : Path) where
    abbrev ss : List Step
    ss = steps_of path

    -- ---- down to the first kept node's image

    module _ (k : ℕ) (e : k ≡ next_kept source 0) where
      pub walking_listed : k < length m
      walking_listed = kept_listed 0 k (size_pos S) e

      first_above : Above (addr T 0) (addr T (image m k))
      first_above = rw (addr_root T) (addr T (image m k), refl)

      pub walking_first : Over target 0 (image m k)
      walking_first =
          record {
            valid = valid_target;
            upper = omega (arith, size_pos T, valid_size 64 target valid_target);
            lower = omega (arith, ap (image m) (kept_found 0 k (size_pos S) e), kept-image 0 k (size_pos S) e);
            above = first_above;
          }

      -- a path without steps has reached the root
      pub walking_none : (path_of [] path.leaf_rank).count ≡ depth T 0
      walking_none = sym (ap length (addr_root T))

      pub walking_start : (carried : Path) → carried ≡ path_of (steps 0 (route T 0 (image m k))) path.leaf_rank
          → Walking source target m path carried (image m k) 0 0
      walking_start carried is =
          let none : Path = path_of [] path.leaf_rank in
          record {
            standing = standing_start source valid_source ss;
            image = ap (image m) (kept_found 0 k (size_pos S) e);
            plain = more_plain target none 0 0 (image m k) refl walking_none first_above carried is;
            leaf = ap (λ (p : Path). p.leaf_rank) is;
            below = more_below target none 0 0 (image m k) refl walking_none first_above carried is;
            rest =
                ap (λ (l : List Step). l ++ carry_nodes S T m 0 ss) (more_steps target none 0 0 (image m k) refl walking_none first_above carried is)
                ∙ ap (λ (n : ℕ). steps 0 (route T 0 (image m n)) ++ carry_nodes S T m 0 ss) (kept_found 0 k (size_pos S) e);
          }

    module _ (carried : Path) (from node i : ℕ) (w : Walking source target m path carried from node i) where
      -- ---- one more step

      module _ (s : CodeStep) (d : drop i ss ≡ step_of s ∷ drop (suc i) ss) (r : Option ℕ) (e : r ≡ child_at source node s.child) where
        pub walking_lost : path_fault S ss ≡ 0 → r ≡ None → ⊥
        walking_lost none q = omega (arith, none, standing_lost source valid_source ss node i w.standing s d r e q)

        module _ (next : ℕ) (q : r ≡ Some next) where
          stands : Standing source ss next (i + 1)
          stands = standing_next source valid_source ss node i w.standing s d r e next q

          module _ (k : ℕ) (f : k ≡ next_kept source next) where
            pub walking_child : k < length m
            walking_child = kept_listed next k stands.there f

            found : image m k ≡ image m (kept_node S next)
            found = ap (image m) (kept_found next k stands.there f)

            pub walking_over : Over target from (image m k)
            walking_over =
                let c = standing_child source valid_source ss node i w.standing s d r e next q in
                record {
                  valid = valid_target;
                  upper = omega (arith, w.image, kept-image node (next_kept source node) w.standing.there refl);
                  lower = omega (arith, found, kept-image next k stands.there f);
                  above = rw (w.image, found, c.1) (image-below S T m passes node s.child c.0);
                }

            -- The steps carried so far, followed by the way to the child's image, are the steps carried up to the child.
            pub walking_next : (more : Path)
                → more ≡ path_of (steps_of carried ++ steps s.rank (route T from (image m k))) carried.leaf_rank
                → Walking source target m path more (image m k) next (i + 1)
            walking_next more is =
                let at = (standing_child source valid_source ss node i w.standing s d r e next q).1 in
                let others : List Step = drop (suc i) ss in
                let under = walking_over.above in
                record {
                  standing = stands;
                  image = found;
                  plain = more_plain target carried s.rank from (image m k) w.plain w.below under more is;
                  leaf = ap (λ (p : Path). p.leaf_rank) is ∙ w.leaf;
                  below = more_below target carried s.rank from (image m k) w.plain w.below under more is;
                  rest =
                      rw (add-one i)
                      (ap (λ (l : List Step). l ++ carry_nodes S T m next others)
                      (more_steps target carried s.rank from (image m k) w.plain w.below under more is)
                      ∙ append_assoc (steps_of carried) (steps s.rank (route T from (image m k))) (carry_nodes S T m next others)
                      ∙ ap₂ (λ (x y : ℕ). steps_of carried ++ (steps s.rank (route T x y) ++ carry_nodes S T m next others)) w.image found
                      ∙ ap (λ (c : ℕ). steps_of carried ++ (steps s.rank (route T (image m (kept_node S node)) (image m (kept_node S c))) ++ carry_nodes S T m c others)) at
                      ∙ ap (λ (l : List Step). steps_of carried ++ carry_nodes S T m node l) (sym d)
                      ∙ w.rest);
                }

      -- ---- the end of the path

      pub walking_end : drop i ss ≡ [] → path_fault S ss ≡ 0 → carried ≡ path_of (carry S T m ss) path.leaf_rank
      walking_end d none =
          let all : steps_of carried ≡ carry S T m ss =
          sym (append-nil (steps_of carried))
          ∙ ap (λ (l : List Step). steps_of carried ++ carry_nodes S T m node l) (sym d)
          ∙ w.rest
          ∙ carry-nodes S T m ss none in
          w.plain ∙ ap₂ path_of all w.leaf

-- The walk down the source along a path: after i steps without fault it is at a node, and the remaining steps determine the path's fault.
use mathlib.Core.Path.{◌≡◌, sym, ap, ◌∙◌}
use mathlib.Core.Logic.{◌≢◌}
use Prim.Native.Nat.{ℕ, suc, ◌+◌, ◌<◌}
use native.Mathlib.Numerals.{add-one}
use native.Mathlib.Omega.{arith}
use mathlib.Core.List.{List, [], ◌∷◌}
use lib.ListN.{length, drop, get_or}
use Rattle.topology.specs.Tree.{Topo, width, size}
use Rattle.topology.specs.Address.{child, sub, subtree, child_of, depth}
use Rattle.topology.specs.Reader.{fault, tree}
use Rattle.topology.specs.Branch.{child_at}
use Rattle.std.specs.Prelude.{Option, None, Some}
use Rattle.topology.proofs.Numbering.{addr_root}
use Rattle.topology.proofs.Ancestry.{size_pos}
use Rattle.topology.proofs.Children.{HasChild, child_of_lt, subtree-child_of, depth-child_of}
use Rattle.topology.proofs.Lookup.{valid_size, valid_width, valid_child, valid_missing}
use Rattle.pifo_model.specs.Tree.{Step, path_fault}
use Rattle.pifo_model.proofs.PathFault.{end_fault, fault-above, fault_on, fault_off}
use Rattle.queue_push.specs.Calls.{step_of}
use Rattle.queue_push.specs.declared.Step.{Step as CodeStep}

pub record Standing (source : List ℕ) (ss : List Step) (node i : ℕ) : Type 0 where
  pub there : node < size (tree source)
  pub deep : depth (tree source) node ≡ i
  pub same : path_fault (tree source) ss ≡ path_fault (subtree (tree source) node) (drop i ss)

module _ (source : List ℕ) (valid : fault 32 source ≡ 0) (ss : List Step) where
  abbrev S : Topo
  S = tree source

  pub standing_start : Standing source ss 0 0
  standing_start =
      record {
        there = size_pos S;
        deep = ap length (addr_root S);
        same = ap (λ (u : Topo). path_fault u ss) (sym (ap (sub S) (addr_root S)));
      }

  module _ (node i : ℕ) (w : Standing source ss node i) where
    pub standing_in : node < length source
    standing_in = omega (arith, w.there, valid_size 32 source valid)

    -- ---- one more step

    module _ (s : CodeStep) (d : drop i ss ≡ step_of s ∷ drop (suc i) ss) where
      abbrev others : List Step
      others = drop (suc i) ss

      module _ (r : Option ℕ) (e : r ≡ child_at source node s.child) where
        pub standing_lost : r ≡ None → path_fault S ss ≡ 13
        standing_lost q =
            let none = valid_missing 32 source valid node s.child (sym e ∙ q) in
            w.same
            ∙ ap (path_fault (subtree S node)) d
            ∙ fault_off (subtree S node) s.child s.rank others (λ x. none (w.there, x.0, x.1))

        module _ (next : ℕ) (q : r ≡ Some next) where
          pub standing_child : HasChild S node s.child × (next ≡ child_of S node s.child)
          standing_child = valid_child 32 source valid node s.child next (sym e ∙ q)

          pub standing_next : Standing source ss next (i + 1)
          standing_next =
              let has = standing_child.0 in
              let at = standing_child.1 in
              let kid : subtree S next ≡ child (subtree S node) s.child = ap (subtree S) at ∙ subtree-child_of S node s.child has in
              rw (add-one i)
              record {
                there = omega (arith, at, child_of_lt S node s.child has);
                deep = ap (depth S) at ∙ depth-child_of S node s.child has ∙ ap suc w.deep;
                same =
                    w.same
                    ∙ ap (path_fault (subtree S node)) d
                    ∙ fault_on (subtree S node) s.child s.rank others has.1 has.2
                    ∙ ap (λ (u : Topo). path_fault u others) (sym kid);
              }

    -- ---- the end of the path

    module _ (d : drop i ss ≡ []) where
      done : path_fault S ss ≡ path_fault (subtree S node) []
      done = w.same ∙ ap (path_fault (subtree S node)) d

      width_at : width (subtree S node) ≡ get_or source node 0
      width_at = valid_width 32 source valid node standing_in

      pub standing_above : get_or source node 0 ≢ 0 → path_fault S ss ≡ 14
      standing_above n = done ∙ fault-above (subtree S node) (λ y. n (sym width_at ∙ y))

      pub standing_leaf : get_or source node 0 ≡ 0 → path_fault S ss ≡ 0
      standing_leaf y = done ∙ end_fault (subtree S node) (width_at ∙ y)

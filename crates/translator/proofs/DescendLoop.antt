-- The way down the target from one node to another below it, and the steps for it.
use mathlib.Core.Path.{◌≡◌, sym, ap, ap₂, ◌∙◌}
use mathlib.Core.Logic.{◌≢◌}
use Prim.Native.Nat.{ℕ, ◌≤◌, ◌<◌}
use native.Mathlib.Omega.{arith}
use native.Mathlib.Decide.{ℕ_discrete}
use mathlib.Core.List.{List, [], ◌∷◌, ◌++◌, append-nil, append_assoc}
use lib.ListN.{length, length-append}
use Rattle.topology.specs.Tree.{Topo, size}
use Rattle.topology.specs.Address.{addr, child_of, depth, route}
use Rattle.topology.specs.Reader.{tree}
use Rattle.topology.specs.Branch.{toward_at}
use Rattle.topology.specs.declared.Child.{Child}
use Rattle.std.specs.Prelude.{Option, None, Some}
use Rattle.topology.proofs.Numbering.{addr_in}
use Rattle.topology.proofs.Ancestry.{above_from, in_height}
use Rattle.topology.proofs.Children.{child_of_lt, child_of_after, depth-child_of, route_self, route_step}
use Rattle.topology.proofs.Cases.{toward_before}
use Rattle.topology.proofs.Lookup.{IsToward, Leads, valid_size, valid_toward}
use Rattle.topology.proofs.Reader.{within}
use Rattle.pifo_model.specs.Tree.{Step, step}
use Rattle.pair_model.specs.Carrying.{steps}
use Rattle.queue_push.specs.Calls.{steps_of, path_of, Plain, extended_by}
use Rattle.queue_push.specs.declared.Path.{Path}
use Rattle.queue_push.proofs.PathSteps.{steps_path, path_plain, path_more}
use Rattle.translator.specs.InnerWays.{Over}

-- The path has the steps down to `node`; with those of the rest of the way it has them all.
pub record Descending (bytes : List ℕ) (all : List Step) (l to rank : ℕ) (path : Path) (node : ℕ) : Type 0 where
  pub over : Over bytes node to
  pub plain : Plain path
  pub leaf : path.leaf_rank ≡ l
  pub deep : path.count ≡ depth (tree bytes) node
  pub rest : steps_of path ++ steps rank (route (tree bytes) node to) ≡ all

module _ (bytes : List ℕ) (all : List Step) (l to rank : ℕ) (path : Path) (node : ℕ) (d : Descending bytes all l to rank path node) where
  abbrev T : Topo
  T = tree bytes

  size_is : size T ≡ length bytes
  size_is = valid_size 64 bytes d.over.valid

  upper : node < size T
  upper = omega (arith, d.over.upper, size_is)

  descending_room : path.count < 9
  descending_room = omega (arith, d.deep, in_height T (addr T node) (addr_in T node upper), (within 64 bytes d.over.valid).steps)

  module _ (r : Option Child) (is : r ≡ toward_at bytes node to) where
    leads : node ≢ to → Leads T node to r
    leads n = rw is (valid_toward 64 bytes d.over.valid node to d.over.upper d.over.lower d.over.above n)

    -- there is no child toward the node itself
    pub descending_none : r ≡ None → node ≡ to
    descending_none q = by_node (ℕ_discrete node to)
      where
        by_node : Dec (node ≡ to) → node ≡ to
        by_node (yes e) = e
        by_node (no n) = absurd (let lost = leads n in rw q at lost)

    module _ (c : Child) (q : r ≡ Some c) where
      apart : node ≢ to
      apart e = clash (sym (sym q ∙ is ∙ sym (toward_before bytes node to (omega (arith, e)))))
        where
          clash : ◌≡◌ {A = Option Child} None (Some c) → ⊥
          clash z = absurd (cc)

      found : IsToward T node to c.number c.node
      found = let there = leads apart in rw q at there

      next_lt : c.node < size T
      next_lt = omega (arith, found.node, child_of_lt T node c.number found.has)

      pub descending_down : (node < c.node) × (c.node ≤ to)
      descending_down =
          let a = above_from T c.node to next_lt (omega (arith, d.over.lower, size_is)) found.above in
          (omega (arith, found.node, child_of_after T node c.number found.has), a.0)

      pub descending_next : (more : Path) → more ≡ extended_by path c.number rank → Descending bytes all l to rank more c.node
      descending_next more e =
          let s : Step = step c.number rank in
          let made : more ≡ path_of (steps_of path ++ (s ∷ [])) path.leaf_rank = e ∙ path_more path c.number rank d.plain descending_room in
          let now : steps_of more ≡ steps_of path ++ (s ∷ []) = ap steps_of made ∙ steps_path (steps_of path ++ (s ∷ [])) path.leaf_rank in
          let rank_kept : more.leaf_rank ≡ path.leaf_rank = ap (λ (p : Path). p.leaf_rank) made in
          let way = route_step T node to c.number found.has (rw (sym found.node) found.above) in
          record {
            over =
                record {
                  valid = d.over.valid;
                  upper = omega (arith, next_lt, size_is);
                  lower = d.over.lower;
                  above = found.above;
                };
            plain = rw made (path_plain (steps_of path ++ (s ∷ [])) path.leaf_rank);
            leaf = rank_kept ∙ d.leaf;
            deep =
                omega (
                  arith,
                  ap (λ (p : Path). p.count) made,
                  length-append (steps_of path) (s ∷ []),
                  ap (λ (p : Path). p.count) d.plain,
                  d.deep,
                  depth-child_of T node c.number found.has,
                  ap (depth T) found.node,
                );
            rest =
                ap₂ (λ (f : List Step) (k : ℕ). f ++ steps rank (route T k to)) now found.node
                ∙ append_assoc (steps_of path) (s ∷ []) (steps rank (route T (child_of T node c.number) to))
                ∙ ap (λ (a : List ℕ). steps_of path ++ steps rank a) (sym way)
                ∙ d.rest;
          }

  pub descending_end : node ≡ to → path ≡ path_of all l
  descending_end e =
      let none : route T node to ≡ [] = ap (route T node) (sym e) ∙ route_self T node in
      d.plain ∙ ap₂ path_of (sym (append-nil (steps_of path)) ∙ ap (λ (a : List ℕ). steps_of path ++ steps rank a) (sym none) ∙ d.rest) d.leaf

-- The reduced drawing needs the same depth as the drawing: a node with one child needs what the child needs, and is replaced by it.
use mathlib.Core.Path.{◌≡◌, refl, sym, ap, ◌∙◌}
use Prim.Native.Nat.{ℕ, ◌^◌, ◌≤◌}
use native.Mathlib.Nat.{add-zero}
use mathlib.Core.List.{List}
use Rattle.base.specs.Sum.{sum}
use Rattle.topology.specs.Tree.{Topo, Forest, node, fnil, fcons}
use Rattle.topology_reduction.specs.Reduced.{joined, reduced, reduced_all}
use Rattle.regular_model.specs.Depth.{LeastDepth}
use Rattle.regular_model.specs.InnerNeed.{enough, powers, need, needs}
use Rattle.regular_model.proofs.Enough.{enough-power}
use Rattle.regular_model.proofs.Depth.{least-depth}

module _ (d : ℕ) (z : 2 ≤ d) where
  need_joined : (ts : Forest) → need d (joined ts) ≡ enough d (sum (powers d (needs d ts)))
  need_joined fnil = refl
  need_joined (fcons t fnil) = sym (ap (enough d) (add-zero (d ^ need d t)) ∙ enough-power d z (need d t))
  need_joined (fcons t (fcons u ts)) = refl

  mutual
    pub need_reduced : (t : Topo) → need d (reduced t) ≡ need d t
    need_reduced (node ts) = need_joined (reduced_all ts) ∙ ap (λ (hs : List ℕ). enough d (sum (powers d hs))) (needs_reduced ts)

    needs_reduced : (ts : Forest) → needs d (reduced_all ts) ≡ needs d ts
    needs_reduced fnil = refl
    needs_reduced (fcons t ts) = cc (need_reduced t, needs_reduced ts)

  -- so the least depth can be computed from the drawing itself
  pub depth_needed : (S : Topo) → LeastDepth S d (need d S)
  depth_needed S = rw need_reduced at (least-depth d z S)

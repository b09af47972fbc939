-- The reduced drawing is within the limits that the drawing meets, so its bytes have no fault.
use mathlib.Core.Path.{◌≡◌, sym, ap, ◌∙◌, subst}
use Prim.Native.Nat.{ℕ, ◌≤◌, max}
use native.Mathlib.Omega.{arith}
use mathlib.Core.List.{List}
use Rattle.topology.specs.Tree.{Topo, Forest, node, fnil, fcons, count, code, height, heights, breadth, breadths}
use Rattle.topology.specs.Reader.{fault, tree, Within}
use Rattle.topology.proofs.Reader.{accepts, drawn, within}
use Rattle.topology.proofs.Decoding.{length_code, tree_code}
use Rattle.topology_reduction.specs.Reduced.{joined, reduced, reduced_all, kept_bytes}
use Rattle.topology_reduction.proofs.Reduced.{code_reduced, size_reduced}
use Rattle.topology_reduction.proofs.RestrictLoop.{restricted_fewer}

height_joined : (ts : Forest) → height (joined ts) ≤ heights ts
height_joined fnil = omega arith
height_joined (fcons t fnil) = omega arith
height_joined (fcons t (fcons u ts)) = omega arith

breadth_joined : (ts : Forest) → breadth (joined ts) ≤ max (count ts) (breadths ts)
breadth_joined fnil = omega arith
breadth_joined (fcons t fnil) = omega arith
breadth_joined (fcons t (fcons u ts)) = omega arith

mutual
  lower : (t : Topo) → (height (reduced t) ≤ height t) × (breadth (reduced t) ≤ breadth t)
  lower (node ts) =
      let r = lowers ts in
      (omega (arith, r.0, height_joined (reduced_all ts)), omega (arith, r.1, r.2, breadth_joined (reduced_all ts)))

  lowers : (ts : Forest) → (heights (reduced_all ts) ≤ heights ts) × (breadths (reduced_all ts) ≤ breadths ts) × (count (reduced_all ts) ≤ count ts)
  lowers fnil = (omega arith, omega arith, omega arith)
  lowers (fcons t ts) =
      let a = lower t in
      let r = lowers ts in
      (omega (arith, a.0, r.0), omega (arith, a.1, r.1), omega (arith, r.2))

pub reduced_within : (limit : ℕ) (t : Topo) → Within limit t → Within limit (reduced t)
reduced_within limit t w =
    record {
      nodes = omega (arith, w.nodes, size_reduced t, restricted_fewer (code t) (code t), length_code t);
      children = omega (arith, w.children, (lower t).1);
      steps = omega (arith, w.steps, (lower t).0);
    }

pub kept-fault : (limit : ℕ) (bytes : List ℕ) → fault limit bytes ≡ 0 → fault limit (kept_bytes bytes) ≡ 0
kept-fault limit bytes h =
    let a = accepts limit (reduced (tree bytes)) (reduced_within limit (tree bytes) (within limit bytes h)) in
    subst (λ (l : List ℕ). fault limit l ≡ 0) (code_reduced (tree bytes) ∙ ap kept_bytes (drawn limit bytes h)) a

-- and its bytes draw the reduced tree
pub kept-tree : (limit : ℕ) (bytes : List ℕ) → fault limit bytes ≡ 0 → tree (kept_bytes bytes) ≡ reduced (tree bytes)
kept-tree limit bytes h =
    ap tree (sym (code_reduced (tree bytes) ∙ ap kept_bytes (drawn limit bytes h))) ∙ tree_code (reduced (tree bytes))

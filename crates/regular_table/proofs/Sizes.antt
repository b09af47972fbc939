-- The number of nodes of a chip, computed level by level without overflow.
use Rattle.std.proofs.Common.{◌≡◌, ℕ, suc, ◌+◌, ◌*◌, ◌^◌, ◌≤◌, ◌<◌, ap, ◌∙◌, arith, add-one}
use Rattle.std.proofs.Math.Nat.{mul_comm, pow-le-pow_right}
use Rattle.topology.specs.Tree.{size}
use Rattle.regular_model.specs.Regular.{complete}
use Rattle.regular_model.specs.InnerNeed.{most_leaves}
use Rattle.regular_model.proofs.Sizes.{size_complete, size_most}

module _ (d k : ℕ) (z : 2 ≤ d) (n : ℕ) (e : n ≡ size (complete d k)) where
  -- one more level
  pub nodes_next : n * d + 1 ≡ size (complete d (k + 1))
  nodes_next =
      let product : n * d ≡ d * size (complete d k) = mul_comm n d ∙ ap (λ (m : ℕ). d * m) e in
      let deeper : size (complete d (k + 1)) ≡ size (complete d (suc k)) = ap (λ (j : ℕ). size (complete d j)) (add-one k) in
      omega (arith, product, deeper, size_complete d k)

  pub nodes-room : (depth : ℕ) → k < depth → d ^ depth ≤ most_leaves → n * d + 1 < 1073741824
  nodes-room depth h most =
      omega (arith, most, pow-le-pow_right {n = d} (omega arith) {i = k + 1} {j = depth} (omega arith), nodes_next, size_most d z (k + 1))

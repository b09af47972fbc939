-- The sizes of complete trees: the numbers of leaves and nodes, and that there are fewer nodes than twice the leaves.
use mathlib.Core.Path.{◌≡◌, sym, ap, ◌∙◌}
use Prim.Native.Nat.{ℕ, zero, suc, ◌*◌, ◌^◌, ◌≤◌, ◌<◌}
use native.Mathlib.Nat.{mul-le-mul_left, pow-zero, pow-succ'}
use native.Mathlib.Omega.{arith}
use borrow.Author.Tests.{ne_eqb}
use Rattle.topology.specs.Tree.{Topo, size, sizes}
use Rattle.regular_model.specs.Regular.{copies, complete, leaves, leaves_of}
use Rattle.regular_model.proofs.Complete.{width-complete}

leaves-copies : (n : ℕ) (t : Topo) → leaves_of (copies n t) ≡ n * leaves t
leaves-copies zero t = omega arith
leaves-copies (suc n) t = omega (arith, leaves-copies n t)

sizes_copies : (n : ℕ) (t : Topo) → sizes (copies n t) ≡ n * size t
sizes_copies zero t = omega arith
sizes_copies (suc n) t = omega (arith, sizes_copies n t)

module _ (d : ℕ) where
  pub leaves_more : 0 < d → (k : ℕ) → leaves (complete d (suc k)) ≡ d * leaves (complete d k)
  leaves_more z k = rw (width-complete d k, ne_eqb d 0 (λ e. omega arith)) (leaves-copies d (complete d k))

  pub leaves-complete : 0 < d → (k : ℕ) → leaves (complete d k) ≡ d ^ k
  leaves-complete z zero = sym (pow-zero d)
  leaves-complete z (suc k) = leaves_more z k ∙ ap (λ (n : ℕ). d * n) (leaves-complete z k) ∙ sym (pow-succ' d k)

  pub size_complete : (k : ℕ) → size (complete d (suc k)) ≡ suc (d * size (complete d k))
  size_complete k = ap suc (sizes_copies d (complete d k))

  -- A complete tree has fewer nodes than twice its leaves.
  pub size_most : 2 ≤ d → (k : ℕ) → size (complete d k) < 2 * d ^ k
  size_most z zero = omega (arith, pow-zero d)
  size_most z (suc k) =
      let below = mul-le-mul_left {m = suc (size (complete d k))} {n = 2 * d ^ k} d (size_most z k) in
      omega (arith, size_complete k, below, pow-succ' d k)

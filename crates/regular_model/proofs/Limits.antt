-- If a complete tree is within the limits, so is every complete tree of less depth.
use mathlib.Core.Path.{◌≡◌, subst}
use Prim.Native.Nat.{ℕ, zero, suc, ◌≤◌}
use native.Mathlib.Decide.{dec_le}
use native.Mathlib.Omega.{arith}
use Rattle.topology.specs.Reader.{Within}
use Rattle.regular_model.specs.Regular.{complete}

one_less : (limit d k : ℕ) → Within limit (complete d (suc k)) → Within limit (complete d k)
one_less limit zero zero w = w
one_less limit zero (suc k) w = w
one_less limit (suc d) k w =
    record { nodes = omega (arith, w.nodes); children = omega (arith, w.children); steps = omega (arith, w.steps) }

pub complete-within : (limit d j k : ℕ) → j ≤ k → Within limit (complete d k) → Within limit (complete d j)
complete-within limit d j zero h w =
    let q : 0 ≡ j = omega arith in
    subst (λ (n : ℕ). Within limit (complete d n)) q w
complete-within limit d j (suc k) h w = by_order (dec_le j k) (λ l. complete-within limit d j k l (one_less limit d k w))
  where
    by_order : Dec (j ≤ k) → (j ≤ k → Within limit (complete d j)) → Within limit (complete d j)
    by_order (yes l) r = r l
    by_order (no l) r =
        let q : suc k ≡ j = omega arith in
        subst (λ (n : ℕ). Within limit (complete d n)) q w

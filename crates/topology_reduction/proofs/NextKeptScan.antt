-- The position of the next kept node: `ones` counts the bytes in front of it.
use mathlib.Core.Path.{◌≡◌, refl}
use Prim.Native.Nat.{ℕ, ◌+◌, ◌≤◌}
use native.Mathlib.Omega.{arith}
use mathlib.Core.List.{List}
use lib.ListN.{length, drop, drop_of_length-le}
use Rattle.topology_reduction.specs.Reduced.{ones, next_kept}

pub next_kept_is : (bytes : List ℕ) (n k : ℕ) → k ≡ ones (drop n bytes) → n + k ≡ next_kept bytes n
unfolding next_kept
next_kept_is bytes n k e = rw e refl

-- nothing is behind the end
pub next_kept_out : (bytes : List ℕ) (n : ℕ) → length bytes ≤ n → n ≡ next_kept bytes n
unfolding next_kept
next_kept_out bytes n h = rw (drop_of_length-le bytes h) (omega arith)

-- The sum of the first numbers of a list.
use mathlib.Core.Path.{◌≡◌, refl}
use Prim.Native.Nat.{ℕ, zero, suc, ◌+◌}
use native.Mathlib.Omega.{arith}
use mathlib.Core.List.{List, [], ◌∷◌}
use lib.ListN.{take, get_or}
use Rattle.base.specs.Sum.{sum}

pub sum-take : (l : List ℕ) (n : ℕ) → sum (take (suc n) l) ≡ sum (take n l) + get_or l n 0
sum-take [] zero = refl
sum-take [] (suc n) = refl
sum-take (x ∷ l) zero = omega arith
sum-take (x ∷ l) (suc n) = omega (arith, sum-take l n)

-- Boolean tests: whether a test holds of all numbers below a bound, whether two answers agree, whether a number is in a list.
use Rattle.std.specs.Prelude.{ℕ, zero, suc, List, [], ◌∷◌, Bool, true, false, not, ◌&&◌, ◌||◌, eqb}

-- whether the test holds of every number below n
abbrev pub all : ℕ → (ℕ → Bool) → Bool
all zero p = true
all (suc n) p = all n p && p n

-- whether two answers agree
abbrev pub same : Bool → Bool → Bool
same true b = b
same false b = not b

-- whether a number is in a list
abbrev pub is_in : ℕ → List ℕ → Bool
is_in m [] = false
is_in m (n ∷ ns) = eqb n m || is_in m ns

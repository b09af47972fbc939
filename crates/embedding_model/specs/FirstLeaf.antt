-- The first leaf of a target, which is the least image of a lone leaf.
use Rattle.std.specs.Prelude.{ℕ, suc, List, [], ◌∷◌, cond, eqb}

-- how many bytes come before the first byte 0
abbrev pub first_leaf : List ℕ → ℕ
first_leaf [] = 0
first_leaf (b ∷ bs) = cond (eqb b 0) 0 (suc (first_leaf bs))

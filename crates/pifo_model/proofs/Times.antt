-- How often a number occurs in a list: equally often in a permutation, and in two joined lists at least as often as in the first.
use mathlib.Core.Path.{◌≡◌, refl, ap, ◌∙◌}
use Prim.Native.Nat.{ℕ, ◌+◌, ◌≤◌}
use native.Mathlib.Omega.{arith}
use mathlib.Core.List.{List, [], ◌∷◌, ◌++◌, Permᴰ}
use mathlib.Core.Bool.{cond}
use lib.Dec.{eqb}
use Rattle.pifo_model.specs.Runs.{times}

module _ (x : ℕ) where
  abbrev is : ℕ → ℕ
  is y = cond (eqb x y) 1 0

  pub times-append : (l m : List ℕ) → times x (l ++ m) ≡ times x l + times x m
  times-append [] m = omega arith
  times-append (y ∷ l) m = omega (arith, times-append l m)

  pub times_perm : {l m : List ℕ} → Permᴰ l m → times x l ≡ times x m
  times_perm Permᴰ.nil = refl
  times_perm (Permᴰ.cons e p) = let here = ap is e in omega (arith, here, times_perm p)
  times_perm (Permᴰ.swap e f) = let one = ap is e in let other = ap is f in omega (arith, one, other)
  times_perm (Permᴰ.trans p q) = times_perm p ∙ times_perm q

  -- a number occurs in a part of a list at most as often as in the list
  pub times-part : {l : List ℕ} (k m : List ℕ) → Permᴰ l (k ++ m) → times x k ≤ times x l
  times-part k m p = omega (arith, times_perm p, times-append k m)

-- The length of a filled template: it is no longer than the same template filled with numbers that are no smaller.
use Prim.Native.Nat.{ℕ, zero, suc, ◌≤◌}
use native.Mathlib.Omega.{arith}
use mathlib.Core.Bool.{Bool, true, false, cond}
use mathlib.Core.List.{List, [], ◌∷◌}
use lib.ListN.{length, get_or, length-append}
use lib.Dec.{eqb}
use Rattle.text.specs.Text.{decimal}
use Rattle.text.proofs.Digits.{decimal_grows}
use Rattle.text_templates.specs.Template.{part, filled}

-- numbers compared in pairs, each at most its counterpart
abbrev pub AtMost : List ℕ → List ℕ → Type 0
AtMost [] [] = Unit
AtMost [] (m ∷ most) = ⊥
AtMost (n ∷ numbers) [] = ⊥
AtMost (n ∷ numbers) (m ∷ most) = (n ≤ m) × AtMost numbers most

number_most : (numbers most : List ℕ) → AtMost numbers most → (i : ℕ) → get_or numbers i 0 ≤ get_or most i 0
number_most [] [] h i = omega arith
number_most [] (m ∷ most) h i = absurd h
number_most (n ∷ numbers) [] h i = absurd h
number_most (n ∷ numbers) (m ∷ most) h zero = h.0
number_most (n ∷ numbers) (m ∷ most) h (suc i) = number_most numbers most h.1 i

part_most : (byte n m : ℕ) → n ≤ m → length (part byte n) ≤ length (part byte m)
part_most byte n m h = by_test (eqb byte 35)
  where
    by_test : (b : Bool) → length (cond b (decimal n) (byte ∷ [])) ≤ length (cond b (decimal m) (byte ∷ []))
    by_test true = decimal_grows n m h
    by_test false = omega arith

pub filled_most : (template numbers most : List ℕ) → AtMost numbers most → (n : ℕ)
    → length (filled template numbers n) ≤ length (filled template most n)
unfolding filled
filled_most [] numbers most h n = omega arith
filled_most (byte ∷ template) numbers most h n =
    let here = part_most byte (get_or numbers n 0) (get_or most n 0) (number_most numbers most h n) in
    omega (arith, length-append {A = ℕ}, here, filled_most template numbers most h (cond (eqb byte 35) (suc n) n))

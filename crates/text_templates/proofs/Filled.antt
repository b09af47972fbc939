-- A template filled in from a byte on: the text for that byte, and the rest filled in. An iterator gives the numbers in order.
use Rattle.std.proofs.Common.{◌≡◌, refl, ℕ, suc, ◌+◌, ◌≤◌, ◌<◌, List, [], ◌∷◌, ◌++◌, length, get_or, drop, add-one}
use Rattle.std.proofs.Common.{Bool, true, false, Option, None, Some, Bor, Iter}
use lib.ListN.{drop_of_length-le}
use Rattle.std.proofs.lemmas.List.{nil_from_length}
use lib.Dec.{eqb}
use lib.Seq.{drop-cons}
use mathlib.Core.Bool.{cond}
use borrow.Author.Tests.{eq-eqb, ne_eqb}
use Rattle.std.specs.Prelude.{unwrap_or, option_copied}
use Rattle.std.specs.Slice.Iter.{iter_steps}
use Rattle.text.specs.Text.{decimal}
use Rattle.text_templates.specs.Template.{part, filled}

-- Without the first number, the places of the others are less by 1.
number_rest : (numbers : List ℕ) (n : ℕ) → get_or numbers (suc n) 0 ≡ get_or (drop 1 numbers) n 0
number_rest [] n = refl
number_rest (first ∷ numbers) n = refl

filled_rest : (template numbers : List ℕ) (n : ℕ) → filled template numbers (suc n) ≡ filled template (drop 1 numbers) n
unfolding filled
filled_rest [] numbers n = refl
filled_rest (byte ∷ template) numbers n = rw (← (number_rest numbers n)) (by_test (eqb byte 35) (λ k. filled_rest template numbers k))
  where
    by_test : (b : Bool) → ((k : ℕ) → filled template numbers (suc k) ≡ filled template (drop 1 numbers) k)
        → part byte (get_or numbers (suc n) 0) ++ filled template numbers (cond b (suc (suc n)) (suc n))
        ≡ part byte (get_or numbers (suc n) 0) ++ filled template (drop 1 numbers) (cond b (suc n) n)
    by_test true rest = rw (rest (suc n)) refl
    by_test false rest = rw (rest n) refl

module _ (template : List ℕ) (i : ℕ) where
  pub filled_hole : (number : ℕ) (left after : Iter ℕ) (next : Option (Bor ℕ)) → i < length template → get_or template i 0 ≡ 35
      → number ≡ unwrap_or (option_copied next) 0 → iter_steps left next after
      → filled (drop i template) left.rest.now 0 ≡ decimal number ++ filled (drop (i + 1) template) after.rest.now 0
  unfolding filled
  filled_hole number left after None h e f steps =
      let rest = filled_rest (drop (suc i) template) [] 0 in
      rw (steps.1, nil_from_length _ steps.0, add-one, drop-cons template i 0 h, eq-eqb (get_or template i 0) 35 e, f, rest) refl
  filled_hole number left after (Some x) h e f steps =
      let rest = filled_rest (drop (suc i) template) (x.now ∷ after.rest.now) 0 in
      rw (steps, add-one, drop-cons template i 0 h, eq-eqb (get_or template i 0) 35 e, f, rest) refl

  pub filled_byte : (numbers : List ℕ) → i < length template → (get_or template i 0 ≡ 35 → ⊥)
      → filled (drop i template) numbers 0 ≡ (get_or template i 0 ∷ []) ++ filled (drop (i + 1) template) numbers 0
  unfolding filled
  filled_byte numbers h e = rw (add-one, drop-cons template i 0 h, ne_eqb (get_or template i 0) 35 e) refl

  pub filled_end : (numbers : List ℕ) → length template ≤ i → filled (drop i template) numbers 0 ≡ []
  unfolding filled
  filled_end numbers h = rw (drop_of_length-le template h) refl

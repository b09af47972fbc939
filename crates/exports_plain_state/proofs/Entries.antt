-- A loop that fills an array from its front with f of each element of another: the places before i are filled, and at the end all are.
use Rattle.std.proofs.Common.{◌≡◌, ℕ, ◌+◌, ◌<◌, ◌≤◌, List, length, get_or, map, set, sym, ◌∙◌, arith}
use Rattle.std.proofs.lemmas.List.{get_or-map, length-map, get_or-set_same, get_or-set_other, length-set}
use lib.Seq.{ext_get_or}
use native.Mathlib.Decide.{ℕ_discrete}

module _ {A B : Type 0} (f : A → B) (a : A) (b : B) (xs : List A) where
  pub record Filled (ys : List B) (i : ℕ) : Type 0 where
    pub long : length ys ≡ length xs
    pub front : (j : ℕ) → j < i → get_or ys j b ≡ f (get_or xs j a)

  pub fill_more : (ys : List B) (i : ℕ) (y : B) → Filled ys i → i < length xs → y ≡ f (get_or xs i a) → Filled (set ys i y) (i + 1)
  fill_more ys i y w h e =
      let place : i < length ys = omega (arith, w.long) in
      record { long = length-set ys i y ∙ w.long; front = λ j k. by_place place j k (ℕ_discrete i j) }
    where
      by_place : i < length ys → (j : ℕ) → j < i + 1 → Dec (i ≡ j) → get_or (set ys i y) j b ≡ f (get_or xs j a)
      by_place place j k (yes s) = rw (← s, get_or-set_same ys i y b place) e
      by_place place j k (no n) = rw (get_or-set_other ys i j y b (λ e. n (sym e))) (w.front j (omega arith))

  pub fill_all : (ys : List B) (i : ℕ) → Filled ys i → length xs ≤ i → ys ≡ map f xs
  fill_all ys i w h =
      ext_get_or b ys (map f xs) (w.long ∙ sym (length-map xs f))
      (λ j k. w.front j (omega (arith, w.long)) ∙ sym (get_or-map f xs j a b (omega (arith, w.long))))

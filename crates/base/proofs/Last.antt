-- A list that is not empty is a list followed by a last element (in one way only: `same_from_push` of std).
use mathlib.Core.Path.{◌≡◌, refl, ap}
use mathlib.Core.List.{List, [], ◌∷◌, ◌++◌}

module _ {ℓ} {A : Type ℓ} where
  pub split_last : (x : A) (l : List A) → (front : List A) × (last : A) × (x ∷ l ≡ front ++ (last ∷ []))
  split_last x [] = ([], x, refl)
  split_last x (y ∷ l) =
      let r = split_last y l in
      (x ∷ r.0, r.1, ap (λ (k : List A). x ∷ k) r.2)

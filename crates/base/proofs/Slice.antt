-- The first elements of a list, as fewer first elements followed by a slice.
use mathlib.Core.Path.{◌≡◌, sym, ap, ◌∙◌}
use Prim.Native.Nat.{ℕ, ◌≤◌}
use mathlib.Core.List.{List, ◌++◌}
use lib.ListN.{take, take-append-drop}
use lib.Seq.{slice, take-take}

module _ {ℓ} {A : Type ℓ} where
  pub take-slice : (m b : ℕ) (l : List A) → m ≤ b → take b l ≡ take m l ++ slice m b l
  take-slice m b l h = sym (take-append-drop m (take b l)) ∙ ap (λ (f : List A). f ++ slice m b l) (take-take m b l h)

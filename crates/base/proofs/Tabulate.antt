-- The list of the values of a function at 0, 1, 2 and so on.
use mathlib.Core.Path.{◌≡◌, refl, ap}
use Prim.Native.Nat.{ℕ, zero, suc, ◌<◌}
use native.Mathlib.Nat.{not-suc-le-zero, le_of_suc-le-suc}
use mathlib.Core.List.{List, [], ◌∷◌}
use lib.ListN.{length, get_or}

module _ {ℓ} {A : Type ℓ} where
  abbrev pub tabulate : ℕ → (ℕ → A) → List A
  tabulate zero f = []
  tabulate (suc k) f = f 0 ∷ tabulate k (λ i. f (suc i))

  pub length_tabulate : (k : ℕ) (f : ℕ → A) → length (tabulate k f) ≡ k
  length_tabulate zero f = refl
  length_tabulate (suc k) f = ap suc (length_tabulate k (λ i. f (suc i)))

  pub get_d_tabulate : (k : ℕ) (f : ℕ → A) (i : ℕ) (d : A) → i < k → get_or (tabulate k f) i d ≡ f i
  get_d_tabulate zero f i d h = absurd (not-suc-le-zero h)
  get_d_tabulate (suc k) f zero d h = refl
  get_d_tabulate (suc k) f (suc i) d h = get_d_tabulate k (λ i. f (suc i)) i d (le_of_suc-le-suc h)

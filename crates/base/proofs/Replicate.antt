-- A list of n equal elements: every index gives that element, also past the end if it is the default.
use mathlib.Core.Path.{◌≡◌, refl}
use Prim.Native.Nat.{ℕ, zero, suc}
use lib.ListN.{get_or, replicate}

module _ {ℓ} {A : Type ℓ} where
  pub get_or_everywhere : (n i : ℕ) (a : A) → get_or (replicate n a) i a ≡ a
  get_or_everywhere zero i a = refl
  get_or_everywhere (suc n) zero a = refl
  get_or_everywhere (suc n) (suc i) a = get_or_everywhere n i a

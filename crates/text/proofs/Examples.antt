-- Numbers as text, from the definitions.
use mathlib.Core.Path.{◌≡◌, refl}
use mathlib.Core.List.{[], ◌∷◌}
use Rattle.text.specs.Text.{decimal_last, decimal, hex_digit, hex_last, hex8}

-- 0, the largest number of 32 bits, and a packet of paper 01's example
pub record Printed : Type 0 where
  pub nothing : decimal 0 ≡ 48 ∷ []
  pub largest : decimal 4294967295 ≡ 52 ∷ 50 ∷ 57 ∷ 52 ∷ 57 ∷ 54 ∷ 55 ∷ 50 ∷ 57 ∷ 53 ∷ []
  pub packet_C : hex8 12 ≡ 48 ∷ 48 ∷ 48 ∷ 48 ∷ 48 ∷ 48 ∷ 48 ∷ 67 ∷ []

pub printed : Printed
unfolding decimal_last decimal hex_digit hex_last hex8
printed = record { nothing = refl; largest = refl; packet_C = refl }

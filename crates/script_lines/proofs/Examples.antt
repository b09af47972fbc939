-- Lines of paper 01's example of gatewalk, from the definitions.
use mathlib.Core.Path.{◌≡◌, refl}
use mathlib.Core.List.{[], ◌∷◌}
use Rattle.text.specs.Text.{decimal_last, decimal, hex_digit, hex_last, hex8}
use Rattle.script_lines.specs.Lines.{in_line, out_line, no_line, map_line}

-- `in 2`, `no 15 58`, `out 0000000C`, `map 0 2 3 4`
pub record Printed : Type 0 where
  pub in-2 : in_line 2 ≡ 105 ∷ 110 ∷ 32 ∷ 50 ∷ 10 ∷ []
  pub no_15_58 : no_line 15 58 ≡ 110 ∷ 111 ∷ 32 ∷ 49 ∷ 53 ∷ 32 ∷ 53 ∷ 56 ∷ 10 ∷ []
  pub out_C : out_line 12 ≡ 111 ∷ 117 ∷ 116 ∷ 32 ∷ 48 ∷ 48 ∷ 48 ∷ 48 ∷ 48 ∷ 48 ∷ 48 ∷ 67 ∷ 10 ∷ []
  pub map_0_2_3_4 : map_line (0 ∷ 2 ∷ 3 ∷ 4 ∷ []) ≡ 109 ∷ 97 ∷ 112 ∷ 32 ∷ 48 ∷ 32 ∷ 50 ∷ 32 ∷ 51 ∷ 32 ∷ 52 ∷ 10 ∷ []

pub printed : Printed
unfolding decimal_last decimal hex_digit hex_last hex8 in_line out_line no_line map_line
printed = record { in-2 = refl; no_15_58 = refl; out_C = refl; map_0_2_3_4 = refl }

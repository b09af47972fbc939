-- The promise of the private function that reads an operand.
use Rattle.std.specs.Prelude.{ℕ, ◌+◌, List, Option, None, Some, cond, length, take, drop, leb}

-- the `count` bytes of the operand at a place of a command's bytes, if the script has them all
abbrev pub operand_bytes : ℕ → ℕ → List ℕ → Option (List ℕ)
operand_bytes place count bytes = cond (leb (place + count) (length bytes)) (Some (take count (drop place bytes))) None

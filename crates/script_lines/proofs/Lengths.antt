-- The length of the line of a refusal, for a script of at most 65,536 bytes.
use Prim.Native.Nat.{ℕ, ◌≤◌}
use native.Mathlib.Omega.{arith}
use lib.ListN.{length, length-append}
use Rattle.text.proofs.Digits.{length-decimal}
use Rattle.script_lines.specs.Lines.{no_line}

pub no_length : (n at : ℕ) → n ≤ 99 → at ≤ 65536 → length (no_line n at) ≤ 13
unfolding no_line
no_length n at h g =
    simp length-append (omega (arith, length-decimal 1 n (omega arith), length-decimal 4 at (omega arith)))

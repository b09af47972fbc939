-- `put_hex` meets its contract, by recursion on how many digits are put.
use Rattle.text.proofs.Appending.{appends_none, appends_then}
use Rattle.text.proofs.Digits.{hex_none, hex_more}
use Rattle.text.proofs.Text.+put_hex.Goals as goal

pub returns-then-digits-gt0 : goal.returns-then-digits-gt0
returns-then-digits-gt0 t c = rw (hex_more _ _ c.if-digits-gt0.true, ← c.hex_digit.ensures) (appends_then c.put_hex.ensures c.put.ensures)

pub returns-else-digits-gt0 : goal.returns-else-digits-gt0
returns-else-digits-gt0 t c = rw (hex_none _ _ c.if-digits-gt0.false) (appends_none _)

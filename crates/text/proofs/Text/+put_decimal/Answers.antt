-- `put_decimal` meets its contract, by recursion on the number: it has one digit, or more.
use Rattle.std.proofs.Common.{arith}
use Rattle.text.proofs.Digits.{decimal_digit, decimal_more}
use Rattle.text.proofs.Appending.{appends_then}
use Rattle.text.proofs.Text.+put_decimal.Goals as goal

pub returns-then-number-lt10 : goal.returns-then-number-lt10
returns-then-number-lt10 t c = rw (decimal_digit c.args.number (omega arith)) c.put.ensures

pub returns-else-number-lt10 : goal.returns-else-number-lt10
returns-else-number-lt10 t c =
    rw (decimal_more c.args.number (omega arith)) (appends_then c.put_decimal.ensures c.put-else-number-lt10.ensures)

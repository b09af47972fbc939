-- `put_word` meets its contract. The bytes of the word that were reached are put.
use Rattle.std.proofs.Common.{take}
use Rattle.text.specs.Appending.{Appends}
use Rattle.text.proofs.Text.put_word.Given as goal

abbrev pub invariant-loop-byte : goal.invariant-loop-byte
invariant-loop-byte l = Appends l.fn.self (take l.byte-index l.word) l.self

-- `put_chips` meets its contract. The lines for the numbers of children before d are put.
use Rattle.regular_table.proofs.PutChips.{Lines}
use Rattle.regular_table.proofs.put_chips.Given as goal

abbrev pub invariant-loop-d : goal.invariant-loop-d
invariant-loop-d l = Lines l.source l.initial.text l.d l.text

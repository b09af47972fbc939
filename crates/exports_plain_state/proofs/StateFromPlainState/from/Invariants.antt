-- `from` meets its contract. The entries before i are converted.
use Rattle.queue_state.specs.Entries.{no_entry}
use Rattle.exports_plain_state.specs.Plain.{entry_of, plain_entry}
use Rattle.exports_plain_state.proofs.Entries.{Filled}
use Rattle.exports_plain_state.proofs.StateFromPlainState.from.Given as goal

abbrev pub invariant-loop-i : goal.invariant-loop-i
invariant-loop-i l = Filled entry_of (plain_entry no_entry) no_entry l.plain.entries l.entries l.i

-- `from` meets its contract. The entries before i are converted.
use Rattle.queue_state.specs.Entries.{no_entry}
use Rattle.exports_plain_state.specs.Plain.{plain_entry}
use Rattle.exports_plain_state.proofs.Entries.{Filled}
use Rattle.exports_plain_state.proofs.PlainStateFromState.from.Given as goal

abbrev pub invariant-loop-i : goal.invariant-loop-i
invariant-loop-i l = Filled plain_entry no_entry (plain_entry no_entry) l.state.entries l.entries l.i

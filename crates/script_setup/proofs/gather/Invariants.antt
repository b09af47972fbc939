-- `gather` meets its contract. While the loop runs, the drawing has what is gathered so far, and the reader has the same script.
use Rattle.std.proofs.Common.{◌≡◌, ◌-◌, [], None, length}
use Rattle.script_commands.specs.Reading.{reads}
use Rattle.script_setup.specs.Gathering.{gather_reads}
use Rattle.script_setup.specs.InnerTurns.{GoesOn}
use Rattle.script_setup.proofs.gather.Given as goal

abbrev pub invariant-loop-ending : goal.invariant-loop-ending
invariant-loop-ending l = record {
  same : l.reader.script ≡ l.fn.reader.script;
  goes : GoesOn l.drawing (reads l.reader.script.now l.reader.at) (gather_reads (reads l.fn.reader.script.now l.fn.reader.at) [] [] None);
}

abbrev pub decreases-loop-ending : goal.decreases-loop-ending
decreases-loop-ending l = length l.reader.script.now - l.reader.at

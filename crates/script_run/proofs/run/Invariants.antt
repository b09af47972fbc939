-- `run` meets its contract. While the loop runs, `Inv` says what the code has and what it has put; the reader has the same script.
use Rattle.std.proofs.Common.{◌≡◌, ◌-◌, length}
use Rattle.script_run.proofs.RunLoop.{Inv}
use Rattle.script_run.proofs.run.Given as goal

abbrev pub invariant-loop-next : goal.invariant-loop-next
invariant-loop-next l = record {
  same : l.reader.script.now ≡ l.script;
  put : Inv l.script l.initial.text l.initial.reader.at l.initial.session l.reader.at l.session l.text;
}

abbrev pub decreases-loop-next : goal.decreases-loop-next
decreases-loop-next l = length l.script - l.reader.at

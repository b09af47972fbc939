use Rattle.queue_check.proofs.Tally.{Passed}
use Rattle.queue_check.proofs.soundness.tally.Given as goal

abbrev pub invariant-loop-node : goal.invariant-loop-node
invariant-loop-node l = Passed l.bytes l.lengths l.entries l.heads l.start l.node

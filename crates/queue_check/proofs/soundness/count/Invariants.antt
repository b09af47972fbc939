use Rattle.queue_check.proofs.Count.{Counting}
use Rattle.queue_check.proofs.soundness.count.Given as goal

abbrev pub invariant-loop-entry : goal.invariant-loop-entry
invariant-loop-entry l = Counting l.queue l.children l.entry-index l.last l.counts

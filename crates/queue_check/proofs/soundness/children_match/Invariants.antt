-- The first i children match, and `child` is the number of the next one.
use Rattle.std.proofs.Common.{◌≡◌}
use Rattle.topology.specs.Branch.{start}
use Rattle.queue_check.specs.InnerSound.{AllMatch}
use Rattle.queue_check.proofs.soundness.children_match.Given as goal

abbrev pub invariant-loop-i : goal.invariant-loop-i
invariant-loop-i l = (l.child ≡ start l.bytes l.node l.i) × AllMatch l.bytes l.counts l.lengths l.node l.i

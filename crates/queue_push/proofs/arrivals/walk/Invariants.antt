-- `walk` meets its contract. The loop has walked the first i steps and noted their entries (`Walking` in proofs/WalkLoop.antt).
use Rattle.topology.specs.Reader.{tree}
use Rattle.queue_push.specs.Calls.{steps_of}
use Rattle.queue_push.proofs.WalkLoop.{Walking}
use Rattle.queue_push.proofs.arrivals.walk.Given as goal

abbrev pub invariant-loop-step : goal.invariant-loop-step
invariant-loop-step l = Walking (tree l.bytes) (steps_of l.fn.path) l.fn.path.leaf_rank l.packet l.node l.step-index l.entries

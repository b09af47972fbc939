-- `check_path` meets its contract. The loop has walked the first i steps of the path without fault (`Standing` in proofs/Standing.antt).
use Rattle.queue_push.specs.Calls.{steps_of}
use Rattle.translator.proofs.Standing.{Standing}
use Rattle.translator.proofs.check_path.Given as goal

abbrev pub invariant-loop-step : goal.invariant-loop-step
invariant-loop-step l = Standing l.source (steps_of l.fn.path) l.node l.step-index

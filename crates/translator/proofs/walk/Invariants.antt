-- `walk` meets its contract. The loop has walked the first i steps of the path and carried them (`Walking` in proofs/WalkLoop.antt).
use Rattle.translator.proofs.WalkLoop.{Walking}
use Rattle.translator.proofs.walk.Given as goal

abbrev pub invariant-loop-step : goal.invariant-loop-step
invariant-loop-step l = Walking l.source l.target l.map l.fn.path l.carried l.from l.node l.step-index

-- `plan_to` meets its contract. The loop has reached `node`, and the plan has the way to that node (`Walking` in proofs/PlanTo).
use Rattle.std.proofs.Common.{◌-◌}
use Rattle.discipline_path.proofs.PlanTo.{Walking}
use Rattle.discipline_path.proofs.plan_to.Given as goal

abbrev pub invariant-loop-child : goal.invariant-loop-child
invariant-loop-child l = Walking l.bytes l.disciplines l.leaf l.class l.length l.node l.plan

abbrev pub decreases-loop-child : goal.decreases-loop-child
decreases-loop-child l = l.leaf - l.node

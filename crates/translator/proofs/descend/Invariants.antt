-- `descend` meets its contract. The loop has reached `node`, and the path has the steps to that node.
use mathlib.Core.List.{◌++◌}
use Prim.Native.Nat.{◌-◌}
use Rattle.topology.specs.Reader.{tree}
use Rattle.topology.specs.Address.{route}
use Rattle.pair_model.specs.Carrying.{steps}
use Rattle.queue_push.specs.Calls.{steps_of}
use Rattle.translator.proofs.DescendLoop.{Descending}
use Rattle.translator.proofs.descend.Given as goal

abbrev pub invariant-loop-next : goal.invariant-loop-next
invariant-loop-next l =
    Descending l.bytes (steps_of l.initial.extending ++ steps l.rank (route (tree l.bytes) l.from l.to)) l.initial.extending.leaf_rank l.to l.rank l.extending l.node

abbrev pub decreases-loop-next : goal.decreases-loop-next
decreases-loop-next l = l.to - l.node

-- `spread_out` meets its contract. The map is written for the nodes before n.
use Rattle.topology_reduction.proofs.SpreadOut.{SpreadTo}
use Rattle.topology_reduction.proofs.spread_out.Given as goal

abbrev pub invariant-loop-n : goal.invariant-loop-n
invariant-loop-n l = SpreadTo l.nodes l.images l.n l.map l.next

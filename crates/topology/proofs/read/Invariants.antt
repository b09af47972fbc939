-- `read` meets its contract. The loop's invariant is `Progress`; each step is one of its laws.
use Rattle.topology.proofs.Progress.{Progress}
use Rattle.topology.proofs.read.Given as goal

abbrev pub invariant-loop-nodes : goal.invariant-loop-nodes
invariant-loop-nodes l = Progress l.limit l.bytes l.debt l.marks l.top l.nodes

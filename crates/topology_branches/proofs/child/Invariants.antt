-- `child` meets its contract. The loop is where the branch of the next child starts.
use Rattle.std.proofs.Common.{◌≡◌, ◌-◌}
use Rattle.topology.specs.Branch.{start}
use Rattle.topology_branches.proofs.child.Given as goal

abbrev pub invariant-loop : goal.invariant-loop
invariant-loop l = l.at ≡ start l.bytes l.node (l.counter - 1)

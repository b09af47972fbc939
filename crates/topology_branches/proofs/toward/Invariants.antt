-- `toward` meets its contract. The loop is where the branch of child `number` starts, no later than `to`, and no earlier child is `to` or above it.
use Rattle.std.proofs.Common.{◌≡◌, ◌≤◌, ◌-◌}
use Rattle.topology.specs.Branch.{start, toward_from, toward_at}
use Rattle.topology_branches.proofs.toward.Given as goal

abbrev pub invariant-loop-number : goal.invariant-loop-number
invariant-loop-number l =
    (1 ≤ l.number) × (l.node ≤ l.to) × (l.node ≡ start l.bytes l.from (l.number - 1))
    × (toward_at l.bytes l.from l.to ≡ toward_from l.bytes l.from l.to (l.number - 1) (l.children - (l.number - 1)))

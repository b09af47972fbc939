-- `branch_end` meets its contract. The loop has read the bytes up to i, and the branch ends where the nodes owed from there on end.
use Rattle.std.proofs.Common.{◌≡◌, ◌≤◌, length}
use Rattle.topology.specs.Branch.{branch_end}
use Rattle.topology.proofs.BranchEnd.{end_from}
use Rattle.topology_branches.proofs.branch_end.Given as goal

abbrev pub invariant-loop-i : goal.invariant-loop-i
invariant-loop-i l = (l.i ≤ l.end) × (l.end ≤ length l.bytes) × (branch_end l.bytes l.node ≡ end_from l.bytes l.i l.end)

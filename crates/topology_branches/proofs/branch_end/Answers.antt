use Rattle.std.proofs.Common.{arith, rules, sym, ◌∙◌, ◌<◌}
use Rattle.topology.proofs.BranchEnd.{scan_none, scan-start, scan_done, scan_more, scan-short}
use Rattle.topology_branches.proofs.branch_end.Goals as goal

pub returns-then-bytes-node : goal.returns-then-bytes-node
returns-then-bytes-node c = scan_none _ _ c.if-bytes-node.true

pub loop-i-init : goal.loop-i-init
loop-i-init c = (search rules, search rules, scan-start _ _)

pub returns-then-i-end : goal.returns-then-i-end
returns-then-i-end c = sym (c.loop-i.invariant.2 ∙ scan_done _ _ _ c.loop-i.invariant.0 (omega arith))

pub returns-then-bytes-end : goal.returns-then-bytes-end
returns-then-bytes-end c =
    let here : c.loop-i.i < c.loop-i.end = omega arith in
    sym (c.loop-i.invariant.2 ∙ scan-short _ _ _ here c.loop-i.invariant.1 (omega arith))

pub loop-i-preserved : goal.loop-i-preserved
loop-i-preserved c =
    let here : c.loop-i.i < c.loop-i.end = omega arith in
    (search rules, omega arith, rw c.from-children.ensures (c.loop-i.invariant.2 ∙ scan_more _ _ _ here c.loop-i.invariant.1))

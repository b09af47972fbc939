use Rattle.std.proofs.Common.{arith, rules, sym, ◌∙◌}
use Rattle.topology.proofs.Cases.{toward_out, toward_before, toward-start, toward_here, toward_next, toward_last, toward_past}
use Rattle.topology_branches.proofs.toward.Goals as goal

pub returns-in_err-children : goal.returns-in_err-children
returns-in_err-children c = rw c.from_residual.ensures (toward_out _ _ _ c.in_err-children.ensures.lookup.3)

pub returns-then-to-from : goal.returns-then-to-from
returns-then-to-from c = toward_before _ _ _ c.if-to-from.true

pub loop-number-init : goal.loop-number-init
loop-number-init c = (omega arith, omega arith, omega arith, rw (c.in_ok-children.ensures.lookup.3.1 0) (toward-start _ _ _))

pub returns-then-to-end : goal.returns-then-to-end
returns-then-to-end c =
    let inv = c.loop-number.invariant in
    sym (inv.3 ∙ toward_here _ _ _ _ _ _ _ inv.0 c.loop-number-test.true inv.2 inv.1 c.branch_end-end.ensures c.if-to-end.true)

pub loop-number-preserved : goal.loop-number-preserved
loop-number-preserved c =
    let inv = c.loop-number.invariant in
    let next = toward_next _ _ _ _ _ _ _ inv.0 c.loop-number-test.true inv.2 inv.1 c.branch_end-end.ensures c.if-to-end.false in
    (omega arith, search rules, next.0, inv.3 ∙ next.1)

pub returns-else-to-from : goal.returns-else-to-from
returns-else-to-from c = sym (c.loop-number.invariant.3 ∙ toward_past _ _ _ _ _ c.loop-number-test.false)

pub returns-else-to-end : goal.returns-else-to-end
returns-else-to-end c =
    let inv = c.loop-number.invariant in
    sym (inv.3 ∙ toward_last _ _ _ _ _ _ _ inv.0 c.loop-number-test.true inv.2 inv.1 c.branch_end-end.ensures c.if-to-end.false (omega arith))

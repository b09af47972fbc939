use Rattle.std.proofs.Common.{arith, refl}
use Rattle.topology.proofs.Progress.{begin, payable, advance}
use Rattle.topology.proofs.read.Goals as goal

pub loop-nodes-init : goal.loop-nodes-init
loop-nodes-init c = begin _ _

pub overflow_add-debt : goal.overflow_add-debt
overflow_add-debt c =
    let ok = payable _ _ _ _ _ _ c.loop-nodes.invariant 0 c.loop-nodes-test.true c.in_ok-test_byte.ensures refl in
    omega arith

pub loop-nodes-preserved : goal.loop-nodes-preserved
loop-nodes-preserved c =
    advance _ _ _ _ _ _ c.loop-nodes.invariant 0 c.loop-nodes-test.true c.in_ok-test_byte.ensures refl _ _ c.from-debt.ensures
    c.first_pending-top.ensures.0 c.first_pending-top.ensures.1

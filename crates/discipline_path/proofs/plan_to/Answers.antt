use Rattle.std.proofs.Common.{arith}
use Rattle.discipline_path.proofs.PlanTo.{too_far, walking_start, walking_end, walking_down, walking_inside, walking_next}
use Rattle.discipline_path.proofs.plan_to.Goals as goal

pub returns-then-leaf-ge-TARGET_NODES : goal.returns-then-leaf-ge-TARGET_NODES
returns-then-leaf-ge-TARGET_NODES c = λ f is. absurd (too_far _ _ c.if-leaf-ge-TARGET_NODES.true f is)

pub loop-child-init : goal.loop-child-init
loop-child-init c = walking_start _ _ _ _ _ c.begun-plan.ensures

pub bounds-bytes-node : goal.bounds-bytes-node
bounds-bytes-node c = walking_inside c.loop-child.invariant c.in-Some.ensures

pub step_down-plan-requires : goal.step_down-plan-requires
step_down-plan-requires c =
    let low = c.loop-child.invariant.low in
    let down = walking_down c.loop-child.invariant c.in-Some.ensures in
    (omega arith, omega (arith, down.1))

pub loop-child-smaller : goal.loop-child-smaller
loop-child-smaller c =
    let down = walking_down c.loop-child.invariant c.in-Some.ensures in
    omega (arith, down.0, down.1)

pub loop-child-preserved : goal.loop-child-preserved
loop-child-preserved c = walking_next c.loop-child.invariant c.in-Some.ensures c.step_down-plan.ensures

pub returns : goal.returns
returns c = walking_end c.loop-child.invariant c.in_default.ensures

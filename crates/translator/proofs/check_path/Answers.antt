use Rattle.std.proofs.Common.{arith, sym, ap, ◌∙◌, ◌≡◌}
use Rattle.refusal.specs.declared.Refusal.TheVariants.{NoSuchChild}
use Rattle.topology.specs.Branch.{child_at}
use Rattle.queue_push.proofs.PathSteps.{step_at, steps_end}
use Rattle.translator.proofs.Standing.{standing_start, standing_in, standing_lost, standing_next, standing_above, standing_leaf}
use Rattle.refusal.proofs.Numbers.{residual_is}
use Rattle.translator.proofs.check_path.Goals as goal

pub loop-step-init : goal.loop-step-init
loop-step-init c = standing_start _ c.requires _

pub returns-in_err-node : goal.returns-in_err-node
returns-in_err-node c =
    let e : c.in_err-node.field-0.0 ≡ NoSuchChild = grind (arith, c.in_err-node.ensures.value) in
    let found = c.child.ensures ∙ ap (child_at c.args.source.now c.loop-step.node) c.from.ensures in
    rw (residual_is _ _ c.from_residual.ensures.1, e)
    (sym
    (standing_lost _ c.requires _ _ _ c.loop-step.invariant _ (step_at c.args.path _ _ c.steps-step-items.ensures c.loop-step-test.true) _ found
    c.in_err-node.ensures.ok_part))

pub loop-step-preserved : goal.loop-step-preserved
loop-step-preserved c =
    let found = c.child.ensures ∙ ap (child_at c.args.source.now c.loop-step.node) c.from.ensures in
    standing_next _ c.requires _ _ _ c.loop-step.invariant _ (step_at c.args.path _ _ c.steps-step-items.ensures c.loop-step-test.true) _ found _
    c.in_ok-node.ensures.ok_part

pub bounds-source-node : goal.bounds-source-node
bounds-source-node c = standing_in _ c.requires _ _ _ c.loop-step.invariant

pub returns-then-source-node-ne0 : goal.returns-then-source-node-ne0
returns-then-source-node-ne0 c =
    sym
    (standing_above _ c.requires _ _ _ c.loop-step.invariant (steps_end c.args.path _ _ c.steps-step-items.ensures c.loop-step-test.false)
    c.if-source-node-ne0.true)

pub returns : goal.returns
returns c =
    sym
    (standing_leaf _ c.requires _ _ _ c.loop-step.invariant (steps_end c.args.path _ _ c.steps-step-items.ensures c.loop-step-test.false)
    c.if-source-node-ne0.false)

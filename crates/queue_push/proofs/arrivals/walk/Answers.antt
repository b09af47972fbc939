use Rattle.std.proofs.Common.{◌≡◌, arith, sym, ◌∙◌, add-one}
use Rattle.refusal.specs.declared.Refusal.TheVariants.{NoSuchChild}
use Rattle.topology.proofs.Lookup.{valid_size, valid_width, valid_child, valid_missing}
use Rattle.topology.proofs.Reader.{within}
use Rattle.queue_push.proofs.PathSteps.{step_at, steps_end}
use Rattle.queue_push.proofs.WalkLoop.{set_out, refused, missing, advance, above, arrived}
use Rattle.refusal.proofs.Numbers.{residual_is}
use Rattle.queue_push.proofs.arrivals.walk.Goals as goal

pub loop-step-init : goal.loop-step-init
loop-step-init c = set_out _ (within 64 _ c.requires) _ _ _

pub returns-in_err-child : goal.returns-in_err-child
returns-in_err-child c =
    let none = c.in_err-child.ensures.ok_part in
    let e : c.in_err-child.field-0.0 ≡ NoSuchChild = grind (arith, c.in_err-child.ensures.value) in
    rw (residual_is _ _ c.from_residual.ensures.1, e)
    (refused _ (within 64 _ c.requires) _ _ _ _ _
    (missing _ (within 64 _ c.requires) _ _ _ _ _ _ c.loop-step.invariant _
    (step_at c.args.path _ _ c.steps-steps.ensures c.loop-step-test.true)
    (valid_missing 64 _ c.requires _ _ (sym (rw c.from.ensures at c.child.ensures) ∙ none))))

pub loop-step-preserved : goal.loop-step-preserved
loop-step-preserved c =
    let some = c.in_ok-child.ensures.ok_part in
    let f = valid_child 64 _ c.requires _ _ _ (sym (rw c.from.ensures at c.child.ensures) ∙ some) in
    rw add-one
    (advance _ (within 64 _ c.requires) _ _ _ _ _ _ c.loop-step.invariant _
    (step_at c.args.path _ _ c.steps-steps.ensures c.loop-step-test.true)
    _ f.0 f.1)

pub bounds-bytes-node : goal.bounds-bytes-node
bounds-bytes-node c = omega (arith, c.loop-step.invariant.there, valid_size 64 c.args.bytes.now c.requires)

pub returns-then-bytes-node-ne0 : goal.returns-then-bytes-node-ne0
returns-then-bytes-node-ne0 c =
    let way = c.loop-step.invariant in
    let width = valid_width 64 _ c.requires c.loop-step.node (omega (arith, way.there, valid_size 64 _ c.requires)) in
    refused _ (within 64 _ c.requires) _ _ _ _ _
    (above _ (within 64 _ c.requires) _ _ _ _ _ _ way (steps_end c.args.path _ _ c.steps-steps.ensures c.loop-step-test.false)
    (λ e. c.if-bytes-node-ne0.true (sym width ∙ e)))

pub returns : goal.returns
returns c =
    let way = c.loop-step.invariant in
    let width = valid_width 64 _ c.requires c.loop-step.node (omega (arith, way.there, valid_size 64 _ c.requires)) in
    arrived _ (within 64 _ c.requires) _ _ _ _ _ _ way (steps_end c.args.path _ _ c.steps-steps.ensures c.loop-step-test.false)
    (width ∙ c.if-bytes-node-ne0.false) _ _ (valid_size 64 _ c.requires) (omega arith)

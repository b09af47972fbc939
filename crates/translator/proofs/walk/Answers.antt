use Rattle.std.proofs.Common.{refl, ap, ◌∙◌}
use Rattle.topology.specs.Branch.{child_at}
use Rattle.queue_push.proofs.PathSteps.{step_at, steps_end}
use Rattle.translator.proofs.WalkLoop.{walking_listed, walking_first, walking_none, walking_start, walking_lost, walking_child, walking_over, walking_next, walking_end}
use Rattle.translator.proofs.walk.Goals as goal

pub bounds-map-next_kept : goal.bounds-map-next_kept
bounds-map-next_kept c = walking_listed _ _ _ c.requires.0 c.args.path _ c.next_kept.ensures

pub descend-carried-requires : goal.descend-carried-requires
descend-carried-requires c =
    let kept = c.next_kept.ensures in
    rw (c.from-from.ensures, c.new.ensures)
    (walking_first _ _ _ c.requires.0 c.args.path _ kept, refl, walking_none _ _ _ c.requires.0 c.args.path _ kept)

pub loop-step-init : goal.loop-step-init
loop-step-init c =
    let carried = rw (c.from-from.ensures, c.new.ensures) at c.descend-carried.ensures in
    rw c.from-from.ensures (walking_start _ _ _ c.requires.0 _ _ c.next_kept.ensures _ carried)

pub returns-in_default : goal.returns-in_default
returns-in_default c =
    let found = c.child.ensures ∙ ap (child_at c.args.source.now c.loop-step.node) c.from.ensures in
    absurd (walking_lost _ _ _ c.requires.0 _ _ _ _ _ c.loop-step.invariant _ (step_at c.args.path _ _ c.steps-step-items.ensures c.loop-step-test.true) _ found c.requires.1 c.in_default.is)

pub bounds-map-next_kept-in-loop-step : goal.bounds-map-next_kept-in-loop-step
bounds-map-next_kept-in-loop-step c =
    let found = c.child.ensures ∙ ap (child_at c.args.source.now c.loop-step.node) c.from.ensures in
    walking_child _ _ _ c.requires.0 _ _ _ _ _ c.loop-step.invariant _ (step_at c.args.path _ _ c.steps-step-items.ensures c.loop-step-test.true) _ found _ c.in-Some.is _ c.next_kept-in-loop-step.ensures

pub descend-carried-requires-in-loop-step : goal.descend-carried-requires-in-loop-step
descend-carried-requires-in-loop-step c =
    let found = c.child.ensures ∙ ap (child_at c.args.source.now c.loop-step.node) c.from.ensures in
    let over =
    walking_over _ _ _ c.requires.0 _ _ _ _ _ c.loop-step.invariant _ (step_at c.args.path _ _ c.steps-step-items.ensures c.loop-step-test.true) _ found _ c.in-Some.is _ c.next_kept-in-loop-step.ensures in
    (rw c.from-to.ensures over, c.loop-step.invariant.plain, c.loop-step.invariant.below)

pub loop-step-preserved : goal.loop-step-preserved
loop-step-preserved c =
    let found = c.child.ensures ∙ ap (child_at c.args.source.now c.loop-step.node) c.from.ensures in
    let carried = rw c.from-to.ensures at c.descend-carried-in-loop-step.ensures in
    rw c.from-to.ensures
    (walking_next _ _ _ c.requires.0 _ _ _ _ _ c.loop-step.invariant _ (step_at c.args.path _ _ c.steps-step-items.ensures c.loop-step-test.true) _ found _ c.in-Some.is _
    c.next_kept-in-loop-step.ensures _ carried)

pub returns : goal.returns
returns c = walking_end _ _ _ c.requires.0 _ _ _ _ _ c.loop-step.invariant (steps_end c.args.path _ _ c.steps-step-items.ensures c.loop-step-test.false) c.requires.1

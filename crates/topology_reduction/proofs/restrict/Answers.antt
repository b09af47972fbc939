use Rattle.std.proofs.Common.{[], ◌∷◌, ◌++◌, length, length-append, ap, ◌∙◌, take_all, arith}
use mathlib.Core.Logic.{inl, inr}
use Rattle.topology_reduction.proofs.RestrictLoop.{restrict-kept, restrict_passed, restrict_end, room}
use Rattle.topology_reduction.proofs.restrict.Goals as goal

pub loop-children-preserved-then-children-ne1 : goal.loop-children-preserved-then-children-ne1
loop-children-preserved-then-children-ne1 c =
    let s = c.in-Some.ensures.steps in
    let inv = c.loop-children.invariant in
    let all = room 32 _ _ _ c.add.ensures (omega (arith, inv.0)) in
    (omega (arith, ap length all, length-append c.loop-children.numbers.items (c.in-Some.field-0-1.now ∷ [])), rw all (restrict-kept _ _ _ _ _ _ _ _ _ _ s.0.0 s.0.1 s.1 inv.1 c.if-children-ne1.true))

pub loop-children-preserved : goal.loop-children-preserved
loop-children-preserved c =
    let s = c.in-Some.ensures.steps in
    let inv = c.loop-children.invariant in
    (omega arith, restrict_passed _ _ _ _ _ _ _ _ _ _ s.0.0 s.0.1 s.1 inv.1 c.if-children-ne1.false)

pub returns : goal.returns
returns c = restrict_end _ _ _ _ _ c.loop-children.invariant.1 (λ h. elim (c.in-None.ensures.steps h) [ inl e ↦ inl e.1.0 | inr e ↦ inr e.1.0 ])

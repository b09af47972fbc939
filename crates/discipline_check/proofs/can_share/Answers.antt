use Rattle.std.proofs.Common.{arith, add-one, ap, ◌∙◌}
use Rattle.topology.specs.Branch.{branch_end}
use Rattle.discipline_model.specs.Figure.{no_rule}
use Rattle.discipline_model.specs.declared.Rule.{Rule}
use Rattle.discipline_check.proofs.RuleFault.{share_within, share_next, share_not, share_all}
use Rattle.discipline_check.proofs.can_share.Goals as goal

pub returns-in_default : goal.returns-in_default
returns-in_default c = λ e.
    let inside = share_within _ e c.args.rules _ c.requires.0 c.requires.1 _ c.loop-test.true _ c.loop.invariant.0 in
    absurd (omega (arith, inside, c.in_default.ensures.lookup.3))

pub returns-then-rule-eq0 : goal.returns-then-rule-eq0
returns-then-rule-eq0 c = λ e.
    let weight = ap (λ (r : Rule). r.weight) (c.in-Some.ensures.lookup.3.1 no_rule) in
    share_not _ e c.args.rules _ c.requires.0 c.requires.1 _ c.loop-test.true _ c.loop.invariant.0 (omega (arith, weight))

pub loop-preserved : goal.loop-preserved
loop-preserved c =
    let weight = ap (λ (r : Rule). r.weight) (c.in-Some.ensures.lookup.3.1 no_rule) in (
      c.branch_end-child.ensures ∙ ap (branch_end _) c.loop.invariant.0 ∙ rw add-one,
      λ e.
          share_next _ e c.args.rules _ c.requires.0 c.requires.1 _ c.loop-test.true _ c.loop.invariant.0 (omega (arith, weight))
          (c.loop.invariant.1 e),
    )

pub returns : goal.returns
returns c = λ e. share_all _ e c.args.rules _ c.requires.0 c.requires.1 c.loop.counter (omega arith) (c.loop.invariant.1 e)

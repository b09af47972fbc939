use Rattle.std.proofs.Common.{arith, rules, sym, ◌∙◌}
use Rattle.discipline_check.proofs.RuleFault.{not_longer, rules_unnamed, rules_refused, rules_pass}
use Rattle.refusal.proofs.Numbers.{residual_is}
use Rattle.discipline_check.proofs.check_rules.Goals as goal

pub returns-then-bytes-gt-TARGET_NODES : goal.returns-then-bytes-gt-TARGET_NODES
returns-then-bytes-gt-TARGET_NODES c = λ e. absurd (not_longer _ e c.if-bytes-gt-TARGET_NODES.true)

pub returns-in_err-discipline : goal.returns-in_err-discipline
returns-in_err-discipline c = λ e.
    rw (residual_is _ _ c.from_residual.ensures.1) (rules_unnamed _ e _ _ c.loop-node-test.true _ c.in_err-discipline.ensures)

pub returns-then-not-can_share : goal.returns-then-not-can_share
returns-then-not-can_share c = λ e.
    rules_refused _ e _ _ c.loop-node-test.true (sym (c.can_share.ensures e) ∙ search rules)

pub returns : goal.returns
returns c = λ e. rules_pass _ e _ c.loop-node.node (omega arith) (c.loop-node.invariant e)

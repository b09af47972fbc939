-- `open` meets its contract.
use Rattle.tree_open.proofs.OpenedTree.{state_refused, rules_judged}
use Rattle.refusal.proofs.Numbers.{residual_is}
use Rattle.tree_open.proofs.open.Goals as goal

pub returns-in_err-state-clause-refusal : goal.returns-in_err-state-clause-refusal
returns-in_err-state-clause-refusal c =
    rw (residual_is _ _ c.from_residual.ensures.1) (state_refused _ _ _ _ c.in_err-state.ensures.refusal)

pub returns-in_err-check_rules-clause-refusal : goal.returns-in_err-check_rules-clause-refusal
returns-in_err-check_rules-clause-refusal c =
    let r = c.from_residual-in_err-check_rules in
    rw (residual_is _ _ r.ensures.1) (rules_judged _ _ _ _ c.in_ok-state.ensures.refusal c.in_err-check_rules.ensures)

pub returns-clause-refusal : goal.returns-clause-refusal
returns-clause-refusal c = rules_judged _ _ _ _ c.in_ok-state.ensures.refusal c.in_ok-check_rules.ensures

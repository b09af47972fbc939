-- `open` meets its contract: one law for each answer.
use Rattle.chip_open.proofs.ChipFault.{source_refused, target_refused, rules_judged}
use Rattle.refusal.proofs.Numbers.{residual_is}
use Rattle.chip_open.proofs.open.Goals as goal

pub returns-in_err-read-clause-refusal : goal.returns-in_err-read-clause-refusal
returns-in_err-read-clause-refusal c =
    rw (residual_is _ _ c.from_residual.ensures.1) (source_refused _ _ _ _ _ c.in_err-read.ensures)

pub returns-in_err-state-clause-refusal : goal.returns-in_err-state-clause-refusal
returns-in_err-state-clause-refusal c =
    let r = c.from_residual-in_err-state in
    rw (residual_is _ _ r.ensures.1) (target_refused _ _ _ _ c.in_ok-read.ensures _ c.in_err-state.ensures.refusal)

pub returns-in_err-check_rules-clause-refusal : goal.returns-in_err-check_rules-clause-refusal
returns-in_err-check_rules-clause-refusal c =
    let r = c.from_residual-in_err-check_rules in
    rw (residual_is _ _ r.ensures.1) (rules_judged _ _ _ _ c.in_ok-read.ensures _ c.in_ok-state.ensures.refusal c.in_err-check_rules.ensures)

pub returns-clause-refusal : goal.returns-clause-refusal
returns-clause-refusal c = rules_judged _ _ _ _ c.in_ok-read.ensures _ c.in_ok-state.ensures.refusal c.in_ok-check_rules.ensures

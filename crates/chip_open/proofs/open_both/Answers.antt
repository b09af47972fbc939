-- `open_both` meets its contract: one law for each answer.
use Rattle.chip_open.proofs.ChipFault.{pair_refused, both_judged}
use Rattle.refusal.proofs.Numbers.{residual_is}
use Rattle.chip_open.proofs.open_both.Goals as goal

pub returns-in_err-drawn-clause-refusal : goal.returns-in_err-drawn-clause-refusal
returns-in_err-drawn-clause-refusal c =
    rw (residual_is _ _ c.from_residual.ensures.1) (pair_refused _ _ _ _ _ c.in_err-drawn.ensures.refusal)

pub returns-in_err-check_rules-clause-refusal : goal.returns-in_err-check_rules-clause-refusal
returns-in_err-check_rules-clause-refusal c =
    let r = c.from_residual-in_err-check_rules in
    rw (residual_is _ _ r.ensures.1) (both_judged _ _ _ _ _ c.in_ok-drawn.ensures.refusal c.in_err-check_rules.ensures)

pub returns-clause-refusal : goal.returns-clause-refusal
returns-clause-refusal c = both_judged _ _ _ _ _ c.in_ok-drawn.ensures.refusal c.in_ok-check_rules.ensures

-- `held` meets its contract.
use Rattle.chip_counts.proofs.Amounts.{unanswered, answered}
use Rattle.refusal.proofs.Numbers.{residual_is}
use Rattle.chip_counts.proofs.held.Goals as goal

pub returns-in_err-test_first-clause-refusal : goal.returns-in_err-test_first-clause-refusal
returns-in_err-test_first-clause-refusal c =
    rw (residual_is _ _ c.from_residual.ensures.1) (unanswered _ _ _ c.in_err-test_first.ensures)

pub returns-clause-refusal : goal.returns-clause-refusal
returns-clause-refusal c = answered _ _ c.in_ok-test_first.ensures _ _ c.held.ensures

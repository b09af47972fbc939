-- `held` meets its contract.
use Rattle.std.proofs.Common.{refl}
use Rattle.tree_counts.proofs.AreSound.{unanswered, answered}
use Rattle.refusal.proofs.Numbers.{residual_is}
use Rattle.tree_counts.proofs.held.Goals as goal

pub returns-in_err-test_rules : goal.returns-in_err-test_rules
returns-in_err-test_rules c =
    let test = c.in_err-test_rules.ensures in
    rw (residual_is _ _ c.from_residual.ensures.1, test.refusal) (unanswered _ _ test.passes _ refl)

pub returns : goal.returns
returns c = answered _ _ c.in_ok-test_rules.ensures.passes _ refl _ c.held.ensures

-- `is_leaf` meets its contract: one law for each return.
use Rattle.std.proofs.Common.{ap, ◌∙◌, eqb, ℕ}
use Rattle.discipline_check.proofs.RuleFault.{leaf_byte, leaf_out}
use Rattle.discipline_check.proofs.is_leaf.Goals as goal

pub returns-in-Some : goal.returns-in-Some
returns-in-Some c = λ e. ap (λ (b : ℕ). eqb b 0) (c.in-Some.ensures.lookup.3.1 0) ∙ leaf_byte _ e _ c.in-Some.ensures.lookup.3.0

pub returns-in-None : goal.returns-in-None
returns-in-None c = λ e. leaf_out _ e _ c.in-None.ensures.lookup.3

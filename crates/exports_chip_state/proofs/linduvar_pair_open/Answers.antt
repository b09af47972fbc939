use Rattle.std.proofs.Common.{◌∙◌}
use Rattle.refusal.proofs.Numbers.{plain_by_number}
use Rattle.exports_chip_state.specs.Answers.{both_with, nothing}
use Rattle.exports_chip_state.proofs.linduvar_pair_open.Goals as goal

pub returns : goal.returns
returns c = c.into.ensures ∙ plain_by_number both_with nothing _ c.open_both.result _ c.open_both.ensures.refusal c.open_both.ensures.both

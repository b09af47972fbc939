use Rattle.std.proofs.Common.{◌∙◌}
use Rattle.refusal.proofs.Numbers.{plain_by_number}
use Rattle.tree_state.specs.Opening.{no_tree}
use Rattle.exports_plain_tree.specs.Answers.{opened_with}
use Rattle.exports_tree_state.proofs.linduvar_tree_open.Goals as goal

pub returns : goal.returns
returns c = c.into.ensures ∙ plain_by_number opened_with no_tree _ c.open.result _ c.open.ensures.refusal c.open.ensures.tree

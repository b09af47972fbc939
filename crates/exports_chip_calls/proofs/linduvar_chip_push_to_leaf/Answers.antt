use Rattle.exports_plain_tree.proofs.SchedulesPlain.{scheduled_plain}
use Rattle.exports_chip_calls.proofs.linduvar_chip_push_to_leaf.Goals as goal

pub returns : goal.returns
returns c = scheduled_plain _ _ _ _ _ c.push_to_leaf.result _ c.into.ensures c.push_to_leaf.ensures c.into-2.ensures

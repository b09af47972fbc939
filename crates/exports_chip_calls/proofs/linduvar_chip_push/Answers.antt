use Rattle.exports_plain_tree.proofs.SchedulesPlain.{scheduled_plain}
use Rattle.exports_chip_calls.proofs.linduvar_chip_push.Goals as goal

pub returns : goal.returns
returns c = scheduled_plain _ _ _ _ _ c.push.result _ c.into.ensures c.push.ensures c.into-2.ensures

use Rattle.exports_queue_calls.proofs.ServesPlain.{served-plain}
use Rattle.exports_queue_calls.proofs.linduvar_push.Goals as goal

pub returns : goal.returns
returns c = served-plain _ _ _ c.push.result _ c.into.ensures c.push.ensures c.into-2.ensures

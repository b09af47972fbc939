use Rattle.std.proofs.Common.{◌∙◌, ap}
use Rattle.queue_pop.specs.Way.{way_of}
use Rattle.exports_queue_calls.proofs.ServesPlain.{served-plain}
use Rattle.exports_queue_calls.proofs.linduvar_pop.Goals as goal

pub returns : goal.returns
returns c =
    let popped = c.pop-popped in
    let is = c.into.ensures in
    (served-plain _ _ _ popped.result.served _ is popped.ensures.0 c.into-2.ensures, popped.ensures.1 ∙ ap way_of is)

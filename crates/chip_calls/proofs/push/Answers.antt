-- `push` meets its contract: one law for each answer (proofs/ChipServes).
use Rattle.std.proofs.Common.{refl}
use Rattle.refusal.proofs.Numbers.{number-ne0}
use Rattle.chip_calls.proofs.ChipServes.{first_refused, path_refused, path_carried}
use Rattle.chip_calls.proofs.push.Goals as goal

pub returns-in-Err : goal.returns-in-Err
returns-in-Err c = first_refused _ _ _ _ c.in-Err.ensures (number-ne0 _) _

pub returns-in-Ok : goal.returns-in-Ok
returns-in-Ok c =
    let carried = rw c.bytes.ensures at c.in-Ok.ensures in
    path_carried _ _ _ _ c.in_default.ensures refl _ _ _ carried _ _ c.push_along-answer.ensures

pub returns-in-Err-carry : goal.returns-in-Err-carry
returns-in-Err-carry c =
    let carried = rw c.bytes.ensures at c.in-Err-carry.ensures in
    rw c.refuse-answer.ensures (path_refused _ _ _ _ c.in_default.ensures refl _ _ _ carried)

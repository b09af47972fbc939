-- `pop` meets its contract: one law for each answer (proofs/ChipServes).
use Rattle.std.proofs.Common.{refl, sym}
use Rattle.refusal.proofs.Numbers.{number-ne0}
use Rattle.chip_calls.proofs.ChipServes.{first_refused, map-refused, by_pop}
use Rattle.chip_calls.proofs.pop.Goals as goal

pub returns-in-Err : goal.returns-in-Err
returns-in-Err c = first_refused _ _ _ _ c.in-Err.ensures (number-ne0 _) _

pub returns-in-Ok : goal.returns-in-Ok
returns-in-Ok c =
    let map = rw c.bytes.ensures at c.in-Ok.ensures in
    by_pop _ _ _ _ c.in_default.ensures refl (sym map) _ _ c.pop-answer.ensures

pub returns-in-Err-check : goal.returns-in-Err-check
returns-in-Err-check c =
    let map = rw c.bytes.ensures at c.in-Err-check.ensures in
    rw c.refuse-answer.ensures (map-refused _ _ _ _ c.in_default.ensures refl _ map (number-ne0 _) _)

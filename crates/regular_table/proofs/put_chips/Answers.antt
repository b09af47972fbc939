use Rattle.std.proofs.Common.{◌≡◌, arith}
use Rattle.regular_table.proofs.PutChips.{lines_none, line-room, lines_next, lines_all, lines_refused}
use Rattle.regular_table.proofs.put_chips.Goals as goal

pub loop-d-init : goal.loop-d-init
loop-d-init c = lines_none _ _

pub put_chip-requires : goal.put_chip-requires
put_chip-requires c = line-room _ _ _ _ c.loop-d.invariant (omega arith) (omega arith) _ (rw c.in-Ok.is at c.least_depth.ensures)

pub returns-in-Err : goal.returns-in-Err
returns-in-Err c =
    lines_refused _ _ _ _ c.loop-d.invariant (omega arith) (omega arith) _ _ _ (rw c.in-Err.is at c.least_depth.ensures)
    (rw c.into.ensures at c.put_no.ensures)

pub loop-d-preserved : goal.loop-d-preserved
loop-d-preserved c = lines_next _ _ _ _ c.loop-d.invariant (omega arith) (omega arith) _ _ (rw c.in-Ok.is at c.least_depth.ensures) c.put_chip.ensures

pub returns : goal.returns
returns c =
    let all : c.loop-d.d ≡ 9 = omega arith in
    lines_all _ _ _ _ (rw all at c.loop-d.invariant)

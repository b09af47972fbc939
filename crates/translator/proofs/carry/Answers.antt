-- `carry` meets its contract: the map is refused; or it meets the rules, and the path is refused in the drawing; or the walk carries the path.
use Rattle.std.proofs.Common.{sym}
use Rattle.translator.proofs.WalkLoop.{valid_source}
use Rattle.translator.proofs.Carries.{map-refused, path_refused, path_carried}
use Rattle.refusal.proofs.Numbers.{residual_is}
use Rattle.translator.proofs.carry.Goals as goal

pub returns-in_err-check : goal.returns-in_err-check
returns-in_err-check c =
    rw (residual_is _ _ c.from_residual.ensures.1) (map-refused _ _ _ _ _ c.in_err-check.ensures)

pub check_path-requires : goal.check_path-requires
check_path-requires c = valid_source _ _ _ (sym c.in_ok-check.ensures)

pub returns-in_err-check_path : goal.returns-in_err-check_path
returns-in_err-check_path c =
    let r = c.from_residual-in_err-check_path in
    rw (residual_is _ _ r.ensures.1) (path_refused _ _ _ _ c.in_ok-check.ensures _ c.in_err-check_path.ensures)

pub returns : goal.returns
returns c = path_carried _ _ _ _ c.in_ok-check.ensures c.in_ok-check_path.ensures _ c.walk.ensures

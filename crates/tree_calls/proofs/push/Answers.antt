-- `push` meets its contract.
use Rattle.std.proofs.Common.{refl}
use Rattle.tree_calls.proofs.OwnServes.{unsound, by_path}
use Rattle.tree_calls.proofs.push.Goals as goal

pub returns-in-Ok : goal.returns-in-Ok
returns-in-Ok c = by_path _ _ c.in-Ok.ensures.passes refl _ _ _ _ c.push_along-answer.ensures

pub returns-in-Err : goal.returns-in-Err
returns-in-Err c = rw c.in-Err.ensures.refusal (unsound _ _ c.in-Err.ensures.passes refl _)

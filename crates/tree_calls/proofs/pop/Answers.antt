-- `pop` meets its contract.
use Rattle.std.proofs.Common.{refl}
use Rattle.queue_state.specs.State.{bytes}
use Rattle.tree_calls.proofs.OwnServes.{unsound, by_pop}
use Rattle.tree_calls.proofs.pop.Goals as goal

pub returns-in-Ok : goal.returns-in-Ok
unfolding bytes
returns-in-Ok c =
    let popped = rw (c.bytes.ensures, c.own_images.ensures) at c.pop-answer.ensures in
    by_pop _ _ c.in-Ok.ensures.passes refl _ _ popped

pub returns-in-Err : goal.returns-in-Err
returns-in-Err c = rw c.in-Err.ensures.refusal (unsound _ _ c.in-Err.ensures.passes refl _)

-- `compile` meets its contract: the line of the refusal; or the line of the map, with both trees in step.
use Rattle.std.proofs.Common.{Ok}
use Rattle.pair_state.proofs.OpensBoth.{opens-both}
use Rattle.script_run.proofs.Opening.{refused-comes, opened-comes}
use Rattle.script_run.proofs.compile.Goals as goal

pub returns-in-Err : goal.returns-in-Err
returns-in-Err c =
    let refusal = rw (c.as_slice-source.ensures.items, c.as_slice.ensures.items, c.unwrap_or-limit.ensures) at c.in-Err.ensures.refusal in
    rw c.refuse.ensures.stops (refused-comes _ _ _ _ _ refusal c.refuse.ensures.line)

pub returns-in-Ok : goal.returns-in-Ok
returns-in-Ok c =
    let opens = opens-both _ _ _ (Ok c.in-Ok.pair) c.in-Ok.ensures.refusal c.in-Ok.ensures.pair in
    rw c.new.ensures
    (opened-comes _ _ _ (rw (c.as_slice-source.ensures.items, c.as_slice.ensures.items, c.unwrap_or-limit.ensures) at opens)
    (rw c.as_slice-source.ensures.items at c.put_map.ensures))

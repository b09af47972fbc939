-- One turn of the loop: the reader's next read ends the setup (`ended_there`), or it goes on (`goes_on`).
use Rattle.std.proofs.Common.{◌∙◌}
use Rattle.script_setup.proofs.GatherLoop.{ended_there, goes_on}
use Rattle.script_setup.proofs.gather.Goals as goal

pub returns-in-Some-clause-gathers : goal.returns-in-Some-clause-gathers
returns-in-Some-clause-gathers c =
    let takes = rw (c.in-Some.is, c.next.ensures.read) at c.take.ensures in
    (ended_there _ _ _ _ _ c.loop-ending.invariant.goes _ takes).0

pub returns-in-Some-clause-left : goal.returns-in-Some-clause-left
returns-in-Some-clause-left c =
    let takes = rw (c.in-Some.is, c.next.ensures.read) at c.take.ensures in
    let left = (ended_there _ _ _ _ _ c.loop-ending.invariant.goes _ takes).1 in
    rw (c.next.ensures.at, c.loop-ending.invariant.same) (rw c.loop-ending.invariant.same at left)

pub loop-ending-smaller : goal.loop-ending-smaller
loop-ending-smaller c =
    let takes = rw (c.in_default.is, c.next.ensures.read) at c.take.ensures in
    rw (c.next.ensures.script, c.next.ensures.at) ((goes_on _ _ _ _ _ c.loop-ending.invariant.goes takes).1)

pub loop-ending-preserved : goal.loop-ending-preserved
loop-ending-preserved c =
    let takes = rw (c.in_default.is, c.next.ensures.read) at c.take.ensures in
    record {
      same = c.next.ensures.script ∙ c.loop-ending.invariant.same;
      goes = rw (c.next.ensures.script, c.next.ensures.at) ((goes_on _ _ _ _ _ c.loop-ending.invariant.goes takes).0);
    }

use Rattle.std.proofs.Common.{arith}
use Rattle.translator.proofs.DescendLoop.{descending_none, descending_down, descending_next, descending_end}
use Rattle.translator.proofs.descend.Goals as goal

pub loop-next-smaller : goal.loop-next-smaller
loop-next-smaller c =
    let down = descending_down _ _ _ _ _ _ _ c.loop-next.invariant _ c.toward.ensures c.in-Some.next c.in-Some.is in
    omega (arith, down.0, down.1)

pub loop-next-preserved : goal.loop-next-preserved
loop-next-preserved c =
    descending_next _ _ _ _ _ _ _ c.loop-next.invariant _ c.toward.ensures c.in-Some.next c.in-Some.is _ c.extended-extending.ensures

pub returns : goal.returns
returns c = descending_end _ _ _ _ _ _ _ c.loop-next.invariant (descending_none _ _ _ _ _ _ _ c.loop-next.invariant _ c.toward.ensures c.in_default.is)

use Rattle.std.proofs.Common.{arith, ◌≡◌}
use Rattle.topology.proofs.Cases.{child-zero, child_out, child_none, child_found}
use Rattle.topology_branches.proofs.child.Goals as goal

pub returns-in_err-children : goal.returns-in_err-children
returns-in_err-children c = rw c.from_residual.ensures (child_out _ _ _ c.in_err-children.ensures.lookup.3)

pub returns-then-index-eq0 : goal.returns-then-index-eq0
returns-then-index-eq0 c = child-zero _ _ _ c.if-index-eq0.true

pub returns-then-from-index : goal.returns-then-from-index
returns-then-from-index c = child_none _ _ _ (omega (arith, c.in_ok-children.ensures.lookup.3.1 0))

pub returns : goal.returns
returns c =
    let e : c.loop.counter ≡ c.args.index = omega arith in
    child_found _ _ _ _ _ c.loop.invariant e c.if-index-eq0.false (omega (arith, c.in_ok-children.ensures.lookup.3.1 0))

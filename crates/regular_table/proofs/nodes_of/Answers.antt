use Rattle.std.proofs.Common.{arith}
use Rattle.regular_table.proofs.Sizes.{nodes_next, nodes-room}
use Rattle.regular_table.proofs.nodes_of.Goals as goal

pub overflow_mul-nodes : goal.overflow_mul-nodes
overflow_mul-nodes c = omega (arith, nodes-room _ _ c.requires.0 _ c.loop.invariant _ c.loop-test.true c.requires.1)

pub overflow_add-nodes : goal.overflow_add-nodes
overflow_add-nodes c = omega (arith, nodes-room _ _ c.requires.0 _ c.loop.invariant _ c.loop-test.true c.requires.1)

pub loop-preserved : goal.loop-preserved
loop-preserved c = nodes_next _ _ c.requires.0 _ c.loop.invariant

use Rattle.std.proofs.Common.{arith, rules}
use Rattle.embedding_program.proofs.Cells.{holding_in, tried-start, tried_next}
use Rattle.embedding_least.proofs.Scan.try_child.Goals as goal

pub loop-n-init : goal.loop-n-init
loop-n-init c = tried-start _ _ (omega arith) _ _ _ c.requires.2.some

pub loop-n-preserved : goal.loop-n-preserved
loop-n-preserved c =
    tried_next _ _ (omega arith) _ _ _ _ _ (search rules) c.requires.2.some c.loop-n.invariant
    (omega (arith, holding_in _ _ _ c.requires.2 c.loop-n-test.true, c.requires.2.few)) c.requires.0 _ c.tried-least.ensures

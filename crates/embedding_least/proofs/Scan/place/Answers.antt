use Rattle.std.proofs.Common.{refl}
use Rattle.embedding_program.proofs.Cells.{filling_begin, filling_next, filling_placed}
use Rattle.embedding_least.proofs.Scan.place.Goals as goal

pub loop-p-init : goal.loop-p-init
loop-p-init c =
    filling_begin _ _ _ _ c.requires.branch.0 _ _ _ c.requires.scanned c.requires.branch.2 _ refl _ _ c.start_row-start.ensures

pub loop-p-preserved : goal.loop-p-preserved
loop-p-preserved c = filling_next _ _ _ _ c.requires.branch.0 _ _ c.loop-p.invariant c.loop-p-test.true _ c.fill_row.ensures

pub returns-clause-placed : goal.returns-clause-placed
returns-clause-placed c =
    filling_placed _ _ _ _ c.requires.branch.0 _ _ c.loop-p.invariant c.loop-p-test.false _ c.sets.ensures.value _ (c.loop-p.self.bound _) refl

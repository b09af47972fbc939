use Rattle.std.proofs.Common.{arith, rules}
use Rattle.embedding_program.specs.InnerTables.{best_by}
use Rattle.embedding_program.proofs.Nodes.{listed}
use Rattle.embedding_program.proofs.Images.{read-start, read_small, read_next}
use Rattle.embedding_least.proofs.read_off.Goals as goal

pub loop-s-init : goal.loop-s-init
loop-s-init c = read-start c.args.source.now c.requires.0 (best_by c.args.best.now)

pub overflow_add-number : goal.overflow_add-number
overflow_add-number c =
    let small = read_small c.args.source.now c.requires.0 (best_by c.args.best.now) _ c.loop-s-test.true _ c.loop-s.invariant in
    omega (arith, small, c.requires.0.fits, c.from.ensures)

pub offset_bounds-best-s : goal.offset_bounds-best-s
offset_bounds-best-s c =
    let small = read_small c.args.source.now c.requires.0 (best_by c.args.best.now) _ c.loop-s-test.true _ c.loop-s.invariant in
    omega (arith, small, c.requires.0.fits, c.from.ensures)

pub bounds-best-s : goal.bounds-best-s
bounds-best-s c =
    let small = read_small c.args.source.now c.requires.0 (best_by c.args.best.now) _ c.loop-s-test.true _ c.loop-s.invariant in
    omega (arith, small, c.requires.0.fits, c.from.ensures)

pub set_images-requires : goal.set_images-requires
set_images-requires c =
    let kids = listed c.args.source.now c.requires.0 _ c.loop-s-test.true _ c.kids_of-kids.ensures (search rules) _ c.from-in-loop-s.ensures in
    kids.differ

pub loop-s-preserved : goal.loop-s-preserved
loop-s-preserved c =
    let kids = listed c.args.source.now c.requires.0 _ c.loop-s-test.true _ c.kids_of-kids.ensures (search rules) _ c.from-in-loop-s.ensures in
    read_next c.args.source.now c.requires.0 (best_by c.args.best.now) _ c.loop-s-test.true _ kids.are _ c.loop-s.invariant _
    (rw (← kids.long, ← c.from.ensures) c.set_images.ensures)

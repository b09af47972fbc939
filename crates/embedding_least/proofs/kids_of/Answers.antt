use Rattle.std.proofs.Common.{arith, refl}
use Rattle.embedding_program.proofs.Images.{listing_start, listing_node, listing_next}
use Rattle.embedding_least.proofs.kids_of.Goals as goal

pub loop-place-init : goal.loop-place-init
loop-place-init c = rw c.from-place.ensures (listing_start c.args.source.now c.requires.0 c.args.ends.now c.requires.1 _ c.requires.2 _ refl)

pub bounds-ends-next : goal.bounds-ends-next
bounds-ends-next c =
    let inside = listing_node c.args.source.now c.requires.0 c.args.ends.now c.requires.1 _ c.requires.2 _ _ _ c.loop-place.invariant
    c.loop-place-test.true in
    omega (arith, inside, c.requires.0.fits)

pub offset_bounds-ends-next : goal.offset_bounds-ends-next
offset_bounds-ends-next c =
    let inside = listing_node c.args.source.now c.requires.0 c.args.ends.now c.requires.1 _ c.requires.2 _ _ _ c.loop-place.invariant
    c.loop-place-test.true in
    omega (arith, inside, c.requires.0.fits)

pub loop-place-preserved : goal.loop-place-preserved
loop-place-preserved c =
    listing_next c.args.source.now c.requires.0 c.args.ends.now c.requires.1 _ c.requires.2 _ _ _ c.loop-place.invariant c.loop-place-test.true

-- `draw` meets its contract: with a map, the source is small.
use Rattle.std.proofs.Common.{length, ap, arith, length-take}
use Rattle.embedding_model.proofs.Search.{map-room}
use Rattle.drawing_svg.proofs.Sheet.{mapped_small}
use Rattle.drawing_svg.proofs.draw.Goals as goal

pub slice_bounds-map-end : goal.slice_bounds-map-end
slice_bounds-map-end c =
    let small = mapped_small _ _ (rw (c.as_slice-source.ensures.items, c.as_slice.ensures.items) at c.in-Ok.ensures.number) in
    omega (arith, ap length c.as_slice-source.ensures.items, small, map-room _ _ _ c.in-Ok.ensures.map)

pub slice_bounds-images-end : goal.slice_bounds-images-end
slice_bounds-images-end c =
    let small = mapped_small _ _ (rw (c.as_slice-source.ensures.items, c.as_slice.ensures.items) at c.in-Ok.ensures.number) in
    omega (arith, ap length c.as_slice-source.ensures.items, length-take (length c.as_slice-source.result.now) c.in-Ok.map, small, map-room _ _ _ c.in-Ok.ensures.map)

pub invariant_of-draw_mapped : goal.invariant_of-draw_mapped
invariant_of-draw_mapped c = record { few = omega (arith, length-take (length c.as_slice-source.result.now) c.in-Ok.map, map-room _ _ _ c.in-Ok.ensures.map) }

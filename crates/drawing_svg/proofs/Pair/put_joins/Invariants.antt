-- `put_joins` meets its contract. The lines from the nodes before the counter are put.
use Rattle.std.proofs.Common.{get_or}
use Rattle.text.specs.Appending.{Appends}
use Rattle.drawing_svg.specs.Sheet.{each, join_of}
use Rattle.drawing_svg.proofs.Pair.put_joins.Given as goal

abbrev pub invariant-loop-node : goal.invariant-loop-node
invariant-loop-node l =
    let pair = l.self in
    let drawing = pair.drawing.now in
    Appends l.initial.text (each (λ i. join_of drawing.source.items drawing.target.items i (get_or pair.images.now i 0)) l.node) l.text

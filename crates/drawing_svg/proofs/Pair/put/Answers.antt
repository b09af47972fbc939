-- `put` meets its contract: the parts of the sheet joined.
use Rattle.text.proofs.Appending.{appends_then}
use Rattle.drawing_svg.specs.Sheet.{pair_of}
use Rattle.drawing_svg.proofs.Pair.put.Goals as goal

pub returns : goal.returns
unfolding pair_of
returns c =
    let source = c.as_slice-source.ensures.items in
    let target = c.as_slice-target.ensures.items in
    rw (← (rw (source, target) at c.max-rows.ensures))
    (appends_then c.put_head.ensures
    (appends_then c.put_joins.ensures
    (appends_then (rw source at c.put.ensures) (appends_then (rw target at c.put-2.ensures) c.put_legend.ensures))))

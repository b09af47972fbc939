use Rattle.std.proofs.Common.{add-one}
use lib.Seq.{drop-cons}
use lib.ListN.{drop_of_length-le}
use Rattle.text.proofs.Appending.{appends_none, appends_then}
use Rattle.script_lines.specs.Lines.{map_line}
use Rattle.script_lines.proofs.put_map.Goals as goal

pub loop-image-preserved : goal.loop-image-preserved
loop-image-preserved c =
    λ after p.
    let e = drop-cons _ _ 0 c.loop-image-test.true in
    let image = rw c.from.ensures at c.put_decimal.ensures in
    c.loop-image.invariant after (rw e (appends_then c.put.ensures (appends_then image (rw add-one at p))))

pub returns : goal.returns
unfolding map_line
returns c =
    let e = drop_of_length-le _ c.loop-image-test.false in
    appends_then c.put_word.ensures (appends_then (c.loop-image.invariant _ (rw e (appends_none _))) c.put-2.ensures)

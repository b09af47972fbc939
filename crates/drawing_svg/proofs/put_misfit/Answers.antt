-- `put_misfit` meets its contract: the parts of the sheet joined.
use Rattle.text.proofs.Appending.{appends_then}
use Rattle.drawing_svg.specs.Sheet.{misfit_of}
use Rattle.drawing_svg.proofs.put_misfit.Goals as goal

pub returns : goal.returns
unfolding misfit_of
returns c =
    rw (← (rw c.as_slice.ensures.items at c.branch_end.ensures))
    (appends_then c.put.ensures
    (appends_then (rw (c.from-2.ensures, c.from.ensures) at c.put_note.ensures) (appends_then c.put_lack.ensures c.put_note_end.ensures)))

-- `put_refused` meets its contract: the two texts joined.
use Rattle.text.proofs.Appending.{appends_then}
use Rattle.drawing_elements.proofs.put_refused.Goals as goal

pub returns : goal.returns
returns c = rw (← c.from.ensures) (appends_then c.put_note.ensures c.put_note_end.ensures)

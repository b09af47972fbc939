-- `put_mark` meets its contract: the parts of the element joined.
use Rattle.text.proofs.Appending.{appends_then}
use Rattle.drawing_elements.specs.Elements.{numbered, mark}
use Rattle.drawing_elements.proofs.put_mark.Goals as goal

pub returns : goal.returns
unfolding mark numbered
returns c = appends_then c.put_word.ensures (appends_then c.put_word-2.ensures c.put_filled.ensures)

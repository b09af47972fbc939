-- `draw_nothing` meets its contract: the two texts joined.
use Rattle.text.proofs.Appending.{appends_then}
use Rattle.drawing_elements.specs.Elements.{nothing}
use Rattle.drawing_elements.proofs.draw_nothing.Goals as goal

pub returns : goal.returns
unfolding nothing
returns c = appends_then c.put_head.ensures c.put_word.ensures

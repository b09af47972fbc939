-- `draw_refusal` meets its contract: the two texts joined.
use Rattle.text.proofs.Appending.{appends_then}
use Rattle.drawing_elements.specs.Elements.{refusal}
use Rattle.drawing_elements.proofs.draw_refusal.Goals as goal

pub returns : goal.returns
unfolding refusal
returns c = appends_then c.put_head.ensures c.put_refused.ensures

-- `put_join` meets its contract: the two filled templates joined.
use Rattle.text.proofs.Appending.{appends_then}
use Rattle.drawing_elements.specs.Elements.{join}
use Rattle.drawing_elements.proofs.put_join.Goals as goal

pub returns : goal.returns
unfolding join
returns c = appends_then c.put_filled.ensures c.put_filled-2.ensures

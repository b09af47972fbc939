-- `put_legend` meets its contract: the parts of the text joined.
use Rattle.text.proofs.Appending.{appends_then}
use Rattle.drawing_elements.specs.Elements.{legend}
use Rattle.drawing_elements.proofs.put_legend.Goals as goal

pub returns : goal.returns
unfolding legend
returns c =
    rw (← c.row_of.ensures)
    (appends_then c.put_filled.ensures
    (appends_then c.put_word.ensures
    (appends_then c.put_word-2.ensures
    (appends_then c.put_word-3.ensures
    (appends_then c.put_word-4.ensures (appends_then c.put_word-5.ensures c.put_word-6.ensures))))))

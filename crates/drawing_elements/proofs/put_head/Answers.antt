-- `put_head` meets its contract: the parts of the text joined.
use Rattle.text.proofs.Appending.{appends_then}
use Rattle.drawing_elements.specs.Elements.{opening, head}
use Rattle.drawing_elements.proofs.put_head.Goals as goal

pub returns : goal.returns
unfolding head opening
returns c =
    rw (← c.from-rows.ensures)
    (appends_then c.put_filled.ensures
    (appends_then c.put_word.ensures
    (appends_then c.put_word-2.ensures
    (appends_then c.put_word-3.ensures
    (appends_then c.put_word-4.ensures (appends_then c.put_word-5.ensures c.put_word-6.ensures))))))

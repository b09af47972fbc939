-- `put_fault_note` meets its contract: the parts of the note joined.
use Rattle.text.proofs.Appending.{appends_then}
use Rattle.drawing_elements.specs.Elements.{fault_lead, fault_text, fault_note}
use Rattle.drawing_elements.proofs.put_fault_note.Goals as goal

pub returns : goal.returns
unfolding fault_lead fault_text fault_note
returns c =
    rw (← c.fault_start.ensures, ← c.name.ensures, ← c.fault_words.ensures, ← c.from.ensures)
    (appends_then c.put_note.ensures
    (appends_then c.put_filled.ensures (appends_then c.put_word.ensures (appends_then c.put_filled-2.ensures c.put_note_end.ensures))))

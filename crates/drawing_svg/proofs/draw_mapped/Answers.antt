-- `draw_mapped` meets its contract: both trees and the end of the sheet joined.
use Rattle.text.proofs.Appending.{appends_then}
use Rattle.drawing_svg.proofs.draw_mapped.Goals as goal

pub returns-in-Ok : goal.returns-in-Ok
returns-in-Ok c = rw (← c.unwrap_or.ensures, ← c.in-Ok.ensures) (appends_then c.put.ensures c.put_word.ensures)

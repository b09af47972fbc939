-- `draw_script` meets its contract: the text that begins with the buffer holds the sheet.
use Rattle.std.proofs.Common.{rules}
use Rattle.text.proofs.Appending.{puts_all}
use Rattle.drawing_svg.proofs.draw_script.Goals as goal

pub returns : goal.returns
returns c = puts_all c.new-text.ensures c.put_sheet.ensures (search rules) c.place.ensures

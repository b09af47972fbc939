-- `put_out` meets its contract: the word, the digits and the line's end one behind another.
use Rattle.text.proofs.Appending.{appends_then}
use Rattle.script_lines.specs.Lines.{out_line}
use Rattle.script_lines.proofs.put_out.Goals as goal

pub returns : goal.returns
unfolding out_line
returns c = appends_then c.put_word.ensures (appends_then c.put_hex8.ensures c.put.ensures)

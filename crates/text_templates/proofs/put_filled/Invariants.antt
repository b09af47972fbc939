-- `put_filled` meets its contract. What puts the rest of the template, filled in with the numbers that are left, puts the whole of it.
use Rattle.std.proofs.Common.{drop}
use Rattle.text.specs.Appending.{Appends}
use Rattle.text.specs.declared.Text.{Text}
use Rattle.text_templates.specs.Template.{filled}
use Rattle.text_templates.proofs.put_filled.Given as goal

abbrev pub invariant-loop-byte : goal.invariant-loop-byte
invariant-loop-byte l =
    (after : Text) → Appends l.text (filled (drop l.byte-index l.template) l.left.rest.now 0) after
    → Appends l.fn.text (filled l.template l.numbers 0) after

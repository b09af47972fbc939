-- `put_map` meets its contract. What puts the remaining images behind the text puts all of them.
use Rattle.std.proofs.Common.{drop}
use Rattle.text.specs.Appending.{Appends}
use Rattle.text.specs.declared.Text.{Text}
use Rattle.script_lines.specs.Lines.{all_spaced}
use Rattle.script_lines.proofs.put_map.Given as goal

abbrev pub invariant-loop-image : goal.invariant-loop-image
invariant-loop-image l =
    (after : Text) → Appends l.text (all_spaced (drop l.image-index l.images)) after → Appends l.initial.text (all_spaced l.images) after

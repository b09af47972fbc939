-- `serve` meets its contract. The loop's invariant is `Going`: what the code has, the text put so far, and that the text of the remaining reads comes
-- after it.
use Rattle.script_run.proofs.BatchLoop.{Going}
use Rattle.script_run.proofs.serve.Given as goal

abbrev pub invariant-loop-read : goal.invariant-loop-read
invariant-loop-read l =
    Going l.source_tree l.chip_tree l.images l.read-items l.initial.source l.initial.path l.initial.text l.read-index l.source l.chip l.path l.text

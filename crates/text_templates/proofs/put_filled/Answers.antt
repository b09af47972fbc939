use Rattle.text.proofs.Appending.{appends_none, appends_then}
use Rattle.text_templates.proofs.Filled.{filled_hole, filled_byte, filled_end}
use Rattle.text_templates.proofs.put_filled.Goals as goal
use Rattle.text_templates.proofs.put_filled.Goals.{then-byte-eq35, else-byte-eq35}

pub loop-byte-init : goal.loop-byte-init
loop-byte-init c = λ after p. (rw c.iter-left.ensures.rest at p)

pub loop-byte-preserved : goal.loop-byte-preserved
loop-byte-preserved c =
    let within = c.loop-byte-test.true in
    let rest = c.loop-byte.invariant in
    elim c.if-byte-eq35.branch [
      | then-byte-eq35 w ↦
          let number = rw w.copied.ensures at w.unwrap_or.ensures in
          let fills = filled_hole _ _ _ _ _ _ within w.if-byte-eq35.true number w.next.ensures.steps in
          rw (w.text-is, w.left-is) (λ after p. rest after (rw fills (appends_then w.put_decimal.ensures p)))
      | else-byte-eq35 w ↦
          rw (w.text-is, w.left-is)
          (λ after p. rest after (rw (filled_byte _ _ _ within w.if-byte-eq35.false) (appends_then w.put.ensures p)))
    ]

pub returns : goal.returns
returns c = c.loop-byte.invariant _ (rw (filled_end _ _ _ c.loop-byte-test.false) (appends_none _))

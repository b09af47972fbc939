use Rattle.std.proofs.Common.{rules, ◌<◌, length, arith, sym, ◌∙◌}
use Rattle.discipline_clock.proofs.Loops.{clocked_all, time_set, time_stays}
use Rattle.discipline_clock.proofs.after_pop.Goals as goal
use Rattle.discipline_clock.proofs.after_pop.Goals.{then-eq+in-Some, then-eq+in_default, else-eq}

pub loop-n-preserved : goal.loop-n-preserved
loop-n-preserved c =
    let n = c.loop-n.n in
    let byte : n < length c.args.bytes.now = omega arith in
    let image : n < length c.args.images.now = omega arith in
    let place : n < length c.args.disciplines.virtual_time = omega arith in
    elim c.if-eq.branch [
      | then-eq+in-Some w ↦ w.disciplines-is
          ∙ time_set _ _ _ _ _ _ c.loop-n.invariant byte image place _ c.acts_as.ensures _ (search rules) (sym w.in-Some.ensures)
      | then-eq+in_default w ↦ w.disciplines-is
          ∙ time_stays _ _ _ _ _ _ c.loop-n.invariant byte image place _ c.acts_as.ensures (λ _. sym w.in_default.ensures)
      | else-eq w ↦ w.disciplines-is
          ∙ time_stays _ _ _ _ _ _ c.loop-n.invariant byte image place _ c.acts_as.ensures (λ k. absurd (search rules))
    ]

pub returns : goal.returns
returns c = clocked_all c.args.disciplines _ _ c.args.bytes.now c.args.images.now _ c.loop-n.invariant (omega arith)

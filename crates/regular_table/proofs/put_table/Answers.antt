-- `put_table` meets its contract: the cases of how the setup ends.
use Rattle.std.proofs.Common.{◌≡◌, eqb, get_or, true, false, sym, ◌∙◌, arith, rules}
use Rattle.std.proofs.lemmas.Grind.{common_steps}
use Rattle.std.proofs.lemmas.Bool.Decides.{nat_tests}
use Rattle.regular_table.specs.Table.{Prints}
use Rattle.regular_table.specs.InnerTable.{Adds}
use Rattle.regular_table.proofs.Endings.{ends_with-script, ends_compiled, ends_unlimited, ends_refused, writes}
use Rattle.regular_table.proofs.put_table.Goals as goal
use Rattle.regular_table.proofs.put_table.Goals.{in-End, in-Refused, in-Refused-2, in-Compile}

pub returns : goal.returns
returns c =
    let gathered = c.gathered_of-gathered.ensures in
    let kept = c.as_slice-source.ensures.items in
    let text : Adds (Prints c.args.script.now) c.new-text.result c.match-gathered.text =
    elim c.match-gathered.branch [
      | in-End w ↦ rw w.text-is (ends_with-script _ _ _ _ gathered.draws (sym gathered.ending ∙ w.in-End.is) (rw kept at w.put_chips.ensures))
      | in-Refused w ↦
          let code : eqb (get_or c.args.script.now w.in-Refused.at 0) 4 ≡ true = grind (arith, common_steps, nat_tests) in
          let chips = rw kept at w.put_chips-in-Refused.ensures in
          rw w.text-is (ends_unlimited _ _ _ _ gathered.draws _ _ (sym gathered.ending ∙ w.in-Refused.is) code chips)
      | in-Refused-2 w ↦
          let code : eqb (get_or c.args.script.now w.in-Refused-2.at 0) 4 ≡ false = grind (arith, common_steps, nat_tests) in
          let line = rw w.into.ensures at w.put_no.ensures in
          rw w.text-is (ends_refused _ _ _ _ gathered.draws _ _ (sym gathered.ending ∙ w.in-Refused-2.is) code line)
      | in-Compile w ↦
          rw w.text-is (ends_compiled _ _ _ _ gathered.draws _ (sym gathered.ending ∙ w.in-Compile.is) (rw kept at w.put_chips-in-Compile.ensures))
    ] in
    writes c.new-text.ensures text (search rules) c.place.ensures

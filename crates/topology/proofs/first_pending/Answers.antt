-- `first_pending` meets its contract: the position is the number of marks in front that are not less than the debt.
use Rattle.std.proofs.Common.{◌≡◌, ◌-◌, ◌≤◌, ◌<◌, ◌∙◌, sym, refl, rules, tests, arith, drop, length}
use Rattle.std.proofs.lemmas.Iterator.{YieldsList-from_slice, IsFirst-from_position, index_from_first}
use Rattle.std.proofs.lemmas.List.{drop-drop, length-drop}
use lib.Seq.{take_all}
use borrow.Author.Tests.{lt-ltb, le-ltb}
use Rattle.topology.proofs.Marks.{met, drop_met, met_bound}
use Rattle.topology.proofs.first_pending.Goals as goal

pub returns : goal.returns
returns c =
    let debt = c.args.debt in
    let top = c.args.top in
    let marks = c.args.marks.now in
    let rest = drop top marks in
    let long : length rest ≡ 9 - top = omega (arith, length-drop top marks, c.told-marks) in
    let first = index_from_first (met debt) (λ m. m < debt) (λ m. debt ≤ m) refl (λ m ms l. rw (lt-ltb m debt l)) (λ m ms l. rw (le-ltb m debt l)) rest
    _ (IsFirst-from_position c.position.new.self _ c.position.result (λ m. m < debt) (λ m. debt ≤ m) c.position.ensures.ran (YieldsList-from_slice rest (c.iter.ensures.rest ∙ take_all (9 - top) rest (omega (arith, long))))
    (λ x q k. search (rules, tests)) (λ x q k. search (rules, tests))) in
    let at : c.unwrap_or.result ≡ met debt rest = c.unwrap_or.ensures ∙ rw (← long) (sym first) in
    (omega (arith, at, met_bound debt rest, long), rw at (sym (drop-drop (met debt rest) top marks) ∙ drop_met debt rest))

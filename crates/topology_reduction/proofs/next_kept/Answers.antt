-- `next_kept` meets its contract: the position is the number of bytes 1 in front.
use Rattle.std.proofs.Common.{◌≡◌, ◌≢◌, ◌∙◌, sym, refl, rules, tests, arith, drop}
use Rattle.std.proofs.lemmas.Iterator.{YieldsList-from_slice, IsFirst-from_position, index_from_first}
use Rattle.std.proofs.lemmas.List.{take_all, length-drop}
use mathlib.Core.Logic.{inl, inr}
use borrow.Author.Tests.{eq-eqb, ne_eqb}
use Rattle.topology_reduction.specs.Reduced.{ones}
use Rattle.topology_reduction.proofs.NextKeptScan.{next_kept_is, next_kept_out}
use Rattle.topology_reduction.proofs.next_kept.Goals as goal

pub returns-in_default : goal.returns-in_default
returns-in_default c = next_kept_out _ _ (elim c.in_default.ensures.lookup.0 [ inl e ↦ omega arith | inr e ↦ omega arith ])

pub returns : goal.returns
returns c =
    let rest = drop c.args.node c.args.bytes.now in
    let is : c.in-Some.rest.now ≡ rest = c.in-Some.ensures.lookup.0.2 ∙ take_all _ rest (omega (arith, length-drop c.args.node c.args.bytes.now)) in
    let first = index_from_first ones (λ b. b ≢ 1) (λ b. b ≡ 1) refl (λ b bs d. rw (ne_eqb b 1 d)) (λ b bs e. rw (eq-eqb b 1 e) (omega arith)) rest
    _ (IsFirst-from_position c.position.new.self _ c.position.result (λ b. b ≢ 1) (λ b. b ≡ 1) c.position.ensures.ran (YieldsList-from_slice rest (c.iter.ensures.rest ∙ is))
    (λ x q k. search (rules, tests)) (λ x q k. search (rules, tests))) in
    next_kept_is _ _ _ (c.unwrap_or.ensures ∙ rw is (sym first))

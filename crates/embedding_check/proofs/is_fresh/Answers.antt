use Rattle.std.proofs.Common.{◌∙◌, ℕ, take, eqb, not, rules, tests, ap, arith}
use Rattle.std.proofs.lemmas.Iterator.{YieldsList-from_slice}
use Rattle.std.proofs.lemmas.Iterator.Search.{all_from_yields_List}
use Rattle.std.proofs.lemmas.List.{get_or-take}
use Rattle.std.proofs.Math.Seq.{length-take-le}
use Rattle.embedding_model.specs.Rules.{image}
use Rattle.embedding_check.specs.InnerTests.{fresh}
use Rattle.base.proofs.Chains.{list_all_places}
use Rattle.embedding_check.proofs.is_fresh.Goals as goal

pub returns : goal.returns
unfolding fresh
returns c =
    let m = c.args.map.now in
    let a = c.args.a in
    let test = λ (x : ℕ). not (eqb x (image m a)) in
    all_from_yields_List test c.all.new.self _ _ c.all.ensures.ran
    (YieldsList-from_slice (take a m) (cc)) (λ x b q k. search (rules, tests))
    ∙ list_all_places test (λ b. test (image m b)) (take a m) 0 a (omega (arith, length-take-le a m (omega arith)))
    (λ i h. ap test (get_or-take a m i 0 h))

use Rattle.std.proofs.Common.{◌∙◌, ℕ, ◌<◌, length, get_or, eqb, not, ◌||◌, rules, tests, sym, ap, arith}
use Rattle.std.proofs.lemmas.Iterator.{YieldsList-from_slice, YieldsList-from_zip}
use Rattle.std.proofs.lemmas.Iterator.Adapters.{serves_from_places}
use Rattle.std.proofs.lemmas.Iterator.Search.{all_from_yields_List}
use Rattle.base.specs.Tests.{all}
use Rattle.embedding_model.specs.Rules.{image}
use Rattle.embedding_model.specs.Check.{rule3}
use Rattle.base.proofs.Chains.{list_all_zip}
use Rattle.embedding_check.proofs.Tests.{zip_second, node_at}
use Rattle.embedding_check.proofs.keeps_leaves.Goals as goal

pub all-requires-clause-callable : goal.all-requires-clause-callable
all-requires-clause-callable c =
    let s = c.args.source.now in
    let t = c.args.target.now in
    let m = c.args.map.now in
    serves_from_places (YieldsList-from_zip (YieldsList-from_slice s cc) (YieldsList-from_slice m cc)) (λ x q r. search rules)
    (λ x k h e.
    let second = zip_second s m c.requires.0 k (x.0.now, x.1.now) h e in
    let inside : x.1.now < length t = omega (arith, node_at t m k c.requires.1 second.0, second.1) in
    search rules)

pub returns : goal.returns
unfolding rule3
returns c =
    let s = c.args.source.now in
    let m = c.args.map.now in
    let test = λ (p : ℕ × ℕ). not (eqb p.0 0) || eqb (get_or c.args.target.now p.1 0) 0 in
    all_from_yields_List test c.all.new.self _ _ c.all.ensures.ran
    (YieldsList-from_zip (YieldsList-from_slice s cc) (YieldsList-from_slice m cc)) (λ x b q k. search (rules, tests))
    ∙ list_all_zip s m c.requires.0 test ∙ ap (λ (n : ℕ). all n (λ a. test (get_or s a 0, image m a))) (sym c.requires.0)

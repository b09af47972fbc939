use Rattle.std.proofs.Common.{◌∙◌, ℕ, rules, tests}
use Rattle.std.proofs.lemmas.Iterator.{YieldsList-from_slice}
use Rattle.std.proofs.lemmas.Iterator.Consumers.{YieldsList-from_enumerate}
use Rattle.std.proofs.lemmas.Iterator.Search.{all_from_yields_List}
use Rattle.base.specs.Tests.{same}
use Rattle.embedding_model.specs.Rules.{image}
use Rattle.embedding_check.specs.InnerTests.{alike, above_by}
use Rattle.base.proofs.Chains.{list_all_enumerated}
use Rattle.embedding_check.proofs.stands_alike.Goals as goal

pub returns : goal.returns
unfolding alike
returns c =
    let m = c.args.map.now in
    let a = c.args.a in
    let test = λ (p : ℕ × ℕ). same (above_by c.args.source.now a p.0) (above_by c.args.target.now (image m a) p.1) in
    all_from_yields_List test c.all.new.self _ _ c.all.ensures.ran
    (YieldsList-from_enumerate (YieldsList-from_slice m cc) cc) (λ x b q k. search (rules, tests))
    ∙ list_all_enumerated test m

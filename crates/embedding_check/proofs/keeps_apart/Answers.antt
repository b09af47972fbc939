use Rattle.std.proofs.Common.{◌∙◌, length, rules, tests, arith}
use Rattle.std.proofs.lemmas.Iterator.{YieldsList-from_range}
use Rattle.std.proofs.lemmas.Iterator.Search.{all_from_yields_List}
use Rattle.embedding_model.specs.Check.{rule1}
use Rattle.embedding_check.specs.InnerTests.{fresh}
use Rattle.base.proofs.Chains.{list_all_range}
use Rattle.embedding_check.proofs.keeps_apart.Goals as goal

pub returns : goal.returns
unfolding rule1 fresh
returns c =
    let m = c.args.map.now in
    all_from_yields_List (fresh m) c.all.new.self _ _ c.all.ensures.ran
    (YieldsList-from_range 0 (length m) (length m) (cc) (omega arith)) (λ x b q k. search (rules, tests))
    ∙ list_all_range (fresh m) (length m)

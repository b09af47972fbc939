use Rattle.std.proofs.Common.{◌∙◌, length, rules, tests, arith}
use Rattle.std.proofs.lemmas.Iterator.{YieldsList-from_range, serves_from_Range}
use Rattle.std.proofs.lemmas.Iterator.Search.{all_from_yields_List}
use Rattle.embedding_check.specs.InnerTests.{alike}
use Rattle.base.proofs.Chains.{list_all_range}
use Rattle.embedding_check.proofs.Tests.{tabled, alike_rule}
use Rattle.embedding_check.proofs.keeps_order.Goals as goal

pub all-requires-clause-callable : goal.all-requires-clause-callable
all-requires-clause-callable c =
    let small = tabled c.args.source.now c.args.target.now c.args.map.now c.requires in
    serves_from_Range (λ x q r. search rules) (λ x above_start inside. search rules)

pub returns : goal.returns
returns c =
    let m = c.args.map.now in
    let s = c.branch_ends-source_ends.result in
    let t = c.branch_ends-target_ends.result in
    all_from_yields_List (alike s t m) c.all.new.self _ _ c.all.ensures.ran
    (YieldsList-from_range 0 (length m) (length m) (cc) (omega arith)) (λ x b q k. search (rules, tests))
    ∙ list_all_range (alike s t m) (length m)
    ∙ alike_rule c.args.source.now c.args.target.now m c.requires s t c.branch_ends-source_ends.ensures c.branch_ends-target_ends.ensures

use Rattle.std.proofs.Common.{◌∙◌, length, ap, arith, rules, tests}
use Rattle.std.specs.Option.{unwrap_or}
use Rattle.std.specs.Ordering.{nat_cmp, max_by_ordering}
use Rattle.std.proofs.lemmas.Iterator.{YieldsList-from_range, YieldsList-from_map}
use Rattle.std.proofs.lemmas.Iterator.Consumers.{YieldsList-at, reduce_from_yields_List}
use Rattle.topology_places.specs.Places.{depth}
use Rattle.embedding_diagnosis.specs.Diagnosis.{deepest}
use Rattle.embedding_diagnosis.proofs.WhyCases.{greatest_all}
use Rattle.embedding_diagnosis.proofs.deepest.Goals as goal

pub returns : goal.returns
unfolding deepest
returns c =
    let target = c.args.target.now in
    let range = YieldsList-at c.map.ensures.source (YieldsList-from_range 0 (length target) (length target) (cc) (omega arith)) in
    c.unwrap_or.ensures
    ∙ ap (λ o. unwrap_or o 0) (reduce_from_yields_List (λ p z. max_by_ordering (nat_cmp p z) p z) _ _ c.max.ensures.ran
    (YieldsList-from_map _ (depth target) range c.map.ensures.closure (λ x r q k. search (rules, tests))))
    ∙ greatest_all (depth target) (length target)

-- `child_number` meets its contract: of the nodes from 1 to it those that have its parent are counted.
use Rattle.std.proofs.Common.{◌∙◌, ℕ, ◌+◌, eqb, ap, rules, tests}
use Rattle.topology_places.specs.Places.{child_number, parent, counted}
use Rattle.topology_places.proofs.Chains.{counted_all}
use Rattle.topology_places.proofs.child_number.Goals as goal

pub returns : goal.returns
unfolding child_number
returns c =
    let bytes = c.args.bytes.now in
    let filter = c.filter.ensures in
    counted_all (λ j. eqb (parent bytes (j + 1)) c.parent-above.result) c.args.node _ _ filter.source filter.closure c.count.ensures.ran
    (λ x b q k. search (rules, tests))
    ∙ ap (λ (a : ℕ). counted (λ j. eqb (parent bytes (j + 1)) a) c.args.node) c.parent-above.ensures

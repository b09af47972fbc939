-- `trunk_from` meets its contract: the last of the nodes on the trunk is found.
use Rattle.std.proofs.Common.{◌∙◌, refl, ap, ℕ, rules, tests}
use Rattle.topology_places.specs.Places.{on_trunk, trunk_from, last_of}
use Rattle.topology_places.proofs.Chains.{last_found}
use Rattle.topology_places.proofs.trunk_from.Goals as goal

pub returns : goal.returns
unfolding trunk_from
returns c =
    c.unwrap_or.ensures
    ∙ last_found (on_trunk c.args.bytes.now c.parent-above.result) c.args.node _ _ _ _ refl c.rfind.ensures.ran
    (λ x b q k. search (rules, tests))
    ∙ ap (λ (a : ℕ). last_of (on_trunk c.args.bytes.now a) c.args.node) c.parent-above.ensures

-- `parent` meets its contract: the last of the nodes above is found.
use Rattle.std.proofs.Common.{◌∙◌, refl, rules, tests}
use Rattle.topology.specs.Branch.{is_above}
use Rattle.topology_places.specs.Places.{parent}
use Rattle.topology_places.proofs.Chains.{last_found}
use Rattle.topology_places.proofs.parent.Goals as goal

pub returns : goal.returns
unfolding parent
returns c =
    c.unwrap_or.ensures
    ∙ last_found (λ a. is_above c.args.bytes.now a c.args.node) c.args.node _ _ _ _ refl c.rfind.ensures.ran (λ x b q k. search (rules, tests))

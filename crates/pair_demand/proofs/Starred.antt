-- The table of paper 01's cases, proved by computing the definitions.
use mathlib.Core.Path.{◌≡◌, refl}
use Rattle.topology.specs.Reader.{fault, tree}
use Rattle.topology.specs.Branch.{branch_end, is_above}
use Rattle.embedding_model.specs.Check.{are_nodes, rule1, rule2, rule3, rule4}
use Rattle.embedding_model.specs.Least.{meets_rules, least_map, least_of, search_fault}
use Rattle.pair_demand.specs.Starred.{computed, given}

pub starred : computed ≡ given
unfolding computed fault tree branch_end is_above are_nodes rule1 rule2 rule3 rule4 meets_rules least_map least_of search_fault
starred = refl

-- What the opening of both trees with disciplines answers, for every source, target, limit and rules: the refusal `both_trees_fault` or the trees
-- and the map of `opened_both`. For a chip's tree alone it is `chip_fault` in chip_state/specs/Opening.
use Rattle.std.specs.Prelude.{ℕ, List}
use Rattle.base.specs.Refusals.{or_else}
use Rattle.topology.specs.Reader.{tree}
use Rattle.embedding_model.specs.Least.{search_map}
use Rattle.discipline_model.specs.Figure.{rule_fault}
use Rattle.discipline_model.specs.declared.Rule.{Rule}
use Rattle.tree_state.specs.Opening.{opened_tree}
use Rattle.pair_state.specs.Opening.{both_fault}
use Rattle.pair_state.specs.declared.Pair.{Pair}
use Rattle.tree_state.specs.declared.Tree.{Tree}

-- The refusal: that of an opening without disciplines, then 24 by the source; or 0.
unfoldable pub both_trees_fault : List ℕ → List ℕ → ℕ → List Rule → ℕ
both_trees_fault source target limit rules = or_else (both_fault source target limit) (rule_fault (tree source) rules)

-- both trees, and the least map, that an opening gives if it is not refused
abbrev pub opened_both : List ℕ → List ℕ → ℕ → List Rule → Pair Tree
opened_both source target limit rules =
    record { source = opened_tree source limit rules; chip = opened_tree target limit rules; map = search_map source target }

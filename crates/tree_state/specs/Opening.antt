-- What an opening with disciplines answers: the refusal `tree_fault` or the tree `opened_tree`, for every topology, limit and rules.
use Rattle.std.specs.Prelude.{ℕ, List, replicate}
use Rattle.base.specs.Refusals.{or_else}
use Rattle.topology.specs.Reader.{tree}
use Rattle.queue_state.specs.Opening.{open_fault, no_tree as no_state, opened_state}
use Rattle.discipline_model.specs.Figure.{no_rule, rule_fault, fresh}
use Rattle.discipline_model.specs.declared.Rule.{Rule}
use Rattle.queue_state.specs.declared.State.{State}
use Rattle.tree_state.specs.declared.Tree.{Tree}

-- The refusal of an opening: 1 to 5, 17, then 24; or 0.
unfoldable pub tree_fault : List ℕ → ℕ → List Rule → ℕ
tree_fault bytes limit rules = or_else (open_fault bytes limit) (rule_fault (tree bytes) rules)

-- a newly opened tree with the given state and rules
abbrev pub with_rules : State → List Rule → Tree
with_rules s rules = record { state = s; disciplines = fresh rules }

-- no tree: zeros throughout, which C gets in place of a tree if an opening is refused
abbrev pub no_tree : Tree
no_tree = with_rules no_state (replicate 64 no_rule)

-- the tree that an opening gives if it is not refused
abbrev pub opened_tree : List ℕ → ℕ → List Rule → Tree
opened_tree bytes limit rules = with_rules (opened_state bytes limit) rules

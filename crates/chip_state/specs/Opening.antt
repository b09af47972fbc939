-- What the opening of a chip's tree for a drawing answers, for every source, target, limit and rules: the refusal `chip_fault`, or the tree that
-- `opened_tree` in tree_state/specs/Opening gives for the target and the rules. It needs no map.
use Rattle.std.specs.Prelude.{ℕ, List}
use Rattle.base.specs.Refusals.{or_else}
use Rattle.topology.specs.Reader.{fault, tree}
use Rattle.queue_state.specs.Opening.{open_fault}
use Rattle.discipline_model.specs.Figure.{rule_fault}
use Rattle.discipline_model.specs.declared.Rule.{Rule}

-- The refusal of the opening: 1 to 5 of the drawing, 1 to 5 of the target, 17, then 24 by the drawing; or 0.
unfoldable pub chip_fault : List ℕ → List ℕ → ℕ → List Rule → ℕ
chip_fault source target limit rules =
    let judged = rule_fault (tree source) rules in
    let second = or_else (open_fault target limit) judged in
    or_else (fault 32 source) second

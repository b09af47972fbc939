-- What is tested first in a call on a chip's tree: the drawing, the rules and the number of the chip's nodes.
use Rattle.std.specs.Prelude.{ℕ, List, ◌&&◌, cond, eqb, leb}
use Rattle.base.specs.Refusals.{or_else}
use Rattle.topology.specs.Reader.{fault, tree}
use Rattle.discipline_model.specs.Figure.{rule_fault}
use Rattle.discipline_model.specs.declared.Rule.{Rule}

-- the refusal by these tests, before the chip's state is tested: 1 to 5 of the drawing, then 18; or 0
unfoldable pub first_fault : List ℕ → ℕ → List Rule → ℕ
first_fault source nodes rules =
    or_else (fault 32 source) (cond (leb nodes 64 && eqb (rule_fault (tree source) rules) 0) 0 18)

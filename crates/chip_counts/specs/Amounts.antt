-- The refusal of a question for a count of a chip's tree: 1 to 5 of the drawing, 18 if the tree is not well formed by it; or 0.
use Rattle.std.specs.Prelude.{ℕ, List, cond}
use Rattle.base.specs.Refusals.{or_else}
use Rattle.topology.specs.Reader.{fault, tree}
use Rattle.tree_state.specs.Calls.{well_formed_by}
use Rattle.tree_state.specs.declared.Tree.{Tree}

unfoldable pub count_fault : List ℕ → Tree → ℕ
count_fault source t = or_else (fault 32 source) (cond (well_formed_by (tree source) t) 0 18)

use Rattle.std.proofs.Common.{rules}
use Rattle.embedding_trees.proofs.BranchEnds.{filled_later, filled_all}
use Rattle.embedding_trees.proofs.branch_ends.Goals as goal

pub returns : goal.returns
returns c = filled_all _ _ (filled_later _ _ _ _ (search rules) c.loop-node.invariant)

-- `branch_ends` meets its contract. The table is filled from the last node that was taken on.
use Rattle.embedding_trees.specs.InnerFilling.{FilledFrom}
use Rattle.embedding_trees.proofs.branch_ends.Given as goal

abbrev pub invariant-loop-node : goal.invariant-loop-node
invariant-loop-node l = FilledFrom l.bytes l.ends l.node

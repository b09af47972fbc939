-- `end_of` meets its contract. The loop is where the next child starts; after the last child this is the end of the branch.
use Rattle.std.proofs.Common.{◌≡◌}
use Rattle.topology.specs.Branch.{start}
use Rattle.embedding_trees.proofs.end_of.Given as goal

abbrev pub invariant-loop : goal.invariant-loop
invariant-loop l = l.end ≡ start l.bytes l.node l.counter

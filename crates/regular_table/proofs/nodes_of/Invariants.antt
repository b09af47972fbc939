-- `nodes_of` meets its contract. The number is that of the nodes of the tree that is as deep as levels are counted.
use Rattle.std.proofs.Common.{◌≡◌}
use Rattle.topology.specs.Tree.{size}
use Rattle.regular_model.specs.Regular.{complete}
use Rattle.regular_table.proofs.nodes_of.Given as goal

abbrev pub invariant-loop : goal.invariant-loop
invariant-loop l = l.nodes ≡ size (complete l.d l.counter)

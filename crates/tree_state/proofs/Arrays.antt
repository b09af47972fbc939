-- The length of the array of a tree's topology, which every tree that a function gets has.
use mathlib.Core.Path.{◌≡◌}
use mathlib.Core.List.{List}
use lib.ListN.{length}
use mir.Val.{Val}
use denote.Laws.{Is}
use denote.Struct.Declared.{row}
use Rattle.queue_state.proofs.Arrays.{the_arrays}
use Rattle.tree_state.specs.declared.Tree.{Tree}
use Rattle.tree_state.specs.contracts.Tree

pub the_topology : (t : Tree) (vs : List Val) → Is (row Tree.the_type) t vs → length t.state.frame.topology ≡ 64
the_topology t vs g = (the_arrays t.state g.0.0 g.1.1.0).topology

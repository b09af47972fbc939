-- A drawing and its reduced drawing (paper 02, 2.2): the promise that a node with one child makes no difference to what departs (`ReducedAlike`).
use Rattle.std.specs.Prelude.{ℕ, List}
use Rattle.base.proofs.Tabulate.{tabulate}
use Rattle.topology.specs.Tree.{Topo, code, size}
use Rattle.pifo_model.specs.Machine.{Call}
use Rattle.topology_reduction.specs.Reduced.{reduced, spread}
use Rattle.pair_model.specs.Simulation.{Simulates}

-- the map of a drawing into its reduced drawing: the kept nodes go to 0, 1, 2 and so on, and the nodes that are passed over have 255
abbrev pub places_of : Topo → List ℕ
places_of S = spread (code S) (tabulate (size (reduced S)) (λ i. i))

-- If both drawings are opened empty with one limit, and a list of calls goes to both, with paths carried over for the reduced drawing, the same is
-- observed of them. Proved as `reduced_alike` in proofs/ReducedAlike.
abbrev pub ReducedAlike : Type 1
ReducedAlike = (P : Type 0) (S : Topo) (limit : ℕ) (calls : List (Call P)) → Simulates P S (reduced S) (places_of S) limit calls

-- One call on the chip's tree with its path carried over, by the queue tree's contract; and when the source's tree and the chip's are in step.
use Rattle.std.specs.Prelude.{◌≡◌, ℕ, zero, suc, List, true}
use Rattle.topology.specs.Tree.{Topo}
use Rattle.topology.specs.Reader.{tree}
use Rattle.pifo_model.specs.Tree.{path_fault}
use Rattle.pifo_model.specs.Machine.{Call, pushing, popping, refused}
use Rattle.embedding_model.specs.Check.{map_fault}
use Rattle.pair_model.specs.Carrying.{carry}
use Rattle.pair_model.specs.Simulation.{Paired}
use Rattle.queue_state.specs.State.{Packet, machine, well_formed}
use Rattle.queue_state.specs.Calls.{Serves}
use Rattle.queue_state.specs.Demand.{Transition}
use Rattle.queue_state.specs.declared.State.{State}

-- A push is made along the path carried over. For a path at fault in the drawing the answer is the fault's number, and the tree stays as it was.
-- `serve_carried` in the crate `pair_model` says the same for machines.
abbrev pub PushesCarried : ℕ → Transition State (Call Packet)
PushesCarried zero t call b y = Serves t call b y
PushesCarried (suc f) t call b y = (b ≡ refused (suc f)) × (y ≡ t)

abbrev pub ServesCarried : Topo → Topo → List ℕ → Transition State (Call Packet)
ServesCarried S T m t (pushing ss l p) b y = PushesCarried (path_fault S ss) t (pushing (carry S T m ss) l p) b y
ServesCarried S T m t popping b y = Serves t popping b y

-- The states s and t of two trees are in step, for a drawing, a chip's tree and a map m that passes the check: both are well formed, and
-- their machines are paired. An opening makes them so (`opened_in_step`), and one call on each keeps them so (`next` in proofs/InStep).
pub record InStep (source target m : List ℕ) (s t : State) : Type 0 where
  pub mapped : map_fault source target m ≡ 0
  pub source_formed : well_formed s ≡ true
  pub chip-formed : well_formed t ≡ true
  pub paired : Paired (tree source) (tree target) m (machine s) (machine t)

-- What a push along a carried path does on a well-formed state of the target's tree, by the queue tree's contract (`Serves`): `PushesLand`, proved in
-- `proofs/PushesLand.antt`.
use Rattle.std.specs.Prelude.{◌≡◌, ◌≢◌, ℕ, List, true, Ok}
use Rattle.topology.specs.Reader.{tree}
use Rattle.pifo_model.specs.Machine.{Call, pushing, Answer, number_of}
use Rattle.pair_model.specs.Simulation.{serve_carried}
use Rattle.queue_state.specs.State.{Packet, bytes, machine, well_formed}
use Rattle.queue_state.specs.Calls.{Serves}
use Rattle.queue_state.specs.declared.State.{State}
use Rattle.queue_push.specs.Calls.{steps_of}
use Rattle.queue_push.specs.declared.Path.{Path}
use Rattle.translator.specs.Carry.{Carries}

-- the machine's call for a push along the code's path
abbrev pub push_along : Path → Packet → Call Packet
push_along path packet = pushing (steps_of path) path.leaf_rank packet

-- A push whose path was carried over, for the chip's state t before it and y after it, and the answer b.
pub record Lands (source target m : List ℕ) (path : Path) (packet : Packet) (t : State) (b : Answer Packet) (y : State) : Type 0 where
  -- it is not refused for its path
  pub not_13 : number_of b ≢ 13
  pub not_14 : number_of b ≢ 14
  -- the answer and the machine after it are those of the chip's machine for the path as drawn
  pub answer : b ≡ (serve_carried (tree source) (tree target) m (machine t) (push_along path packet)).0
  pub machine : machine y ≡ (serve_carried (tree source) (tree target) m (machine t) (push_along path packet)).1
  pub formed : well_formed y ≡ true

-- This holds for every path that is carried without refusal, every well-formed state of the target's tree, and every answer that `Serves` allows.
abbrev pub PushesLand : Type 0
PushesLand =
    (source target m : List ℕ) (path c : Path) → Carries source target m path (Ok c)
    → (t : State) → well_formed t ≡ true → bytes t ≡ target
    → (packet : Packet) (b : Answer Packet) (y : State) → Serves t (push_along c packet) b y → Lands source target m path packet t b y

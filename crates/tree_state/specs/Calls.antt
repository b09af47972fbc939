-- What a call on a tree with disciplines promises: for every tree and argument the answer, and the tree after it.
use Rattle.std.specs.Prelude.{◌≡◌, ◌≢◌, ℕ, Bool, ◌&&◌, cond, eqb}
use Rattle.topology.specs.Tree.{Topo}
use Rattle.topology.specs.Reader.{tree}
use Rattle.pifo_model.specs.Machine.{Answer, refused, full}
use Rattle.queue_state.specs.State.{Packet, bytes, machine, well_formed}
use Rattle.queue_state.specs.Calls.{counting as counting_state}
use Rattle.queue_state.specs.declared.State.{State}
use Rattle.discipline_model.specs.Figure.{rule_fault}
use Rattle.discipline_model.specs.Scheduler.{Scheduler, Request, with, serve_own}
use Rattle.discipline_model.specs.declared.Disciplines.{Disciplines}
use Rattle.tree_state.specs.declared.Tree.{Tree}

-- the tree of a state and disciplines
abbrev pub tree_with : State → Disciplines → Tree
tree_with s d = record { state = s; disciplines = d }

-- the scheduler that a tree of the code stands for
abbrev pub scheduler_of : Tree → Scheduler Packet
scheduler_of t = with (machine t.state) t.disciplines

-- A tree is well formed by a drawing: its state is well formed, and its rules have no fault 24 in the drawing.
unfoldable pub well_formed_by : Topo → Tree → Bool
well_formed_by S t = well_formed t.state && eqb (rule_fault S t.disciplines.rules) 0

-- the tree with another count of refusals
abbrev pub counting : Tree → ℕ → Tree
counting t c = record { state = counting_state t.state c; disciplines = t.disciplines }

-- A call on a tree: refused by the number that `refusal` gives for the tree, else answered as `server` answers. A refusal leaves the tree as it was,
-- except for the count of refusals if there is no room. Unspecified after an accepted push or a pop, as in `Serves` (crate `queue_state`): the
-- contents of the arrays past the last node and past the last entry; no answer depends on them.
pub record Schedules (refusal : Tree → ℕ) (server : Scheduler Packet → Request Packet → Answer Packet × Scheduler Packet)
    (t : Tree) (request : Request Packet) (a : Answer Packet) (r : Tree) : Type 0 where
  pub ill : refusal t ≢ 0 → a ≡ refused (refusal t)
  pub answer : refusal t ≡ 0 → a ≡ (server (scheduler_of t) request).0
  pub scheduler : refusal t ≡ 0 → scheduler_of r ≡ (server (scheduler_of t) request).1
  pub formed : refusal t ≡ 0 → refusal r ≡ 0
  pub unaltered : (n : ℕ) → a ≡ refused n → r ≡ t
  pub counted : (n c : ℕ) → a ≡ full n c → r ≡ counting t c

-- For a tree by itself the drawing is its own topology, and it is refused by 18 if it is not well formed by that.
abbrev pub drawing : Tree → Topo
drawing t = tree (bytes t.state)

unfoldable pub own_refusal : Tree → ℕ
own_refusal t = cond (well_formed_by (drawing t) t) 0 18

abbrev pub OwnServes : Tree → Request Packet → Answer Packet → Tree → Type 0
OwnServes = Schedules own_refusal serve_own

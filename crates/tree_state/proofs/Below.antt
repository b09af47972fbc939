-- The call below: a call on a state (`Serves`) as the call of the machine below a scheduler (`below_of`). No call changes the topology, and the answer
-- to a push is no departure, so that a push changes no virtual time.
use mathlib.Core.Path.{◌≡◌, refl, ap, ◌∙◌}
use Prim.Native.Nat.{ℕ, zero, suc}
use mathlib.Core.List.{List}
use mathlib.Core.Bool.{true}
use mathlib.Core.Option.{Option, none, some}
use Rattle.base.proofs.Tests.{clash}
use Rattle.topology.specs.Tree.{Topo}
use Rattle.topology.specs.Reader.{tree}
use Rattle.pifo_model.specs.Queue.{Rank}
use Rattle.pifo_model.specs.Tree.{Step, path_fault, PTree, pop, held}
use Rattle.pifo_model.specs.Machine.{Machine, Call, pushing, popping, Answer, accepted, refused, room, serve, serve_room, serve_path, serve_pop}
use Rattle.queue_state.specs.State.{Packet, bytes, machine, well_formed}
use Rattle.queue_state.specs.Calls.{Serves}
use Rattle.queue_state.specs.declared.State.{State}
use Rattle.discipline_model.specs.declared.Disciplines.{Disciplines}
use Rattle.tree_state.proofs.Schedules.{Below, learnt}

-- ---- no call changes the topology, and the answer to a push is no departure

room_topology : (n : ℕ) (m : Machine Packet) (ss : List Step) (l : Rank) (p : Packet) → (serve_room n m ss l p).1.topology ≡ m.topology
room_topology zero m ss l p = refl
room_topology (suc n) m ss l p = refl

path_topology : (f : ℕ) (m : Machine Packet) (ss : List Step) (l : Rank) (p : Packet) → (serve_path f m ss l p).1.topology ≡ m.topology
path_topology zero m ss l p = room_topology (room m.limit (held m.tree)) m ss l p
path_topology (suc f) m ss l p = refl

pop_topology : (m : Machine Packet) (o : Option (Packet × PTree Packet)) → (serve_pop m o).1.topology ≡ m.topology
pop_topology m none = refl
pop_topology m (some (p, u)) = refl

pub serve_topology : (m : Machine Packet) (c : Call Packet) → (serve m c).1.topology ≡ m.topology
serve_topology m (pushing ss l p) = path_topology (path_fault m.topology ss) m ss l p
serve_topology m popping = pop_topology m (pop m.tree)

module _ (S : Topo) (d : Disciplines) (at : ℕ → Option Rank) (m : Machine Packet) (ss : List Step) (l : Rank) (p : Packet) where
  room-learnt : (n : ℕ) → learnt S d at (serve_room n m ss l p).0 ≡ d
  room-learnt zero = refl
  room-learnt (suc n) = refl

  path_learnt : (f : ℕ) → learnt S d at (serve_path f m ss l p).0 ≡ d
  path_learnt zero = room-learnt (room m.limit (held m.tree))
  path_learnt (suc f) = refl

  pub push-learnt : learnt S d at (serve m (pushing ss l p)).0 ≡ d
  push-learnt = path_learnt (path_fault m.topology ss)

-- ---- a call on a well-formed state as the call below

pub below_of : (s : State) (c : Call Packet) (a : Answer Packet) (r : State) → well_formed s ≡ true → Serves s c a r → Below serve s c a r
below_of s c a r w v = record { answer = v.answer w; machine = v.machine w; unaltered = v.unaltered; counted = v.counted }

-- the state after a call has the same drawing
pub same_drawing : (s : State) (c : Call Packet) (a : Answer Packet) (r : State) → well_formed s ≡ true → Serves s c a r → tree (bytes r) ≡ tree (bytes s)
unfolding machine
same_drawing s c a r w v = ap (λ (m : Machine Packet). m.topology) (v.machine w) ∙ serve_topology (machine s) c

pub refused-accepted : {n h : ℕ} → ◌≡◌ {A = Answer Packet} (refused n) (accepted h) → ⊥
refused-accepted e = clash (cc)

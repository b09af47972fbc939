-- Lists of calls on a queue tree by itself: what an execution of a list is, and what is promised of it (`Demand2`, proved in `proofs/Demand.antt`).
-- The promise refers to the code only by the contracts of an opening and of a call (`opened_state`, `Serves`), so it holds of any code that meets
-- them.
use Rattle.std.specs.Prelude.{◌≡◌, ℕ, ◌+◌, ◌≤◌, min, true, length, replicate}
use mathlib.Core.List.{List, [], ◌∷◌, ◌++◌, map, Permᴰ}
use Rattle.pifo_model.specs.Tree.{packets, held}
use Rattle.pifo_model.specs.Machine.{Call, popping, Answer, accepted, departed, refused, full, number_of, most}
use Rattle.pifo_model.specs.Runs.{taken, departures, accepts, times}
use Rattle.queue_state.specs.State.{Packet, tree_of, well_formed}
use Rattle.queue_state.specs.Opening.{open_fault, opened_state}
use Rattle.queue_state.specs.Calls.{Serves}
use Rattle.queue_state.specs.declared.State.{State}

-- What a call may do: a relation between a state, a call, its answer and the state after it, such as `Serves`. States may be of any type: in the
-- crate `tree_state` they are trees.
abbrev pub Transition : Type 0 → Type 0 → Type 1
Transition S C = S → C → Answer Packet → S → Type 0

-- for each call of a list its answer and the state after it
abbrev pub History : Type 0 → Type 0
History S = List (Answer Packet × S)

-- An execution of a list of calls from a state on: each call is made on the state that the call before it left.
abbrev pub Execution : {S C : Type 0} → Transition S C → S → List C → History S → Type 0
Execution step s [] [] = Unit
Execution step s [] (v ∷ vs) = ⊥
Execution step s (c ∷ cs) [] = ⊥
Execution step s (c ∷ cs) ((a, r) ∷ vs) = step s c a r × Execution step r cs vs

-- the answers of an execution, and the state after its last call
abbrev pub answers_in : History State → List (Answer Packet)
answers_in [] = []
answers_in ((a, r) ∷ vs) = a ∷ answers_in vs

abbrev pub last_state : State → History State → State
last_state s [] = s
last_state s ((a, r) ∷ vs) = last_state r vs

-- What an answer says of the state after it: for an accepted push the packets held, for a push without room the refusals counted.
abbrev pub Tells : Answer Packet → State → Type 0
Tells (accepted h) r = h ≡ held (tree_of r)
Tells (departed p) r = Unit
Tells (refused n) r = Unit
Tells (full n c) r = c ≡ r.refused

-- Each state after a call is well formed, and what the answer says of it is true.
abbrev pub EachSound : History State → Type 0
EachSound [] = Unit
EachSound ((a, r) ∷ vs) = (well_formed r ≡ true) × Tells a r × EachSound vs

-- What holds of an execution of a list of calls from a newly opened state s on.
pub record Conserves (s : State) (calls : List (Call Packet)) (vs : History State) : Type 0 where
  -- the opened state and each state after it are well formed, no call is refused by 18, and the counts in answers are right
  pub opened : well_formed s ≡ true
  pub each : EachSound vs
  pub never_18 : times 18 (map number_of (answers_in vs)) ≡ 0
  -- the packets of accepted pushes are those that departed and those held, as multisets; and the same for their numbers
  pub contents : Permᴰ (taken calls (answers_in vs)) (departures (answers_in vs) ++ packets (tree_of (last_state s vs)))
  pub number : accepts (answers_in vs) ≡ length (departures (answers_in vs)) + held (tree_of (last_state s vs))
  -- so each packet departs at most as often as it was accepted: one that was accepted once leaves at most once
  pub once : (p : Packet) → times p (departures (answers_in vs)) ≤ times p (taken calls (answers_in vs))
  -- the refusals counted are the pushes refused by 15, up to the largest count
  pub refusals : (last_state s vs).refused ≡ min (times 15 (map number_of (answers_in vs))) most

-- What holds of an execution of as many pops as the state s holds packets.
pub record Drains (s : State) (vs : History State) : Type 0 where
  -- every pop answers a packet, and together these are the packets that s held
  pub each : answers_in vs ≡ map departed (departures (answers_in vs))
  pub contents : Permᴰ (departures (answers_in vs)) (packets (tree_of s))
  -- none is left, and one more pop is refused by 16
  pub empty : held (tree_of (last_state s vs)) ≡ 0
  pub next : (a : Answer Packet) (r : State) → Serves (last_state s vs) popping a r → a ≡ refused 16

-- Demand 2, over lists of calls, for a queue tree of up to 64 nodes.
pub record Demand2 : Type 0 where
  -- from every opening that is not refused, over every list of calls
  pub conserves : (bytes : List ℕ) (limit : ℕ) → open_fault bytes limit ≡ 0 → let s = opened_state bytes limit in
      (calls : List (Call Packet)) (vs : History State) → Execution Serves s calls vs → Conserves s calls vs
  -- from every well-formed state, with as many pops as it holds packets
  pub drains : (s : State) → well_formed s ≡ true → (vs : History State)
      → Execution Serves s (replicate (held (tree_of s)) popping) vs → Drains s vs
  -- and every list of calls has an execution, from every state on
  pub executes : (s : State) (calls : List (Call Packet)) → (vs : History State) × Execution Serves s calls vs

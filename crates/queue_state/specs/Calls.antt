-- What a call promises: for every state and argument the answer, and the state after it.
use Rattle.std.specs.Prelude.{◌≡◌, ℕ, true, false}
use Rattle.refusal.specs.Numbers.{number}
use Rattle.pifo_model.specs.Machine.{Call, Answer, accepted, departed, refused, full, serve}
use Rattle.queue_state.specs.State.{Packet, machine, well_formed}
use Rattle.queue_state.specs.declared.Answer.{Answer as CodeAnswer}
use Rattle.queue_state.specs.declared.Answer.TheVariants.{Accepted, Departed, Refused, Full}
use Rattle.queue_state.specs.declared.State.{State}

-- The machine's answer for each case of the code's answer; `number_of` (pifo_model/specs/Machine) gives paper 01's number for it.
abbrev pub answer_of : CodeAnswer → Answer Packet
answer_of (Accepted h) = accepted h
answer_of (Departed p) = departed p
answer_of (Refused r) = refused (number r)
answer_of (Full r c) = full (number r) c

-- the state with another count of refusals
abbrev pub counting : State → ℕ → State
counting s c = record { frame = s.frame; refused = c; lengths = s.lengths; entries = s.entries }

-- A call on a state: refused by 18 if the state is not well formed, else answered as the machine answers. A refusal leaves the state as it was,
-- except for the count of refusals if there is no room. After an accepted push or a pop, the machine determines the lengths of the queues and the
-- entries in them (`same_machine` in proofs/SameMachine). Unspecified: the contents of the arrays past the last node and past the last entry; no
-- answer depends on them.
pub record Serves (s : State) (call : Call Packet) (a : Answer Packet) (r : State) : Type 0 where
  pub ill : well_formed s ≡ false → a ≡ refused 18
  pub answer : well_formed s ≡ true → a ≡ (serve (machine s) call).0
  pub machine : well_formed s ≡ true → machine r ≡ (serve (machine s) call).1
  pub formed : well_formed s ≡ true → well_formed r ≡ true
  pub unaltered : (n : ℕ) → a ≡ refused n → r ≡ s
  pub counted : (n c : ℕ) → a ≡ full n c → r ≡ counting s c

-- What a push or a pop on a state as plain numbers answers, and what it promises.
use Rattle.std.specs.Prelude.{◌≡◌, cond}
use Rattle.pifo_model.specs.Machine.{Call, Answer, refused, number_of, serve}
use Rattle.queue_state.specs.State.{Packet, machine, well_formed}
use Rattle.queue_state.specs.Calls.{Serves, answer_of}
use Rattle.queue_state.specs.declared.Served.{Served}
use Rattle.queue_state.specs.declared.State.{State}
use Rattle.exports_plain_state.specs.Plain.{state_of, plain_of, Written}
use Rattle.exports_plain_state.specs.declared.PlainState.{PlainState}
use Rattle.exports_plain_answers.specs.Answers.{value_of}
use Rattle.exports_queue_calls.specs.declared.PlainAnswer.{PlainAnswer}

-- what a queue tree answers to a call: as the machine does, or 18 if the state is not well formed
unfoldable pub answered : State → Call Packet → Answer Packet
answered s call = cond (well_formed s) (serve (machine s) call).0 (refused 18)

-- the answer of the code to a call, as plain numbers
abbrev pub plain_served : Served → PlainAnswer
plain_served s =
    let a = answer_of s.answer in
    record { state = plain_of s.state; refusal = number_of a; value = value_of a }

-- A call on a state as plain numbers: the answer, and the state after it as `plain_of` writes it.
pub record ServesPlain (s : PlainState) (call : Call Packet) (r : PlainAnswer) : Type 0 where
  pub refusal : r.refusal ≡ number_of (answered (state_of s) call)
  pub value : r.value ≡ value_of (answered (state_of s) call)
  pub serves : Serves (state_of s) call (answered (state_of s) call) (state_of r.state)
  pub written : Written r.state

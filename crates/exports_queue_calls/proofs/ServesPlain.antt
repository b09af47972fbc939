-- A push or a pop on a plain state: the queue tree's contract for the state that it stands for gives the contract for the numbers.
use mathlib.Core.Path.{◌≡◌, refl, sym, ap, ◌∙◌, subst}
use mathlib.Core.Bool.{Bool, true, false, cond}
use Rattle.pifo_model.specs.Machine.{Call, Answer, refused, serve, number_of}
use Rattle.queue_state.specs.State.{Packet, machine, well_formed}
use Rattle.queue_state.specs.Calls.{Serves, answer_of}
use Rattle.queue_state.specs.declared.Served.{Served}
use Rattle.queue_state.specs.declared.State.{State}
use Rattle.exports_plain_state.specs.Plain.{state_of}
use Rattle.exports_plain_answers.specs.Answers.{value_of}
use Rattle.exports_queue_calls.specs.Answers.{answered, plain_served, ServesPlain}
use Rattle.exports_plain_state.specs.declared.PlainState.{PlainState}
use Rattle.exports_queue_calls.specs.declared.PlainAnswer.{PlainAnswer}
use Rattle.exports_plain_state.proofs.PlainBack.{state_back, is_written}

is_answered : (s r : State) (call : Call Packet) (a : Answer Packet) → Serves s call a r → a ≡ answered s call
unfolding answered
is_answered s r call a h = by_test (well_formed s) refl
  where
    by_test : (b : Bool) → well_formed s ≡ b → a ≡ cond b (serve (machine s) call).0 (refused 18)
    by_test true e = h.answer e
    by_test false e = h.ill e

pub served-plain : (p : PlainState) (call : Call Packet) (t : State) (s : Served) (r : PlainAnswer) → t ≡ state_of p
    → Serves t call (answer_of s.answer) s.state → r ≡ plain_served s → ServesPlain p call r
served-plain p call t s r is h e =
    let a = answer_of s.answer in
    let written = ap (λ (x : PlainAnswer). x.state) e in
    let g = subst (λ (u : State). Serves u call a s.state) is h in
    let f = subst (Serves (state_of p) call a) (sym (state_back r.state s.state written)) g in
    let x = is_answered (state_of p) s.state call a g in
    record {
      refusal = ap (λ (x : PlainAnswer). x.refusal) e ∙ ap number_of x;
      value = ap (λ (x : PlainAnswer). x.value) e ∙ ap value_of x;
      serves = subst (λ (z : Answer Packet). Serves (state_of p) call z (state_of r.state)) x f;
      written = is_written r.state s.state written;
    }

-- The answers to a call: 18 if the state is not well formed; else the machine's answer, with a state that has the machine after the call.
use mathlib.Core.Path.{◌≡◌, refl, sym, ap, ◌∙◌}
use Prim.Native.Nat.{ℕ}
use mathlib.Core.Bool.{true, false, false≢true}
use Rattle.pifo_model.specs.Machine.{Machine, Call, Answer, refused, full, serve}
use Rattle.queue_state.specs.State.{Packet, machine, well_formed}
use Rattle.queue_state.specs.Calls.{Serves, counting}
use Rattle.queue_state.specs.declared.State.{State}

pub apart : {A : Type 0} {a b c : ℕ} → ◌≡◌ {A = Answer Packet} (refused a) (full b c) → A
apart e = absurd (cc)

pub full_same : {m n a b : ℕ} → ◌≡◌ {A = Answer Packet} (full m a) (full n b) → a ≡ b
full_same e = cc

-- refused by 18
pub ill_served : (s : State) (call : Call Packet) → well_formed s ≡ false → Serves s call (refused 18) s
ill_served s call f =
    record {
      ill = λ _. refl;
      answer = λ t. absurd (false≢true (sym f ∙ t));
      machine = λ t. absurd (false≢true (sym f ∙ t));
      formed = λ t. absurd (false≢true (sym f ∙ t));
      unaltered = λ n _. refl;
      counted = λ n c e. apart e;
    }

-- the machine's answer and the state that has its machine
pub served : (s r : State) (call : Call Packet) (a : Answer Packet) (m : Machine Packet) → serve (machine s) call ≡ (a, m) → well_formed s ≡ true → machine r ≡ m → well_formed r ≡ true
    → ((n : ℕ) → a ≡ refused n → r ≡ s) → ((n c : ℕ) → a ≡ full n c → r ≡ counting s c) → Serves s call a r
served s r call a m e t v w k c =
    record {
      ill = λ f. absurd (false≢true (sym f ∙ t));
      answer = λ _. sym (ap (λ x. x.0) e);
      machine = λ _. v ∙ sym (ap (λ x. x.1) e);
      formed = λ _. w;
      unaltered = k;
      counted = c;
    }

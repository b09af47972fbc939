-- An execution follows a machine: if each call from a well-formed state answers as a server does on the state's machine, and leaves a state of the
-- machine that the server leaves, the same holds of every list of calls.
use mathlib.Core.Path.{◌≡◌, refl, ap, ◌∙◌}
use mathlib.Core.List.{List, [], ◌∷◌, map}
use mathlib.Core.Bool.{true}
use Rattle.pifo_model.specs.Machine.{Machine, Call, Answer, serve, Server, after_by, answers_by}
use Rattle.queue_state.specs.State.{Packet, machine, well_formed}
use Rattle.queue_state.specs.Calls.{Serves}
use Rattle.queue_state.specs.Demand.{Transition, History, Execution, answers_in, last_state}
use Rattle.queue_state.specs.declared.State.{State}

pub record Follows (server : Server Packet) (s : State) (call : Call Packet) (a : Answer Packet) (r : State) : Type 0 where
  pub answer : a ≡ (server (machine s) call).0
  pub machine : machine r ≡ (server (machine s) call).1
  pub formed : well_formed r ≡ true

-- every call from a well-formed state follows the server
abbrev pub AllFollow : Server Packet → Transition State (Call Packet) → Type 0
AllFollow server step =
    (s : State) (call : Call Packet) (a : Answer Packet) (r : State) → well_formed s ≡ true → step s call a r → Follows server s call a r

pub serves_follows : AllFollow serve Serves
serves_follows s call a r t v = record { answer = v.answer t; machine = v.machine t; formed = v.formed t }

module _ (server : Server Packet) (step : Transition State (Call Packet)) (follows : AllFollow server step) where
  pub answers_follow : (calls : List (Call Packet)) (s : State) (vs : History State) → well_formed s ≡ true → Execution step s calls vs
      → answers_in vs ≡ answers_by server (machine s) calls
  answers_follow [] s [] t run = refl
  answers_follow [] s (v ∷ vs) t run = absurd run
  answers_follow (c ∷ cs) s [] t run = absurd run
  answers_follow (c ∷ cs) s ((a, r) ∷ vs) t (call, rest) =
      let f = follows s c a r t call in
      let answer = f.answer in
      let others = answers_follow cs r vs f.formed rest ∙ ap (λ (q : Machine Packet). answers_by server q cs) f.machine in
      λ k. answer k ∷ others k

  pub last_follows : (calls : List (Call Packet)) (s : State) (vs : History State) → well_formed s ≡ true → Execution step s calls vs
      → (well_formed (last_state s vs) ≡ true) × (machine (last_state s vs) ≡ after_by server (machine s) calls)
  last_follows [] s [] t run = (t, refl)
  last_follows [] s (v ∷ vs) t run = absurd run
  last_follows (c ∷ cs) s [] t run = absurd run
  last_follows (c ∷ cs) s ((a, r) ∷ vs) t (call, rest) =
      let f = follows s c a r t call in
      let last = last_follows cs r vs f.formed rest in
      (last.0, last.1 ∙ ap (λ (q : Machine Packet). after_by server q cs) f.machine)

-- the execution of the same calls in another form
module _ {S C D : Type 0} (name : C → D) (step : Transition S C) (other : Transition S D)
    (same : (s : S) (c : C) (a : Answer Packet) (r : S) → step s c a r → other s (name c) a r) where
  pub execution_as : (calls : List C) (s : S) (vs : History S) → Execution step s calls vs → Execution other s (map name calls) vs
  execution_as [] s [] run = tt
  execution_as [] s (v ∷ vs) run = absurd run
  execution_as (c ∷ cs) s [] run = absurd run
  execution_as (c ∷ cs) s ((a, r) ∷ vs) (call, rest) = (same s c a r call, execution_as cs r vs rest)

-- Both trees over lists of calls. What is observed of an execution from a well-formed state on is what is observed of its machine
-- (`observed_follow`). So the two trees are observed alike, as their machines are (`machines_alike` of the crate `pair_model`): `both-alike`.
use mathlib.Core.Path.{◌≡◌, refl, sym, ap, ◌∙◌}
use Prim.Native.Nat.{ℕ}
use native.Mathlib.Omega.{arith}
use mathlib.Core.List.{List, [], ◌∷◌}
use mathlib.Core.Bool.{true}
use Rattle.base.specs.Refusals.{or_else}
use Rattle.topology.specs.Tree.{Topo}
use Rattle.topology.specs.Reader.{fault, tree}
use Rattle.topology.proofs.Reader.{fault_wider}
use Rattle.pifo_model.specs.Machine.{Machine, Call, opened, serve, Server, counts, observed_by}
use Rattle.embedding_model.specs.Rules.{Passes}
use Rattle.pair_model.specs.Simulation.{serve_carried}
use Rattle.pair_model.proofs.MachinesAlike.{machines_alike}
use Rattle.queue_state.specs.State.{Packet, machine, well_formed}
use Rattle.queue_limit.specs.Limit.{limit_fault}
use Rattle.queue_state.specs.Opening.{open_fault, opened_state}
use Rattle.queue_state.specs.Calls.{Serves}
use Rattle.queue_state.specs.Demand.{Transition, History, Execution}
use Rattle.queue_state.specs.declared.State.{State}
use Rattle.std.specs.Prelude.{Ok}
use Rattle.queue_state.proofs.OpenedState.{opens}
use Rattle.queue_state.proofs.Execution.{AllFollow, serves_follows}
use Rattle.pair_step.specs.InStep.{ServesCarried}
use Rattle.pair_step.specs.Alike.{counts_of, observed_in, ObservedAlike}
use Rattle.pair_step.proofs.InStep.{carried_follows}

counts_machine : (s : State) → counts_of s ≡ counts (machine s)
unfolding machine
counts_machine s = refl

module _ (server : Server Packet) (step : Transition State (Call Packet)) (follows : AllFollow server step) where
  observed_follow : (calls : List (Call Packet)) (s : State) (vs : History State) → well_formed s ≡ true → Execution step s calls vs
      → observed_in vs ≡ observed_by server (machine s) calls
  observed_follow [] s [] t run = refl
  observed_follow [] s (v ∷ vs) t run = absurd run
  observed_follow (c ∷ cs) s [] t run = absurd run
  observed_follow (c ∷ cs) s ((a, r) ∷ vs) t (call, rest) =
      let f = follows s c a r t call in
      let answer = f.answer in
      let seen = counts_machine r ∙ ap counts f.machine in
      let others = observed_follow cs r vs f.formed rest ∙ ap (λ (q : Machine Packet). observed_by server q cs) f.machine in
      λ k. (answer k, seen k) ∷ others k

-- the number by which the opening of a tree with no fault is refused
open-number : (bytes : List ℕ) (limit : ℕ) → fault 64 bytes ≡ 0 → open_fault bytes limit ≡ limit_fault limit
unfolding open_fault
open-number bytes limit e = ap (λ (f : ℕ). or_else f (limit_fault limit)) e

-- Both trees opened with one limit, for a map that meets the rules, and a list of calls on each.
module _ (source target : List ℕ) (f : fault 32 source ≡ 0) (g : fault 64 target ≡ 0) (limit : ℕ) where
  -- only the limit can be a reason for refusal
  pub both-numbers : (open_fault source limit ≡ limit_fault limit) × (open_fault target limit ≡ limit_fault limit)
  both-numbers = (open-number source limit (fault_wider 32 64 source (omega arith) f), open-number target limit g)

  pub both-alike : (m : List ℕ) → Passes (tree source) (tree target) m → limit_fault limit ≡ 0
      → let x = opened_state source limit in
      let y = opened_state target limit in
      (calls : List (Call Packet)) (vs ws : History State) → Execution Serves x calls vs → Execution (ServesCarried (tree source) (tree target) m) y calls ws
      → ObservedAlike (tree source) (tree target) m limit calls x y vs ws
  both-alike m E fits calls vs ws v w =
      let S : Topo = tree source in
      let T : Topo = tree target in
      let x = opened_state source limit in
      let y = opened_state target limit in
      let o = opens source limit (Ok x) (sym (both-numbers.0 ∙ fits)) refl in
      let u = opens target limit (Ok y) (sym (both-numbers.1 ∙ fits)) refl in
      let both = machines_alike Packet S T m E limit calls in
      let drawn : observed_in vs ≡ observed_by serve (opened S limit) calls =
      observed_follow serve Serves serves_follows calls x vs (o.formed) v
      ∙ ap (λ (q : Machine Packet). observed_by serve q calls) (o.machine) in
      let chip : observed_in ws ≡ observed_by (serve_carried S T m) (opened T limit) calls =
      observed_follow (serve_carried S T m) (ServesCarried S T m) (carried_follows S T m) calls y ws (u.formed) w
      ∙ ap (λ (q : Machine Packet). observed_by (serve_carried S T m) q calls) (u.machine) in
      record {
        before = counts_machine x ∙ ap counts (o.machine) ∙ both.before ∙ sym (counts_machine y ∙ ap counts (u.machine));
        every = drawn ∙ both.every ∙ sym chip;
        source = drawn;
        chip = chip;
      }

-- What is observed of a state and of an execution, and when the same is observed of both trees over a list of calls.
use Rattle.std.specs.Prelude.{◌≡◌, ℕ, List, map}
use Rattle.topology.specs.Tree.{Topo}
use Rattle.pifo_model.specs.Tree.{held}
use Rattle.pifo_model.specs.Machine.{Call, Answer, opened, serve, observed_by}
use Rattle.pair_model.specs.Simulation.{serve_carried}
use Rattle.queue_state.specs.State.{Packet, tree_of}
use Rattle.queue_state.specs.Demand.{History}
use Rattle.queue_state.specs.declared.State.{State}

-- what is observed of a state, packets held and refusals counted; and of an execution, each answer and what is observed of the state after it
abbrev pub counts_of : State → ℕ × ℕ
counts_of s = (held (tree_of s), s.refused)

abbrev pub observed_in : History State → List (Answer Packet × (ℕ × ℕ))
observed_in vs = map (λ (v : Answer Packet × State). (v.0, counts_of v.1)) vs

-- Both trees were opened with one limit, as x and y, and a list of calls went to both, with the executions vs and ws.
pub record ObservedAlike (S T : Topo) (m : List ℕ) (limit : ℕ) (calls : List (Call Packet)) (x y : State) (vs ws : History State) : Type 0 where
  -- the same is observed of both before the first call, at every call and after it
  pub before : counts_of x ≡ counts_of y
  pub every : observed_in vs ≡ observed_in ws
  -- and it is what the definitions give, for each tree from its topology, the limit and the calls alone
  pub source : observed_in vs ≡ observed_by serve (opened S limit) calls
  pub chip : observed_in ws ≡ observed_by (serve_carried S T m) (opened T limit) calls

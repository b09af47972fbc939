-- What the search promises: its answer (`Searches` in embedding_least/specs/Answers); and, by the queue tree's contracts alone, that both trees answer
-- alike if paths are carried over by its map (`Simulated`).
use Rattle.std.specs.Prelude.{◌≡◌, ℕ, List, length, take, Result, IfOk}
use Rattle.refusal.specs.declared.Refusal.{Refusal}
use Rattle.topology.specs.Reader.{tree}
use Rattle.pifo_model.specs.Machine.{Call}
use Rattle.queue_state.specs.State.{Packet}
use Rattle.queue_limit.specs.Limit.{limit_fault}
use Rattle.queue_state.specs.Opening.{open_fault, opened_state}
use Rattle.queue_state.specs.Calls.{Serves}
use Rattle.queue_state.specs.Demand.{History, Execution}
use Rattle.queue_state.specs.declared.State.{State}
use Rattle.pair_step.specs.InStep.{ServesCarried}
use Rattle.pair_step.specs.Alike.{ObservedAlike}
use Rattle.embedding_least.specs.Answers.{Searches}

-- the images that a map in 32 places gives, one for each source node
abbrev pub images : List ℕ → List ℕ → List ℕ
images source m = take (length source) m

-- A drawing is simulated on a chip's tree by a map m in 32 places.
pub record Simulated (source target m : List ℕ) : Type 0 where
  -- both trees open with every limit from 1 to 256, and both refuse any other limit by 17
  pub opens : (limit : ℕ) → (open_fault source limit ≡ limit_fault limit) × (open_fault target limit ≡ limit_fault limit)
  -- after the opening the same is observed of both over every list of calls, with the paths of the chip's pushes carried over by m
  pub alike : (limit : ℕ) → limit_fault limit ≡ 0
      → let x = opened_state source limit in
      let y = opened_state target limit in
      (calls : List (Call Packet)) (vs ws : History State) → Execution Serves x calls vs
      → Execution (ServesCarried (tree source) (tree target) (images source m)) y calls ws
      → ObservedAlike (tree source) (tree target) (images source m) limit calls x y vs ws

-- the contract of `search`
pub record Finds (source target : List ℕ) (r : Result (List ℕ) Refusal) : Type 0 where
  pub answer : Searches source target r
  pub simulated : IfOk r (λ m. Simulated source target m)

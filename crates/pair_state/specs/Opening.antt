-- What the opening of both trees answers: the refusal `both_fault` or the pair `opened_pair`, for every source, target and limit.
use Rattle.std.specs.Prelude.{false, ◌≡◌, ℕ, List, length, take, Result, IfOk}
use Rattle.base.specs.Refusals.{or_else}
use Rattle.refusal.specs.Numbers.{number_of}
use Rattle.refusal.specs.declared.Refusal.{Refusal}
use Rattle.topology.specs.Reader.{tree}
use Rattle.pifo_model.specs.Machine.{opened}
use Rattle.embedding_model.specs.Least.{search_fault, search_map}
use Rattle.queue_limit.specs.Limit.{limit_fault}
use Rattle.queue_state.specs.State.{machine, well_formed}
use Rattle.queue_state.specs.Opening.{opened_state, no_tree}
use Rattle.pair_step.specs.InStep.{InStep}
use Rattle.queue_state.specs.declared.State.{State}
use Rattle.pair_state.specs.declared.Pair.{Pair}

-- The refusal of an opening of both trees: the search's, then the limit's; or 0.
unfoldable pub both_fault : List ℕ → List ℕ → ℕ → ℕ
both_fault source target limit = or_else (search_fault source target) (limit_fault limit)

-- the two trees and the least map that an opening gives if it is not refused
abbrev pub opened_pair : List ℕ → List ℕ → ℕ → Pair State
opened_pair source target limit =
    record { source = opened_state source limit; chip = opened_state target limit; map = search_map source target }

-- What follows for the result of an opening (`opens-both` in proofs/OpensBoth): both machines are empty and in step, and the map is the least one; and
-- if it is refused, C gets `no_tree` in place of both states, on which every call is refused by 18.
pub record OpensBoth (source target : List ℕ) (limit : ℕ) (r : Result (Pair State) Refusal) : Type 0 where
  pub refusal : number_of r ≡ both_fault source target limit
  pub drawn : IfOk r (λ p. machine p.source ≡ opened (tree source) limit)
  pub chip : IfOk r (λ p. machine p.chip ≡ opened (tree target) limit)
  pub map : IfOk r (λ p. p.map ≡ search_map source target)
  pub nothing : well_formed no_tree ≡ false
  pub in_step : IfOk r (λ p. InStep source target (take (length source) p.map) p.source p.chip)

-- A state with its queues replaced, for the laws about push and pop.
use Rattle.std.specs.Prelude.{ℕ, List}
use Rattle.queue_state.specs.declared.Entry.{Entry}
use Rattle.queue_state.specs.declared.State.{State}

-- the state with other queues
abbrev pub with_queues : State → List ℕ → List Entry → State
with_queues s lengths entries = record { frame = s.frame; refused = s.refused; lengths = lengths; entries = entries }

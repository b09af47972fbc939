-- The way of a pop, as the code returns it: what it takes at each node from the root down.
use Rattle.std.specs.Prelude.{ℕ, ◌+◌, ◌-◌, List, [], ◌++◌, map, cond, length, replicate}
use Rattle.pifo_model.specs.Way.{Taken, taken, way}
use Rattle.queue_state.specs.State.{tree_of, well_formed}
use Rattle.queue_state.specs.declared.State.{State}
use Rattle.queue_pop.specs.declared.Taken.{Taken as CodeTaken}
use Rattle.queue_pop.specs.declared.Way.{Way}

-- the code's record of what is taken at a node; and the record in unused places
abbrev pub code_taken : Taken → CodeTaken
code_taken (taken n i r) = record { node = n; child = i; rank = r }

abbrev pub no_taken : CodeTaken
no_taken = record { node = 0; child = 0; rank = 0 }

-- a way that begins `depth` steps below the root, in nine places, with 0 before it and past its last node
abbrev pub way_from : ℕ → List Taken → Way
way_from depth ts =
    record { taken = replicate depth no_taken ++ (map code_taken ts ++ replicate (9 - (depth + length ts)) no_taken); count = depth + length ts }

-- the way of a pop of a state; empty if the state is not well formed
unfoldable pub way_of : State → Way
way_of s = way_from 0 (cond (well_formed s) (way (tree_of s) 0) [])

-- The lengths of a state's arrays, which every state that a function gets has (`the_arrays`). Only the projections here depend on the order of the
-- fields; a new field at the end of a frame does not change them.
use mathlib.Core.Path.{◌≡◌}
use mathlib.Core.List.{List}
use lib.ListN.{length}
use mir.Val.{Val}
use denote.Laws.{Is}
use denote.Struct.Declared.{row}
use Rattle.queue_state.specs.declared.State.{State}
use Rattle.queue_state.specs.declared.Frame.{Frame}
use Rattle.queue_state.specs.contracts.State
use Rattle.queue_state.specs.contracts.Frame

pub record Arrays (s : State) : Type 0 where
  pub topology : length s.frame.topology ≡ 64
  pub lengths : length s.lengths ≡ 64
  pub entries : length s.entries ≡ 2304

pub the_topology : (f : Frame) (vs : List Val) → Is (row Frame.the_type) f vs → length f.topology ≡ 64
the_topology f vs g = g.1.1.0.1.0.1

pub the_arrays : (s : State) (vs : List Val) → Is (row State.the_type) s vs → Arrays s
the_arrays s vs g =
    record {
      topology = the_topology s.frame g.0.0 g.1.1.0;
      lengths = g.1.1.1.0.1.0.1;
      entries = g.1.1.1.1.0.1.0.1;
    }

-- What the calls below promise: the queue tree's contract (`Serves`) gives an answer and a state, and the disciplines after it are those of the call.
use Rattle.std.specs.Prelude.{◌≡◌, ℕ, List, Option, None, Some}
use Rattle.pifo_model.specs.Queue.{Rank}
use Rattle.pifo_model.specs.Machine.{Answer, accepted, departed, refused, full, pushing, popping}
use Rattle.queue_state.specs.State.{Packet}
use Rattle.queue_state.specs.Calls.{Serves}
use Rattle.queue_state.specs.declared.State.{State}
use Rattle.queue_push.specs.Calls.{steps_of}
use Rattle.queue_push.specs.declared.Path.{Path}
use Rattle.queue_pop.specs.Way.{way_of}
use Rattle.discipline_model.specs.Figure.{with_finishes}
use Rattle.discipline_clock.specs.Clock.{clocked}
use Rattle.tree_state.specs.Calls.{tree_with}
use Rattle.tree_state.specs.declared.Tree.{Tree}

-- a push that alters no finish
pub record PushesAlong (t : Tree) (path : Path) (packet : Packet) (a : Answer Packet) (r : Tree) : Type 0 where
  pub state : State
  pub below : Serves t.state (pushing (steps_of path) path.leaf_rank packet) a state
  pub after : r ≡ tree_with state t.disciplines

-- a push by a plan: from the answer and the state of the push below, the answer and the tree after it
abbrev pub settled : Tree → Option (List Rank) → Answer Packet → State → Answer Packet × Tree
settled t (Some finish) (accepted h) s = (accepted h, tree_with s (with_finishes t.disciplines finish))
settled t None (accepted h) s = (refused 23, t)
settled t finish (departed p) s = (departed p, tree_with s t.disciplines)
settled t finish (refused n) s = (refused n, tree_with s t.disciplines)
settled t finish (full n c) s = (full n c, tree_with s t.disciplines)

pub record PushesPlanned (t : Tree) (path : Path) (finish : Option (List Rank)) (packet : Packet) (a : Answer Packet) (r : Tree) : Type 0 where
  pub answer : Answer Packet
  pub state : State
  pub below : Serves t.state (pushing (steps_of path) path.leaf_rank packet) answer state
  pub outcome : (a, r) ≡ settled t finish answer state

-- a pop, for a drawing of these bytes whose nodes have these images
pub record Pops (t : Tree) (bytes images : List ℕ) (a : Answer Packet) (r : Tree) : Type 0 where
  pub state : State
  pub below : Serves t.state popping a state
  pub after : r ≡ tree_with state (clocked t.disciplines bytes (way_of t.state) images)

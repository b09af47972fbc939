-- A scheduler: a queue tree with disciplines, which takes pushes by path, pushes to a leaf, and pops (paper 02, 2.1). Its leaves and disciplines are
-- those of a drawing S. The machine below it is the drawing's own, or a chip's machine to which paths are carried over (crate `pair_schedule`).
use Rattle.std.specs.Prelude.{ℕ, List, [], ◌∷◌, Bool, ◌&&◌, cond, eqb, ltb}
use Rattle.std.proofs.Math.Option.{Option, none, some}
use Rattle.topology.specs.Tree.{Topo, width, size}
use Rattle.topology.specs.Address.{addr, subtree}
use Rattle.pifo_model.specs.Queue.{Rank, Entry, rank}
use Rattle.pifo_model.specs.Way.{takes}
use Rattle.pifo_model.specs.Machine.{Machine, Call, pushing, Answer, accepted, departed, refused, full, Server, serve, counts}
use Rattle.discipline_model.specs.Figure.{kind_at, rank_by, steps_down, finishes_down, fits_down, with_finishes, after_pop}
use Rattle.discipline_model.specs.declared.Disciplines.{Disciplines}

pub record Scheduler (P : Type 0) : Type 0 where
  pub core : Machine P
  pub disciplines : Disciplines

-- a request: a push by path or a pop; or a push to a leaf, with the class and the length of the packet
pub data Request (P : Type 0) : Type 0 where
  calling : Call P → Request P
  pushing_to : ℕ → ℕ → ℕ → P → Request P

-- whether the node is a leaf of the drawing
abbrev pub is_leaf : Topo → ℕ → Bool
is_leaf t n = ltb n (size t) && eqb (width (subtree t n)) 0

module _ {P : Type 0} where
  abbrev pub rank_of : Option (Entry P) → Option Rank
  rank_of none = none
  rank_of (some e) = some (rank e)

  -- the rank that a pop takes at node n
  unfoldable pub rank_at : Machine P → ℕ → Option Rank
  rank_at m n = rank_of (takes m.tree (addr m.topology n))

  abbrev pub with : Machine P → Disciplines → Scheduler P
  with m d = record { core = m; disciplines = d }

  -- A push to a leaf that the machine below has answered: if it was accepted and a finish does not fit, it is refused by 23 and nothing is changed.
  abbrev pub pushed_by : Scheduler P → Disciplines → Bool → Answer P × Machine P → Answer P × Scheduler P
  pushed_by s d fits (accepted h, m) = cond fits (accepted h, with m d) (refused 23, s)
  pushed_by s d fits (departed p, m) = (departed p, with m s.disciplines)
  pushed_by s d fits (refused n, m) = (refused n, with m s.disciplines)
  pushed_by s d fits (full n c, m) = (full n c, with m s.disciplines)

  -- A call that the machine below has answered: after a pop the virtual times are the ranks that it took; otherwise the disciplines stay as they
  -- were.
  abbrev pub called_by : Topo → Scheduler P → (ℕ → Option Rank) → Answer P × Machine P → Answer P × Scheduler P
  called_by S s at (accepted h, m) = (accepted h, with m s.disciplines)
  called_by S s at (departed p, m) = (departed p, with m (after_pop S s.disciplines at))
  called_by S s at (refused n, m) = (refused n, with m s.disciplines)
  called_by S s at (full n c, m) = (full n c, with m s.disciplines)

  -- The answer to a request, and the scheduler after it: S is the drawing, `server` answers the calls on the machine below, and `at` gives the rank
  -- that a pop of this machine takes for a node of the drawing.
  module _ (S : Topo) (server : Server P) (at : Machine P → ℕ → Option Rank) where
    abbrev pub serve_by : Scheduler P → Request P → Answer P × Scheduler P
    serve_by s (calling c) = called_by S s (at s.core) (server s.core c)
    serve_by s (pushing_to leaf class length p) =
        let d = s.disciplines in
        let down = addr S leaf in
        let push = pushing (steps_down S d class 0 down) (rank_by (kind_at d.rules leaf) 0 class) p in
        let after = with_finishes d (finishes_down S d length 0 down d.finish) in
        cond (is_leaf S leaf) (pushed_by s after (fits_down S d length 0 down) (server s.core push)) (refused 25, s)

  -- a tree by itself: the drawing is its own topology, and its machine answers by `serve`
  abbrev pub serve_own : Scheduler P → Request P → Answer P × Scheduler P
  serve_own s = serve_by s.core.topology serve rank_at s

  -- What is observed of a scheduler: packets held, refusals counted, and what is kept for disciplines. What is observed over a list of requests: for
  -- each request its answer, and what is observed of the scheduler after it.
  abbrev pub observation_of : Scheduler P → (ℕ × ℕ) × Disciplines
  observation_of s = (counts s.core, s.disciplines)

  abbrev pub observed_over : (Scheduler P → Request P → Answer P × Scheduler P) → Scheduler P → List (Request P)
      → List (Answer P × ((ℕ × ℕ) × Disciplines))
  observed_over server s [] = []
  observed_over server s (r ∷ rs) = ((server s r).0, observation_of (server s r).1) ∷ observed_over server (server s r).1 rs

-- Virtual times after a pop, computed from the way of the pop. The disciplines are indexed by the nodes of a drawing, given by its bytes, and the way
-- has nodes of the tree that was popped; `images` has the tree's node for each node of the drawing. `after_pop` in discipline_model/specs/Figure
-- defines what the virtual times must be, and proofs/Clock.antt shows that the two agree.
use Rattle.std.specs.Prelude.{ℕ, suc, List, [], ◌∷◌, Option, None, Some, cond, take, eqb, nat_eq, unwrap_or, option_map}
use Rattle.std.specs.List.{find, range_with_len}
use Rattle.std.proofs.Math.Option.{none, some}
use Rattle.std.proofs.Math.Option.{Option as Maybe}
use Rattle.pifo_model.specs.Queue.{Rank}
use Rattle.queue_pop.specs.declared.Way.{Way}
use Rattle.discipline_model.specs.Figure.{weighted, kind_at, acts_by}
use Rattle.discipline_model.specs.declared.Rule.{Rule}
use Rattle.discipline_model.specs.declared.Disciplines.{Disciplines}

-- the code's option for the model's
abbrev pub code_option : Maybe Rank → Option Rank
code_option none = None
code_option (some r) = Some r

-- the rank that a way has at node n, if it has one there
abbrev pub rank_in : Way → ℕ → Option Rank
rank_in w n = option_map (λ p. p.rank) (find (λ p. nat_eq p.node n) (take w.count w.taken))

-- the virtual times from node n on, after a pop that took the ranks `at`; the first two lists are the bytes and the images of these nodes. A node
-- that acts as weighted gets the rank at its image, if there is one
abbrev pub times_by : List Rule → (ℕ → Option Rank) → ℕ → List ℕ → List ℕ → List Rank → List Rank
times_by rules at n [] l vs = vs
times_by rules at n (b ∷ bs) [] vs = vs
times_by rules at n (b ∷ bs) (a ∷ l) [] = []
times_by rules at n (b ∷ bs) (a ∷ l) (v ∷ vs) =
    cond (eqb (acts_by b (kind_at rules n)) weighted) (unwrap_or (at a) v) v ∷ times_by rules at (suc n) bs l vs

abbrev pub with_times : Disciplines → List Rank → Disciplines
with_times d vs = record { rules = d.rules; virtual_time = vs; finish = d.finish }

-- the disciplines after a pop, for a drawing of these bytes
abbrev pub clocked : Disciplines → List ℕ → Way → List ℕ → Disciplines
clocked d bytes w images = with_times d (times_by d.rules (rank_in w) 0 bytes images d.virtual_time)

-- the images for a tree by itself: each node is its own image
abbrev pub own_images : List ℕ
own_images = range_with_len 0 64

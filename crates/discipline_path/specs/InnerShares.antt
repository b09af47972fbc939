-- Promises of the private functions that handle one node, or one step of a path.
use Rattle.std.specs.Prelude.{ℕ, List, Option, Some, None, cond}
use Rattle.topology.specs.declared.Child.{Child}
use Rattle.pifo_model.specs.Queue.{Rank}
use Rattle.queue_push.specs.Calls.{extended_by}
use Rattle.discipline_model.specs.Figure.{start, finish, rank_by, finish_by, fits_by}
use Rattle.discipline_model.specs.declared.Disciplines.{Disciplines}
use Rattle.discipline_path.specs.declared.Plan.{Plan}

-- the finishes with the new finish f of child c, if the node is weighted; none if it does not fit
abbrev pub finishes_by : ℕ → ℕ → Rank → Option (List Rank) → Option (List Rank)
finishes_by k c f None = None
finishes_by k c f (Some fs) = cond (fits_by k f) (Some (finish_by k c f fs)) None

-- the plan with one more step, from node n, which acts by discipline k, to child c
abbrev pub stepped : Disciplines → ℕ → ℕ → Child → ℕ → ℕ → Plan → Plan
stepped d k n c class length p = record {
  path = extended_by p.path c.number (rank_by k (start d n c.node) class);
  finish = finishes_by k c.node (finish d n c.node length) p.finish;
}

-- What the plan of a push to a leaf promises.
use Rattle.std.specs.Prelude.{◌≡◌, ℕ, List, Option, Some, None, cond}
use Rattle.topology.specs.Tree.{Topo}
use Rattle.topology.specs.Address.{Addr, addr}
use Rattle.pifo_model.specs.Queue.{Rank}
use Rattle.queue_push.specs.Calls.{path_of}
use Rattle.discipline_model.specs.Figure.{kind_at, rank_by, steps_down, finishes_down, fits_down}
use Rattle.discipline_model.specs.declared.Disciplines.{Disciplines}
use Rattle.discipline_path.specs.declared.Plan.{Plan}

-- the finishes after a packet on its path from node n down, if each new one fits
abbrev pub finishes_after : Topo → Disciplines → ℕ → ℕ → Addr → List Rank → Option (List Rank)
finishes_after t d length n a fs = cond (fits_down t d length n a) (Some (finishes_down t d length n a fs)) None

-- The plan of a packet to a leaf of the drawing t: its path, and the finishes if they all fit.
pub record Planned (t : Topo) (d : Disciplines) (leaf class length : ℕ) (r : Plan) : Type 0 where
  pub path : r.path ≡ path_of (steps_down t d class 0 (addr t leaf)) (rank_by (kind_at d.rules leaf) 0 class)
  pub finish : r.finish ≡ finishes_after t d length 0 (addr t leaf) d.finish

-- The invariant of the simulation with disciplines.
use Rattle.std.specs.Prelude.{◌≡◌, ℕ, List}
use Rattle.topology.specs.Tree.{Topo}
use Rattle.pair_model.specs.Simulation.{Paired}
use Rattle.discipline_model.specs.Scheduler.{Scheduler}

module _ {P : Type 0} where
  -- What holds between the two schedulers before and after each request: their machines are paired, and both keep the same for disciplines.
  pub record PairedSchedulers (S T : Topo) (m : List ℕ) (x y : Scheduler P) : Type 0 where
    pub cores : Paired S T m x.core y.core
    pub disciplines : y.disciplines ≡ x.disciplines

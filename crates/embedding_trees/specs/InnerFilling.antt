-- For private functions: a table of branch ends that is filled from a node on.
use Rattle.std.specs.Prelude.{◌≡◌, ℕ, ◌≤◌, ◌<◌, List, length, get_or}
use Rattle.topology.specs.Branch.{branch_end}

pub record FilledFrom (bytes ends : List ℕ) (node : ℕ) : Type 0 where
  pub places : length ends ≡ 64
  pub at : (n : ℕ) → node ≤ n → n < 64 → get_or ends n 0 ≡ branch_end bytes n

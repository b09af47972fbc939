-- A table of where the branches of a drawing end, for the check and the search of a map.
use Rattle.std.specs.Prelude.{◌≡◌, ℕ, ◌≤◌, ◌<◌, List, length, get_or}
use Rattle.topology.specs.Branch.{branch_end}

-- a table of where the branches end, with room for a target's nodes
pub record Ends (bytes ends : List ℕ) : Type 0 where
  pub places : length ends ≡ 64
  pub small : (n : ℕ) → get_or ends n 0 ≤ 64
  pub at : (n : ℕ) → n < length bytes → get_or ends n 0 ≡ branch_end bytes n

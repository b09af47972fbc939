-- Kept nodes by number, for the code and the laws: the next kept node below a node, and the number of a kept node in the reduced drawing.
use Rattle.std.specs.Prelude.{ℕ, List, length, take}
use Rattle.topology.specs.Tree.{Topo}
use Rattle.topology.specs.Address.{addr, num}
use Rattle.topology_reduction.specs.Kept.{kept_at}
use Rattle.topology_reduction.specs.Reduced.{kept_bytes}

-- the node or, if it is passed over, the next kept node below it
abbrev pub kept_node : Topo → ℕ → ℕ
kept_node t n = num t (kept_at t (addr t n))

-- the number of a kept node in the reduced drawing
abbrev pub place : List ℕ → ℕ → ℕ
place bytes n = length (kept_bytes (take n bytes))

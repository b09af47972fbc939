-- Kept nodes (paper 02, 2.2): an inner node with one child is passed over, and any other is kept.
use Rattle.std.specs.Prelude.{◌≢◌, ℕ, [], ◌∷◌, ◌++◌}
use Rattle.topology.specs.Tree.{Topo, Forest, node, fnil, fcons, width}
use Rattle.topology.specs.Address.{Addr, num, sub, subtree}

abbrev pub Kept : Topo → ℕ → Type 0
Kept t n = width (subtree t n) ≢ 1

-- The address of the first kept node of a tree: down from the root through nodes with one child.
abbrev pub if_alone : Forest → Addr → Addr
if_alone fnil a = a
if_alone (fcons t ts) a = []

abbrev mutual
  pub descent : Topo → Addr
  descent (node ts) = descent_in ts

  pub descent_in : Forest → Addr
  descent_in fnil = []
  descent_in (fcons t ts) = if_alone ts (1 ∷ descent t)

-- the node at an address or, if it is passed over, the next kept node below it
abbrev pub kept_at : Topo → Addr → Addr
kept_at t a = a ++ descent (sub t a)

-- the number in the drawing of its first kept node, the top node of the reduced drawing
abbrev pub top : Topo → ℕ
top t = num t (descent t)

-- Addresses of nodes (Definition 5.1 of document 001), and node numbers: the positions of the addresses in preorder, from 0.
use Rattle.std.specs.Prelude.{◌≡◌, ℕ, zero, suc, ◌+◌, ◌≤◌, ◌<◌, List, [], ◌∷◌, ◌++◌, map, length, drop, get_or}
use Rattle.topology.specs.Tree.{Topo, Forest, node, fnil, fcons, leaf, kids, width, size}

-- an address: the child numbers from the root down to a node
abbrev pub Addr : Type 0
Addr = List ℕ

-- the tree at an index of a forest, from 0; a leaf past its end
abbrev pub nth : Forest → ℕ → Topo
nth fnil i = leaf
nth (fcons t ts) zero = t
nth (fcons t ts) (suc i) = nth ts i

-- child i of a tree's root, from 1
abbrev pub child : Topo → ℕ → Topo
child t zero = leaf
child t (suc i) = nth (kids t) i

-- the addresses that a tree has
abbrev pub In : Topo → Addr → Type 0
In t [] = Unit
In t (i ∷ a) = (0 < i) × (i ≤ width t) × In (child t i) a

-- the subtree at an address, written t/a in document 001
abbrev pub sub : Topo → Addr → Topo
sub t [] = t
sub t (i ∷ a) = sub (child t i) a

-- The node at the first address is the node at the second or lies above it (Definition 5.2): the first address is a prefix of the second.
abbrev pub Above : Addr → Addr → Type 0
Above a b = (d : Addr) × (b ≡ a ++ d)

-- All addresses of a tree in preorder; and those of a forest whose first tree is child k.
abbrev mutual
  pub addrs : Topo → List Addr
  addrs (node ts) = [] ∷ addrs_from ts 1

  pub addrs_from : Forest → ℕ → List Addr
  addrs_from fnil k = []
  addrs_from (fcons t ts) k = map (λ (a : Addr). k ∷ a) (addrs t) ++ addrs_from ts (suc k)

-- the address of node n
unfoldable pub addr : Topo → ℕ → Addr
addr t n = get_or (addrs t) n []

-- how many nodes the trees before index i have
abbrev pub ahead : Forest → ℕ → ℕ
ahead fnil i = 0
ahead (fcons t ts) zero = 0
ahead (fcons t ts) (suc i) = size t + ahead ts i

-- the number of the node at an address
abbrev pub num : Topo → Addr → ℕ
num t [] = 0
num t (zero ∷ a) = 0
num t (suc i ∷ a) = suc (ahead (kids t) i + num (nth (kids t) i) a)

-- the subtree at node n
abbrev pub subtree : Topo → ℕ → Topo
subtree t n = sub t (addr t n)

-- the number of child i of node n
unfoldable pub child_of : Topo → ℕ → ℕ → ℕ
child_of t n i = num t (addr t n ++ (i ∷ []))

-- how many steps node n lies below the root
abbrev pub depth : Topo → ℕ → ℕ
depth t n = length (addr t n)

-- the child numbers from node x down to node y, if x is y or lies above it
abbrev pub route : Topo → ℕ → ℕ → Addr
route t x y = drop (depth t x) (addr t y)

-- Trees of nodes (Definition 3.1 of document 001), and their bytes in preorder. A leaf is a node without children: document 001's `*` and its Node
-- of the empty list are the same tree here.
use Rattle.std.specs.Prelude.{ℕ, suc, ◌+◌, max, List, [], ◌∷◌, ◌++◌}

mutual
  pub data Topo : Type 0 where
    node : Forest → Topo

  pub data Forest : Type 0 where
    fnil : Forest
    fcons : Topo → Forest → Forest

abbrev pub leaf : Topo
leaf = node fnil

-- how many trees a forest has
abbrev pub count : Forest → ℕ
count fnil = 0
count (fcons t ts) = suc (count ts)

-- the children of a tree's root, and how many they are
abbrev pub kids : Topo → Forest
kids (node ts) = ts

abbrev pub width : Topo → ℕ
width t = count (kids t)

-- The bytes of a tree (paper 01, "Drawing a tree"): each node's number of children, in preorder.
abbrev mutual
  pub code : Topo → List ℕ
  code (node ts) = count ts ∷ codes ts

  pub codes : Forest → List ℕ
  codes fnil = []
  codes (fcons t ts) = code t ++ codes ts

-- how many nodes a tree has
abbrev mutual
  pub size : Topo → ℕ
  size (node ts) = suc (sizes ts)

  pub sizes : Forest → ℕ
  sizes fnil = 0
  sizes (fcons t ts) = size t + sizes ts

-- how many steps the deepest node lies below the root; for a forest, below the parent of its trees
abbrev mutual
  pub height : Topo → ℕ
  height (node ts) = heights ts

  pub heights : Forest → ℕ
  heights fnil = 0
  heights (fcons t ts) = max (suc (height t)) (heights ts)

-- the largest number of children of a node
abbrev mutual
  pub breadth : Topo → ℕ
  breadth (node ts) = max (count ts) (breadths ts)

  pub breadths : Forest → ℕ
  breadths fnil = 0
  breadths (fcons t ts) = max (breadth t) (breadths ts)

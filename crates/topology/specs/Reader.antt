-- The topology reader of paper 01, "Drawing a tree": which byte strings are trees, and by which number the others are refused.
use Rattle.std.specs.Prelude.{ℕ, zero, suc, pred, ◌+◌, ◌≤◌, List, [], ◌∷◌, cond, length, leb, ltb, eqb}
use Rattle.base.specs.Refusals.{or_else}
use Rattle.topology.specs.Tree.{Topo, Forest, node, fnil, fcons, leaf, size, height, breadth}

-- A tree within the limits. Paper 01 calls the tree that a park draws the source (at most 32 nodes) and the chip's tree the target (at most 64).
pub record Within (limit : ℕ) (t : Topo) : Type 0 where
  pub nodes : size t ≤ limit
  pub children : breadth t ≤ 8
  pub steps : height t ≤ 8

-- The debt (paper 02, 2.4): the number of nodes that are still owed, 1 at first for the root. Each byte takes its own node off the debt and adds
-- the node's children.
abbrev pub owing : ℕ → ℕ → ℕ
owing debt b = b + pred debt

-- The debt does not determine the depth of the next node. So each branch that has begun and is not complete has a mark: the debt at which it will
-- be complete. The marks are listed from the deepest branch up, and the next node lies as many steps down as there are marks (`depth_next` in
-- proofs/Depth). `pending` drops the marks of complete branches: those at the front that are not below the debt.
abbrev pub pending : ℕ → List ℕ → List ℕ
pending debt [] = []
pending debt (m ∷ ms) = cond (ltb m debt) (m ∷ ms) (pending debt ms)

-- The marks after the next node, which has b children. Its branch is complete when the debt has fallen to what it was without this node.
abbrev pub marking : ℕ → List ℕ → ℕ → List ℕ
marking debt marks b = pending (owing debt b) (pred debt ∷ marks)

-- The fault of byte b in the order of the tests, or 0: n nodes came before it, `debt` nodes are owed, and its own node lies `depth` steps down.
abbrev pub fault_at : ℕ → ℕ → ℕ → ℕ → ℕ → ℕ
fault_at limit n debt depth b = cond (eqb debt 0) 2 (cond (leb limit n) 3 (cond (ltb 8 b) 4 (cond (ltb 8 depth) 5 0)))

-- the first fault of the bytes that are left
abbrev pub fault_from : ℕ → ℕ → ℕ → List ℕ → List ℕ → ℕ
fault_from limit n debt marks [] = cond (eqb debt 0) 0 1
fault_from limit n debt marks (b ∷ bs) =
    let rest = fault_from limit (suc n) (owing debt b) (marking debt marks b) bs in or_else (fault_at limit n debt (length marks) b) rest

-- The number by which the bytes are refused, or 0 if they are a tree.
unfoldable pub fault : ℕ → List ℕ → ℕ
fault limit bytes = fault_from limit 0 1 [] bytes

-- The tree that the bytes draw, read from the last byte to the first: a node with byte b takes the first b of the trees after it as its children.
-- The definition is meant for bytes without a fault.
abbrev pub first : ℕ → Forest → Forest
first zero ts = fnil
first (suc b) fnil = fnil
first (suc b) (fcons t ts) = fcons t (first b ts)

abbrev pub others : ℕ → Forest → Forest
others zero ts = ts
others (suc b) fnil = fnil
others (suc b) (fcons t ts) = others b ts

abbrev pub forest : List ℕ → Forest
forest [] = fnil
forest (b ∷ bs) = let ts = forest bs in fcons (node (first b ts)) (others b ts)

abbrev pub head : Forest → Topo
head fnil = leaf
head (fcons t ts) = t

unfoldable pub tree : List ℕ → Topo
tree bytes = head (forest bytes)

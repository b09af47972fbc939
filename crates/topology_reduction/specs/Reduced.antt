-- The reduced drawing (paper 02, 2.2): every inner node with one child is replaced by that child. In bytes, the bytes 1 are left out. And lists of
-- numbers: one over all nodes of a drawing restricted to the kept nodes, and one over the kept nodes spread over all nodes.
use Rattle.std.specs.Prelude.{ℕ, suc, ◌+◌, ◌-◌, List, [], ◌∷◌, ◌++◌, cond, length, drop, replicate, eqb}
use Rattle.topology.specs.Tree.{Topo, Forest, node, fnil, fcons, leaf}

-- a node with the given children or, if there is only one, that child
abbrev pub joined : Forest → Topo
joined fnil = leaf
joined (fcons t fnil) = t
joined (fcons t (fcons u ts)) = node (fcons t (fcons u ts))

abbrev mutual
  pub reduced : Topo → Topo
  reduced (node ts) = joined (reduced_all ts)

  pub reduced_all : Forest → Forest
  reduced_all fnil = fnil
  reduced_all (fcons t ts) = fcons (reduced t) (reduced_all ts)

-- what a map has at a node that is passed over; no target node has this number
abbrev pub passed_over : ℕ
passed_over = 255

-- a list restricted to the kept nodes of a drawing with these bytes
abbrev pub restricted : List ℕ → List ℕ → List ℕ
restricted [] m = []
restricted (b ∷ bs) [] = []
restricted (b ∷ bs) (x ∷ m) = cond (eqb b 1) (restricted bs m) (x ∷ restricted bs m)

-- a list over the kept nodes spread over all nodes, with 255 at the nodes that are passed over
abbrev pub spread : List ℕ → List ℕ → List ℕ
spread [] l = []
spread (b ∷ bs) [] = cond (eqb b 1) (passed_over ∷ spread bs []) []
spread (b ∷ bs) (x ∷ l) = cond (eqb b 1) (passed_over ∷ spread bs (x ∷ l)) (x ∷ spread bs l)

-- the bytes of the reduced drawing: the drawing's own bytes at its kept nodes (`code_reduced` in proofs/Reduced)
abbrev pub kept_bytes : List ℕ → List ℕ
kept_bytes bytes = restricted bytes bytes

-- how many bytes 1 come before any other byte
abbrev pub ones : List ℕ → ℕ
ones [] = 0
ones (b ∷ bs) = cond (eqb b 1) (suc (ones bs)) 0

-- the node itself or, if it is passed over, the next kept node below it, by the bytes; it is `kept_node` (`next_kept_lem` in proofs/NextKept)
unfoldable pub next_kept : List ℕ → ℕ → ℕ
next_kept bytes n = n + ones (drop n bytes)

-- a list of at most 32 numbers, filled up with zeros to 32
abbrev pub in32 : List ℕ → List ℕ
in32 l = l ++ replicate (32 - length l) 0

-- Regular chips (paper 02, 2.3): complete trees, in which each inner node has d children and all leaves lie equally deep.
use Rattle.std.specs.Prelude.{ℕ, zero, suc, ◌+◌, cond, eqb}
use Rattle.topology.specs.Tree.{Topo, Forest, node, fnil, fcons, leaf, count}

-- n copies of a tree
abbrev pub copies : ℕ → Topo → Forest
copies zero t = fnil
copies (suc n) t = fcons t (copies n t)

-- the complete tree of depth k
abbrev pub complete : ℕ → ℕ → Topo
complete d zero = leaf
complete d (suc k) = node (copies d (complete d k))

-- how many leaves a tree has
abbrev mutual
  pub leaves : Topo → ℕ
  leaves (node ts) = cond (eqb (count ts) 0) 1 (leaves_of ts)

  pub leaves_of : Forest → ℕ
  leaves_of fnil = 0
  leaves_of (fcons t ts) = leaves t + leaves_of ts

-- The depth that a drawing needs, as a formula. `least-depth` in proofs/Depth shows that it is the least depth by the rules.
--
-- A complete tree of depth k has d ^ k leaves. The branches of a node's children are disjoint on the chip, so the complete trees that they need
-- have together no more leaves than the complete tree that the node needs. This is Kraft's inequality; proofs/Placement shows that it also
-- suffices.
use Rattle.std.specs.Prelude.{ℕ, zero, suc, ◌*◌, ◌^◌, List, [], ◌∷◌, cond, leb}
use Rattle.base.specs.Sum.{sum}
use Rattle.topology.specs.Tree.{Topo, Forest, node, fnil, fcons}

-- The least exponent from k on with s ≤ d ^ exponent, if one of the next `fuel` exponents is such; and the least from 0 on.
abbrev pub enough_from : ℕ → ℕ → ℕ → ℕ → ℕ
enough_from zero d s k = k
enough_from (suc fuel) d s k = cond (leb s (d ^ k)) k (enough_from fuel d s (suc k))

unfoldable pub enough : ℕ → ℕ → ℕ
enough d s = enough_from s d s 0

abbrev pub powers : ℕ → List ℕ → List ℕ
powers d [] = []
powers d (h ∷ hs) = d ^ h ∷ powers d hs

-- The depth that a tree needs, and the depths that the trees of a forest need. A leaf needs 0, and a node with one child what that child needs.
abbrev mutual
  pub need : ℕ → Topo → ℕ
  need d (node ts) = enough d (sum (powers d (needs d ts)))

  pub needs : ℕ → Forest → List ℕ
  needs d fnil = []
  needs d (fcons t ts) = need d t ∷ needs d ts

-- No drawing within the limits needs more leaves (`need_most` in proofs/Bounds).
abbrev pub most_leaves : ℕ
most_leaves = 32 * 8 ^ 8

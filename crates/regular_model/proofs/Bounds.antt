-- Bounds on the powers from which the depth that a drawing needs is computed.
--
-- The exponent for a sum is the least that is enough, so its power is less than d times the sum, or it is 1. So a node's power is at most d times the
-- sum of its children's powers, plus 1; and by induction each node adds at most d ^ height to the power of the root.
use mathlib.Core.Path.{◌≡◌}
use Prim.Native.Nat.{ℕ, zero, suc, ◌+◌, ◌*◌, ◌^◌, ◌≤◌, ◌<◌, max}
use native.Mathlib.Nat.{mul-le-mul_left, mul-le-mul_right, mul-le-mul, pow-zero, pow-succ', pow-le-pow_left, pow-le-pow_right, le_trans, mul_left_comm}
use native.Mathlib.Decide.{dec_le, dec_lt}
use native.Mathlib.Omega.{arith}
use Rattle.base.specs.Sum.{sum}
use Rattle.topology.specs.Tree.{Topo, Forest, node, fnil, fcons, size, sizes, height, heights}
use Rattle.topology.specs.Reader.{Within}
use Rattle.regular_model.specs.InnerNeed.{enough, powers, need, needs, most_leaves}
use Rattle.regular_model.proofs.Enough.{enough-least, power_rises}

module _ (d : ℕ) (z : 2 ≤ d) where
  enough-room : (s : ℕ) → d ^ enough d s ≤ d * s + 1
  enough-room s = by_exponent (enough d s) (λ j h. enough-least d z s j h)
    where
      by_exponent : (k : ℕ) → ((j : ℕ) → s ≤ d ^ j → k ≤ j) → d ^ k ≤ d * s + 1
      by_exponent zero least = omega (arith, pow-zero d)
      by_exponent (suc k) least = by_order (dec_le s (d ^ k))
        where
          by_order : Dec (s ≤ d ^ k) → d ^ suc k ≤ d * s + 1
          by_order (yes h) = absurd (omega (arith, least k h))
          by_order (no h) = omega (arith, pow-succ' d k, mul-le-mul_left {m = d ^ k} {n = s} d (omega arith))

  rises : {j k : ℕ} (n : ℕ) → j ≤ k → n * d ^ j ≤ n * d ^ k
  rises {j} {k} n h = mul-le-mul_left {m = d ^ j} {n = d ^ k} n (pow-le-pow_right {n = d} (omega arith) h)

  below : (n h : ℕ) → d * (n * d ^ h) ≡ n * d ^ suc h
  below n h = rw pow-succ' (mul_left_comm d n (d ^ h))

  -- The power of a tree is at most d ^ height for each of its nodes, and so is the sum for the children of one node, with a height one greater.
  mutual
    pub need_room : (t : Topo) → d ^ need d t ≤ size t * d ^ height t
    need_room (node ts) =
        omega (arith, enough-room (sum (powers d (needs d ts))), needs_room ts, pow-zero d, rises {j = 0} {k = heights ts} 1 (omega arith))

    pub needs_room : (ts : Forest) → d * sum (powers d (needs d ts)) ≤ sizes ts * d ^ heights ts
    needs_room fnil = omega arith
    needs_room (fcons t ts) =
        let h = max (suc (height t)) (heights ts) in
        let one = mul-le-mul_left {m = d ^ need d t} {n = size t * d ^ height t} d (need_room t) in
        let up = rises {j = suc (height t)} {k = h} (size t) (omega arith) in
        omega (arith, one, below (size t) (height t), up, needs_room ts, rises {j = heights ts} {k = h} (sizes ts) (omega arith))

-- n times the power of the height h, for at most 32 nodes on at most 8 levels below the root
pub room_most : (d n h : ℕ) → d ≤ 8 → n ≤ 32 → h ≤ 8 → n * d ^ h ≤ most_leaves
room_most d n h most few low =
    let l : 8 ^ h ≤ 8 ^ 8 = pow-le-pow_right {n = 8} (omega arith) low in
    mul-le-mul {n₁ = n} {m₁ = d ^ h} {n₂ = 32} {m₂ = 8 ^ 8} few (le_trans (pow-le-pow_left most h) l)

-- A drawing within the limits needs at most 2 ^ 29 leaves, and a depth of at most 13: its 32 nodes are at most d ^ 5.
pub need_most : (d : ℕ) → 2 ≤ d → d ≤ 8 → (t : Topo) → Within 32 t → d ^ need d t ≤ most_leaves
need_most d z most t w = le_trans (need_room d z t) (room_most d (size t) (height t) most w.nodes w.steps)

pub need_depth : (d : ℕ) → 2 ≤ d → (t : Topo) → Within 32 t → need d t ≤ 13
need_depth d z t w = by_order (dec_lt 13 (need d t))
  where
    doubled : (h : ℕ) → 2 * d ^ h ≤ d ^ suc h
    doubled h = omega (arith, pow-succ' d h, mul-le-mul_right {m = 2} {n = d} (d ^ h) z)

    by_order : Dec (13 < need d t) → need d t ≤ 13
    by_order (no l) = omega arith
    by_order (yes l) =
        let steps : d ^ height t ≤ d ^ 8 = pow-le-pow_right {n = d} (omega arith) w.steps in
        let room : d ^ need d t ≤ 32 * d ^ 8 = le_trans (need_room d z t) (mul-le-mul {n₂ = 32} {m₂ = d ^ 8} w.nodes steps) in
        let nodes : 32 * d ^ 8 ≤ d ^ 13 = omega (arith, doubled 8, doubled 9, doubled 10, doubled 11, doubled 12) in
        absurd (omega (arith, power_rises d 13 (need d t) z l))

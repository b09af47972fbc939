-- The branch under a node in node numbers: it is the interval that begins at the node's number and is as long as the branch has nodes. All follows
-- from `num-append`: the number of an address below node a is a's number plus the address's number in a's branch.
use mathlib.Core.Path.{◌≡◌, refl, sym, ap, ◌∙◌, subst}
use Prim.Native.Nat.{ℕ, zero, suc, ◌+◌, ◌-◌, ◌≤◌, ◌<◌, zero-le}
use native.Mathlib.Nat.{zero-add, not-suc-le-zero, le_of_suc-le-suc, zero-lt-suc}
use native.Mathlib.Omega.{arith}
use mathlib.Core.List.{[], ◌∷◌, ◌++◌}
use lib.ListN.{length}
use Rattle.topology.specs.Tree.{Topo, Forest, node, fnil, fcons, count, kids, width, size, sizes, height, heights, breadth, breadths}
use Rattle.topology.specs.Address.{Addr, nth, child, In, sub, Above, addr, num, subtree}
use Rattle.topology.proofs.Numbering.{addr_in, num-addr, num_lt, addr-num}

pub in_front : (t : Topo) (a b : Addr) → In t (a ++ b) → In t a
in_front t [] b i = tt
in_front t (k ∷ a) b (p, l, r) = (p, l, in_front (child t k) a b r)

pub in_below : (t : Topo) (a b : Addr) → In t (a ++ b) → In (sub t a) b
in_below t [] b i = i
in_below t (k ∷ a) b (p, l, r) = in_below (child t k) a b r

pub in_join : (t : Topo) (a b : Addr) → In t a → In (sub t a) b → In t (a ++ b)
in_join t [] b i j = j
in_join t (k ∷ a) b (p, l, r) j = (p, l, in_join (child t k) a b r j)

pub sub-append : (t : Topo) (a b : Addr) → sub t (a ++ b) ≡ sub (sub t a) b
sub-append t [] b = refl
sub-append t (k ∷ a) b = sub-append (child t k) a b

pub num-append : (t : Topo) (a b : Addr) → In t a → num t (a ++ b) ≡ num t a + num (sub t a) b
num-append t [] b i = sym (zero-add (num t b))
num-append t (zero ∷ a) b i = absurd (not-suc-le-zero i.0)
num-append t (suc k ∷ a) b (p, l, r) = omega (arith, num-append (nth (kids t) k) a b r)

-- Node m of the branch under node a is node a + m of the tree.
module _ (t : Topo) (a m : ℕ) (h : a < size t) (g : m < size (subtree t a)) where
  in_sum : In t (addr t a ++ addr (subtree t a) m)
  in_sum = in_join t (addr t a) (addr (subtree t a) m) (addr_in t a h) (addr_in (subtree t a) m g)

  num-sum : num t (addr t a ++ addr (subtree t a) m) ≡ a + m
  num-sum =
      num-append t (addr t a) (addr (subtree t a) m) (addr_in t a h)
      ∙ ap (λ (k : ℕ). k + num (subtree t a) (addr (subtree t a) m)) (num-addr t a h)
      ∙ ap (λ (k : ℕ). a + k) (num-addr (subtree t a) m g)

  pub addr-sum : addr t (a + m) ≡ addr t a ++ addr (subtree t a) m
  addr-sum = ap (λ (k : ℕ). addr t k) (sym num-sum) ∙ addr-num t (addr t a ++ addr (subtree t a) m) in_sum

  pub sum_lt : a + m < size t
  sum_lt = omega (arith, num-sum, num_lt t (addr t a ++ addr (subtree t a) m) in_sum)

  pub subtree-sum : subtree t (a + m) ≡ subtree (subtree t a) m
  subtree-sum = ap (sub t) addr-sum ∙ sub-append t (addr t a) (addr (subtree t a) m)

-- Node a is b or lies above it exactly where b's number is in a's interval.
pub above_from : (t : Topo) (a b : ℕ) → a < size t → b < size t → Above (addr t a) (addr t b) → (a ≤ b) × (b < a + size (subtree t a))
above_from t a b h g (d, e) =
    let i = in_below t (addr t a) d (subst (In t) e (addr_in t b g)) in
    let s : b ≡ num t (addr t a) + num (subtree t a) d =
    sym (num-addr t b g) ∙ ap (num t) e ∙ num-append t (addr t a) d (addr_in t a h) in
    let l = num_lt (subtree t a) d i in
    let n = num-addr t a h in
    omega arith

pub above_to : (t : Topo) (a b : ℕ) → a < size t → a ≤ b → b < a + size (subtree t a) → Above (addr t a) (addr t b)
above_to t a b h l g =
    let s : a + (b - a) ≡ b = omega arith in
    (addr (subtree t a) (b - a), subst (λ (k : ℕ). addr t k ≡ addr t a ++ addr (subtree t a) (b - a)) s (addr-sum t a (b - a) h (omega arith)))

pub size_pos : (t : Topo) → 0 < size t
size_pos (node ts) = zero-lt-suc (sizes ts)

-- a branch ends within the tree
pub subtree_end : (t : Topo) (a : ℕ) → a < size t → a + size (subtree t a) ≤ size t
subtree_end t a h =
    let p = size_pos (subtree t a) in
    omega (arith, sum_lt t a (size (subtree t a) - 1) h (omega arith))

-- two nodes with the same address are equal
pub addr_inj : (t : Topo) (a b : ℕ) → a < size t → b < size t → addr t a ≡ addr t b → a ≡ b
addr_inj t a b h g e = sym (num-addr t a h) ∙ ap (num t) e ∙ num-addr t b g

-- a child's branch is lower than the tree, and no broader; a node's depth and number of children are within the tree's
pub nth_height : (ts : Forest) (k : ℕ) → k < count ts → height (nth ts k) < heights ts
nth_height fnil k h = absurd (not-suc-le-zero h)
nth_height (fcons t ts) zero h = omega arith
nth_height (fcons t ts) (suc k) h = omega (arith, nth_height ts k (le_of_suc-le-suc h))

nth_breadth : (ts : Forest) (k : ℕ) → k < count ts → breadth (nth ts k) ≤ breadths ts
nth_breadth fnil k h = absurd (not-suc-le-zero h)
nth_breadth (fcons t ts) zero h = omega arith
nth_breadth (fcons t ts) (suc k) h = omega (arith, nth_breadth ts k (le_of_suc-le-suc h))

pub in_height : (t : Topo) (a : Addr) → In t a → length a ≤ height t
in_height t [] i = zero-le
in_height t (zero ∷ a) i = absurd (not-suc-le-zero i.0)
in_height (node ts) (suc k ∷ a) (p, l, r) = omega (arith, in_height (nth ts k) a r, nth_height ts k l)

pub in_breadth : (t : Topo) (a : Addr) → In t a → width (sub t a) ≤ breadth t
in_breadth (node ts) [] i = omega arith
in_breadth t (zero ∷ a) i = absurd (not-suc-le-zero i.0)
in_breadth (node ts) (suc k ∷ a) (p, l, r) = omega (arith, in_breadth (nth ts k) a r, nth_breadth ts k l)

-- The children of a node, by number: the first comes right after the node, and each next one where the branch of the child before it ends. Each node
-- except the root is the child of one node, its parent; the nodes strictly above it are its parent and the nodes above the parent.
use mathlib.Core.Path.{◌≡◌, refl, sym, ap, ◌∙◌, subst}
use mathlib.Core.Logic.{◌≢◌}
use Prim.Native.Nat.{ℕ, zero, suc, ◌+◌, ◌≤◌, ◌<◌}
use native.Mathlib.Nat.{not-suc-le-zero, le_of_suc-le-suc}
use native.Mathlib.Omega.{arith}
use mathlib.Core.List.{[], ◌∷◌, ◌++◌, append_assoc, append-nil}
use lib.ListN.{length, drop, length-append}
use lib.Seq.{drop-length, drop-append_seam}
use Rattle.std.proofs.lemmas.List.{same_from_push}
use Rattle.base.proofs.Last.{split_last}
use Rattle.topology.specs.Tree.{Topo, Forest, fnil, fcons, count, kids, width, size}
use Rattle.topology.specs.Address.{Addr, nth, child, In, sub, Above, addr, ahead, num, subtree, child_of, depth, route}
use Rattle.topology.proofs.Numbering.{addr_in, num-addr, num_lt, addr-num}
use Rattle.topology.proofs.Ancestry.{in_front, in_below, in_join, sub-append, num-append, above_from, above_to, addr_inj}

-- Child i of node n exists.
abbrev pub HasChild : Topo → ℕ → ℕ → Type 0
HasChild t n i = (n < size t) × (0 < i) × (i ≤ width (subtree t n))

module _ (t : Topo) (n i : ℕ) (h : HasChild t n i) where
  in_child : In t (addr t n ++ (i ∷ []))
  in_child = in_join t (addr t n) (i ∷ []) (addr_in t n h.0) (h.1, h.2, tt)

  pub child_of_lt : child_of t n i < size t
  unfolding child_of
  child_of_lt = num_lt t (addr t n ++ (i ∷ [])) in_child

  pub addr-child_of : addr t (child_of t n i) ≡ addr t n ++ (i ∷ [])
  unfolding child_of
  addr-child_of = addr-num t (addr t n ++ (i ∷ [])) in_child

  pub subtree-child_of : subtree t (child_of t n i) ≡ child (subtree t n) i
  subtree-child_of = ap (sub t) addr-child_of ∙ sub-append t (addr t n) (i ∷ [])

  pub depth-child_of : depth t (child_of t n i) ≡ suc (depth t n)
  depth-child_of = omega (arith, ap length addr-child_of, length-append (addr t n) (i ∷ []))

-- the number of child i + 1: the node's number, plus one, plus the nodes of the children before it
pub child_of_ahead : (t : Topo) (n i : ℕ) → n < size t → child_of t n (suc i) ≡ suc (n + ahead (kids (subtree t n)) i)
unfolding child_of
child_of_ahead t n i h =
    let e = num-append t (addr t n) (suc i ∷ []) (addr_in t n h) in
    let m = num-addr t n h in
    omega arith

pub child_of_after : (t : Topo) (n i : ℕ) → HasChild t n i → n < child_of t n i
child_of_after t n zero h = absurd (not-suc-le-zero h.1)
child_of_after t n (suc i) h = omega (arith, child_of_ahead t n i h.0)

ahead_zero : (ts : Forest) → ahead ts 0 ≡ 0
ahead_zero fnil = refl
ahead_zero (fcons t ts) = refl

ahead_suc : (ts : Forest) (i : ℕ) → i < count ts → ahead ts (suc i) ≡ ahead ts i + size (nth ts i)
ahead_suc fnil i h = absurd (not-suc-le-zero h)
ahead_suc (fcons t ts) zero h = omega (arith, ahead_zero ts)
ahead_suc (fcons t ts) (suc i) h = omega (arith, ahead_suc ts i (le_of_suc-le-suc h))

pub child_of_first : (t : Topo) (n : ℕ) → n < size t → child_of t n 1 ≡ suc n
child_of_first t n h = omega (arith, child_of_ahead t n 0 h, ahead_zero (kids (subtree t n)))

pub child_of_next : (t : Topo) (n i : ℕ) → HasChild t n i → child_of t n (suc i) ≡ child_of t n i + size (child (subtree t n) i)
child_of_next t n zero h = absurd (not-suc-le-zero h.1)
child_of_next t n (suc i) h =
    omega (arith, child_of_ahead t n (suc i) h.0, child_of_ahead t n i h.0, ahead_suc (kids (subtree t n)) i h.2)

-- a child lies in its parent's branch
pub child-within : (t : Topo) (n i : ℕ) → HasChild t n i → child_of t n i < n + size (subtree t n)
child-within t n i h = (above_from t n (child_of t n i) h.0 (child_of_lt t n i h) (i ∷ [], addr-child_of t n i h)).1

-- a node strictly above another has a child that is the other or lies above it
pub child-toward : (t : Topo) (x y : ℕ) → x < size t → y < size t → Above (addr t x) (addr t y) → x ≢ y
    → (j : ℕ) × HasChild t x j × Above (addr t (child_of t x j)) (addr t y)
child-toward t x y h g ([], e) n = absurd (n (addr_inj t x y h g (sym (e ∙ append-nil (addr t x)))))
child-toward t x y h g (j ∷ d, e) n =
    let i = in_below t (addr t x) (j ∷ d) (subst (In t) e (addr_in t y g)) in
    let has : HasChild t x j = (h, i.0, i.1) in
    (j, has, (d, e ∙ sym (append_assoc (addr t x) (j ∷ []) d) ∙ ap (λ (a : Addr). a ++ d) (sym (addr-child_of t x j has))))

-- a node's parent, and which of its children the node is
pub record Parent (t : Topo) (n : ℕ) : Type 0 where
  pub node : ℕ
  pub index : ℕ
  pub has : HasChild t node index
  pub child : child_of t node index ≡ n

pub parent : (t : Topo) (n : ℕ) → 0 < n → n < size t → Parent t n
unfolding child_of
parent t n p h = by_address (addr t n) refl
  where
    by_address : (a : Addr) → addr t n ≡ a → Parent t n
    by_address [] e = absurd (omega (arith, num-addr t n h, ap (num t) e))
    by_address (k ∷ a) e =
        let s = split_last k a in
        let there = e ∙ s.2 in
        let i = subst (In t) there (addr_in t n h) in
        let up = in_front t s.0 (s.1 ∷ []) i in
        let back = addr-num t s.0 up in
        let under : In (subtree t (num t s.0)) (s.1 ∷ []) =
        subst (λ (b : Addr). In (sub t b) (s.1 ∷ [])) (sym back) (in_below t s.0 (s.1 ∷ []) i) in
        let has : HasChild t (num t s.0) s.1 = (num_lt t s.0 up, under.0, under.1) in
        let is : child_of t (num t s.0) s.1 ≡ n =
        ap (λ (b : Addr). num t (b ++ (s.1 ∷ []))) back ∙ ap (num t) (sym there) ∙ num-addr t n h in
        record { node = num t s.0; index = s.1; has = has; child = is }

pub parent_unique : (t : Topo) (n i m j : ℕ) → HasChild t n i → HasChild t m j → child_of t n i ≡ child_of t m j → (n ≡ m) × (i ≡ j)
parent_unique t n i m j h g e =
    let r = same_from_push (addr t n) (addr t m) i j (sym (addr-child_of t n i h) ∙ ap (addr t) e ∙ addr-child_of t m j g) in
    (addr_inj t n m h.0 g.0 r.0, r.1)

-- a node's address is its parent's address followed by the child number
pub addr-under : (t : Topo) (n : ℕ) (p : Parent t n) → addr t n ≡ addr t p.node ++ (p.index ∷ [])
addr-under t n p = ap (addr t) (sym p.child) ∙ addr-child_of t p.node p.index p.has

-- a node strictly above another is its parent or lies above the parent
pub above_parent : (t : Topo) (a n : ℕ) → a < n → n < size t → n < a + size (subtree t a) → (p : Parent t n)
    → (a ≤ p.node) × (p.node < a + size (subtree t a))
above_parent t a n l h g p =
    let a_in : a < size t = omega arith in
    above_from t a p.node a_in p.has.0 (by_rest (above_to t a n a_in (omega arith) g))
  where
    by_rest : Above (addr t a) (addr t n) → Above (addr t a) (addr t p.node)
    by_rest ([], e) = absurd (omega (arith, addr_inj t n a h (omega arith) (e ∙ append-nil (addr t a))))
    by_rest (k ∷ d, e) =
        let s = split_last k d in
        let front : (addr t a ++ s.0) ++ (s.1 ∷ []) ≡ addr t p.node ++ (p.index ∷ []) =
        append_assoc (addr t a) s.0 (s.1 ∷ []) ∙ ap (λ (r : Addr). addr t a ++ r) (sym s.2) ∙ sym e ∙ addr-under t n p in
        (s.0, sym (same_from_push (addr t a ++ s.0) (addr t p.node) s.1 p.index front).0)

-- ---- the way down from one node to another

-- The way from a node to itself has no step.
pub route_self : (t : Topo) (x : ℕ) → route t x x ≡ []
route_self t x = drop-length (addr t x)

-- The way down goes first to the child that is its end or lies above the end.
pub route_step : (t : Topo) (x y j : ℕ) → HasChild t x j → Above (addr t (child_of t x j)) (addr t y) → route t x y ≡ j ∷ route t (child_of t x j) y
route_step t x y j h (d, e) =
    let c = addr-child_of t x j h in
    let way : addr t y ≡ addr t x ++ (j ∷ d) = e ∙ ap (λ (a : Addr). a ++ d) c ∙ append_assoc (addr t x) (j ∷ []) d in
    ap (drop (depth t x)) way
    ∙ drop-append_seam (addr t x) (j ∷ d)
    ∙ ap (λ (a : Addr). j ∷ a) (sym (ap (drop (depth t (child_of t x j))) e ∙ drop-append_seam (addr t (child_of t x j)) d))

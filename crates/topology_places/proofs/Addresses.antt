-- Depth, parent and child number, which are computed from the bytes by counting, are those of the tree that the bytes draw. A node's depth is the
-- number of steps of its address (`depth_is`); its address is its parent's followed by its child number (`address_is`); and that child of the parent
-- is the node (`child_is`). On the parent's trunk the node comes after its elder sibling, or after the parent (`trunk_is`). So a drawing that gives
-- each node a column by its depth and an edge down its parent's trunk, with its child number at it, shows the tree.
--
-- The laws are proved for the code of any tree, and then for bytes without fault. The nodes strictly above a node are its parent and the nodes above
-- the parent, and no node with a number between the parent's and the node's lies above the node. So the parent is the last node that passes the test
-- for depth, and one node more is counted than for the parent. Of the nodes behind a node n the i-th whose parent is n is child i: each node between
-- two children of n lies below the earlier one, so that its parent is that child or lies below it.
use mathlib.Core.Path.{◌≡◌, refl, sym, ap, ◌∙◌, subst}
use Prim.Native.Nat.{ℕ, zero, suc, ◌+◌, ◌-◌, ◌≤◌, ◌<◌}
use native.Mathlib.Nat.{not-suc-le-zero}
use native.Mathlib.Numerals.{add-one}
use native.Mathlib.Omega.{arith}
use mathlib.Core.Bool.{Bool, true, false, cond}
use mathlib.Core.List.{List, [], ◌∷◌, ◌++◌, append_assoc, append-nil}
use lib.ListN.{length, length-append}
use lib.Dec.{eqb}
use borrow.Author.Tests.{eq-eqb, ne_eqb}
use Rattle.std.specs.Cmp.{both_ways}
use Rattle.std.proofs.lemmas.Bool.{or_right}
use Rattle.base.proofs.Tests.{refuted}
use Rattle.topology.specs.Tree.{Topo, size, code}
use Rattle.topology.specs.Address.{Addr, Above, addr, subtree, child_of}
use Rattle.topology.specs.Reader.{fault, tree}
use Rattle.topology.specs.Branch.{is_above}
use Rattle.topology.proofs.Numbering.{addr_root, addr_in}
use Rattle.topology.proofs.Ancestry.{above_from, above_to, size_pos, subtree_end, in_height}
use Rattle.topology.proofs.Children.{HasChild, child_of_lt, child_of_after, child_of_first, child_of_next, subtree-child_of}
use Rattle.topology.proofs.Children.{Parent, parent as parent_of, addr-under, above_parent}
use Rattle.topology.proofs.Lookup.{above_code, code_above, valid_size}
use Rattle.topology.proofs.Reader.{drawn, within}
use Rattle.topology_places.specs.Places.{counted, last_of, depth, parent, child_number, on_trunk, trunk_from}
use Rattle.topology_places.proofs.Passes.{counted_same, counted-still, counted_next, last_is}

-- the node before child i of node n on n's trunk: child i - 1, or n for the first child
abbrev pub elder : Topo → ℕ → ℕ → ℕ
elder t n zero = n
elder t n (suc zero) = n
elder t n (suc (suc i)) = child_of t n (suc i)

-- ---- the code of a tree

module _ (t : Topo) where
  -- a node and its parent
  module _ (k : ℕ) (h : k < size t) (p : Parent t k) where
    parent_before : p.node < k
    parent_before = subst (λ (m : ℕ). p.node < m) p.child (child_of_after t p.node p.index p.has)

    -- a node before it and above it is the parent or lies above the parent: by number, and by the test
    above-number : (a : ℕ) → a < k → is_above (code t) a k ≡ true → (a ≤ p.node) × (p.node < a + size (subtree t a))
    above-number a l e =
        let in_tree : a < size t = omega arith in
        above_parent t a k l h (above_from t a k in_tree h (code_above t a k in_tree e)).1 p

    above_up : (a : ℕ) → a < p.node → is_above (code t) a k ≡ true → is_above (code t) a p.node ≡ true
    above_up a l e =
        let in_tree : a < size t = omega (arith, p.has.0) in
        let u = above-number a (omega (arith, parent_before)) e in
        above_code t a p.node in_tree p.has.0 (above_to t a p.node in_tree u.0 u.1)

    above_down : (a : ℕ) → a < size t → Above (addr t a) (addr t p.node) → is_above (code t) a k ≡ true
    above_down a l (d, e) =
        above_code t a k l h
        (d ++ (p.index ∷ []), addr-under t k p ∙ ap (λ (b : Addr). b ++ (p.index ∷ [])) e ∙ append_assoc (addr t a) d (p.index ∷ []))

    parent_above : is_above (code t) p.node k ≡ true
    parent_above = above_down p.node p.has.0 ([], sym (append-nil (addr t p.node)))

    -- no node with a number between the two lies above the node
    not_between : (a : ℕ) → p.node < a → a < k → is_above (code t) a k ≡ false
    not_between a l g = sym (refuted (is_above (code t) a k) (λ e. omega (arith, (above-number a g e).0)))

    parent_code : parent (code t) k ≡ p.node
    unfolding parent
    parent_code = last_is (λ a. is_above (code t) a k) p.node k parent_before parent_above not_between

    depth_next : depth (code t) k ≡ suc (depth (code t) p.node)
    unfolding depth
    depth_next =
        let test : ℕ → Bool = λ a. is_above (code t) a k in
        let upper : ℕ → Bool = λ a. is_above (code t) a p.node in
        let one_more : counted test k ≡ counted test p.node + cond (test p.node) 1 0 =
        counted-still test (suc p.node) k parent_before not_between in
        let alike : (a : ℕ) → a < p.node → test a ≡ upper a =
        λ a l. let in_tree : a < size t = omega (arith, p.has.0) in
        both_ways (test a) (upper a) (above_up a l) (λ e. above_down a in_tree (code_above t a p.node in_tree e)) in
        one_more
        ∙ ap (λ (b : Bool). counted test p.node + cond b 1 0) parent_above
        ∙ add-one (counted test p.node)
        ∙ ap suc (counted_same test upper p.node alike)

  pub depth_code : (k : ℕ) → k < size t → depth (code t) k ≡ length (addr t k)
  unfolding depth
  depth_code k h = up_to (suc k) k (omega arith) h
    where
      by_parent : (k : ℕ) → k < size t → (p : Parent t k) → depth (code t) p.node ≡ length (addr t p.node)
          → depth (code t) k ≡ length (addr t k)
      by_parent k h p r =
          omega (arith, depth_next k h p, r, ap length (addr-under t k p), length-append (addr t p.node) (p.index ∷ []))

      up_to : (fuel k : ℕ) → k < fuel → k < size t → depth (code t) k ≡ length (addr t k)
      up_to zero k f h = absurd (not-suc-le-zero f)
      up_to (suc fuel) zero f h = sym (ap length (addr_root t))
      up_to (suc fuel) (suc k) f h =
          let p = parent_of t (suc k) (omega arith) h in
          by_parent (suc k) h p (up_to fuel p.node (omega (arith, parent_before (suc k) h p)) p.has.0)

  -- the children of a node n, counted as the nodes with that parent; node j + 1 is tested at j
  module _ (n : ℕ) (in_tree : n < size t) where
    abbrev under : ℕ → Bool
    under j = eqb (parent (code t) (j + 1)) n

    under-child : (i j : ℕ) → HasChild t n i → child_of t n i ≡ suc j → under j ≡ true
    under-child i j h e =
        let p : Parent t (suc j) = record { node = n; index = i; has = h; child = e } in
        rw add-one (eq-eqb (parent (code t) (suc j)) n (parent_code (suc j) (subst (λ (m : ℕ). m < size t) e (child_of_lt t n i h)) p))

    under_other : (j : ℕ) (h : suc j < size t) → ((p : Parent t (suc j)) → p.node ≡ n → ⊥) → under j ≡ false
    under_other j h other =
        let p = parent_of t (suc j) (omega arith) h in
        rw add-one (ne_eqb (parent (code t) (suc j)) n (λ e. other p (sym (parent_code (suc j) h p) ∙ e)))

    -- the nodes up to n have parents before n
    early : (j : ℕ) → j < n → under j ≡ false
    early j l =
        let h : suc j < size t = omega arith in
        under_other j h (λ p e. omega (arith, parent_before (suc j) h p, e))

    -- the nodes strictly below a child of n have parents from that child on
    below-child : (i : ℕ) → HasChild t n i → (j : ℕ) → child_of t n i ≤ j → suc j < child_of t n i + size (subtree t (child_of t n i))
        → under j ≡ false
    below-child i h j l g =
        let low : child_of t n i < suc j = omega arith in
        let in_branch_lem : suc j < size t = omega (arith, subtree_end t (child_of t n i) (child_of_lt t n i h)) in
        under_other j in_branch_lem
        (λ p e. omega (arith, (above_parent t (child_of t n i) (suc j) low in_branch_lem g p).0, child_of_after t n i h, e))

    -- up to child i, i nodes have the parent n
    counted_children : (i : ℕ) → HasChild t n i → counted under (child_of t n i) ≡ i
    counted_children zero h = absurd (not-suc-le-zero h.1)
    counted_children (suc zero) h =
        ap (counted under) (child_of_first t n in_tree)
        ∙ counted_next under 0 n (omega arith) (under-child 1 n h (child_of_first t n in_tree)) (λ j l g. early j g)
    counted_children (suc (suc i)) h =
        let elder : HasChild t n (suc i) = (in_tree, omega arith, omega (arith, h.2)) in
        let c = child_of t n (suc i) in
        let last = c + size (subtree t c) - 1 in
        let some = size_pos (subtree t c) in
        let next : child_of t n (suc (suc i)) ≡ suc last =
        omega (arith, child_of_next t n (suc i) elder, ap size (subtree-child_of t n (suc i) elder)) in
        ap (counted under) next
        ∙ counted_next under c last (omega arith) (under-child (suc (suc i)) last h next)
        (λ j l g. below-child (suc i) elder j l (omega (arith, g)))
        ∙ ap suc (counted_children (suc i) elder)

    -- the nodes strictly below a child of n are not on n's trunk
    off_trunk : (i : ℕ) (h : HasChild t n i) (a : ℕ) → child_of t n i < a → a < child_of t n i + size (subtree t (child_of t n i))
        → on_trunk (code t) n a ≡ false
    off_trunk i h zero l g = absurd (not-suc-le-zero l)
    off_trunk i h (suc j) l g =
        let other : eqb (parent (code t) (suc j)) n ≡ false = rw (add-one j) at (below-child i h j (omega arith) g) in
        rw (ne_eqb (suc j) n (λ e. omega (arith, e, child_of_after t n i h)), other)

    -- before child i on n's trunk stands its elder sibling, or n
    trunk_after : (i : ℕ) → HasChild t n (suc (suc i)) → last_of (on_trunk (code t) n) (child_of t n (suc (suc i))) ≡ child_of t n (suc i)
    trunk_after i h =
        let elder : HasChild t n (suc i) = (in_tree, omega arith, omega (arith, h.2)) in
        let c = child_of t n (suc i) in
        let below : Parent t c = record { node = n; index = suc i; has = elder; child = refl } in
        let up = parent_code c (child_of_lt t n (suc i) elder) below in
        let next : child_of t n (suc (suc i)) ≡ c + size (subtree t c) =
        omega (arith, child_of_next t n (suc i) elder, ap size (subtree-child_of t n (suc i) elder)) in
        let after = child_of_after t n (suc i) elder in
        let on : on_trunk (code t) n c ≡ true = or_right (eqb c n) (eqb (parent (code t) c) n) (eq-eqb (parent (code t) c) n up) in
        last_is (on_trunk (code t) n) c (child_of t n (suc (suc i))) (omega (arith, next, size_pos (subtree t c))) on
        (λ a l g. off_trunk (suc i) elder a l (omega (arith, g, next)))

    trunk_first : HasChild t n 1 → last_of (on_trunk (code t) n) (child_of t n 1) ≡ n
    trunk_first h =
        last_is (on_trunk (code t) n) n (child_of t n 1) (child_of_after t n 1 h) (rw (eq-eqb n n refl))
        (λ a l g. absurd (omega (arith, child_of_first t n in_tree)))

    trunk_children : (i : ℕ) → HasChild t n i → last_of (on_trunk (code t) n) (child_of t n i) ≡ elder t n i
    trunk_children zero h = absurd (not-suc-le-zero h.1)
    trunk_children (suc zero) h = trunk_first h
    trunk_children (suc (suc i)) h = trunk_after i h

  number_code : (k : ℕ) → k < size t → (p : Parent t k) → child_number (code t) k ≡ p.index
  unfolding child_number
  number_code k h p =
      rw (parent_code k h p)
      (ap (counted (λ j. eqb (parent (code t) (j + 1)) p.node)) (sym p.child) ∙ counted_children p.node p.has.0 p.index p.has)

  trunk_code : (k : ℕ) → k < size t → (p : Parent t k) → trunk_from (code t) k ≡ elder t p.node p.index
  unfolding trunk_from
  trunk_code k h p =
      rw (parent_code k h p)
      (ap (last_of (on_trunk (code t) p.node)) (sym p.child) ∙ trunk_children p.node p.has.0 p.index p.has)

-- ---- bytes without fault

module _ (limit : ℕ) (bytes : List ℕ) (e : fault limit bytes ≡ 0) (k : ℕ) (h : k < length bytes) where
  in_tree : k < size (tree bytes)
  in_tree = omega (arith, valid_size limit bytes e)

  -- A node's column in a drawing is its depth: the number of steps of its address.
  pub depth_is : depth bytes k ≡ length (addr (tree bytes) k)
  depth_is = rw (drawn limit bytes e) at (depth_code (tree bytes) k in_tree)

  -- so a node of a tree lies at most 8 steps down
  pub depth_limit : depth bytes k ≤ 8
  depth_limit =
      omega (arith, depth_is, in_height (tree bytes) (addr (tree bytes) k) (addr_in (tree bytes) k in_tree), (within limit bytes e).steps)

  -- the parent and the child number of the bytes have the properties of the tree's
  module _ (below : 0 < k) where
    by_parent : (P : ℕ → ℕ → Type 0) → ((p : Parent (tree bytes) k) → P p.node p.index) → P (parent bytes k) (child_number bytes k)
    by_parent P f =
        let p = parent_of (tree bytes) k below in_tree in
        let up : parent bytes k ≡ p.node = rw (drawn limit bytes e) at (parent_code (tree bytes) k in_tree p) in
        let number : child_number bytes k ≡ p.index = rw (drawn limit bytes e) at (number_code (tree bytes) k in_tree p) in
        rw (up, number) (f p)

    -- The edge to a node in a drawing comes from the node's parent, and the number at it is the node's child number: the address of the node is its
    -- parent's followed by the child number, and the parent's child of that number is the node.
    pub address_is : addr (tree bytes) k ≡ addr (tree bytes) (parent bytes k) ++ (child_number bytes k ∷ [])
    address_is = by_parent (λ n i. addr (tree bytes) k ≡ addr (tree bytes) n ++ (i ∷ [])) (addr-under (tree bytes) k)

    pub child_is : child_of (tree bytes) (parent bytes k) (child_number bytes k) ≡ k
    child_is = by_parent (λ n i. child_of (tree bytes) n i ≡ k) (λ p. p.child)

    -- The piece of the parent's trunk to a node begins at the node's elder sibling, or at the parent for child 1.
    pub trunk_is : trunk_from bytes k ≡ elder (tree bytes) (parent bytes k) (child_number bytes k)
    trunk_is =
        by_parent (λ n i. trunk_from bytes k ≡ elder (tree bytes) n i) (λ p. rw (drawn limit bytes e) at (trunk_code (tree bytes) k in_tree p))

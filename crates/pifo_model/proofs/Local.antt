-- The test of a tree by node number: a tree with the given queues is well formed exactly where each node is well formed by itself, that is, the ranks
-- in its queue never fall, it may hold its items, and each child occurs in the queue as often as the child's own queue has entries.
use mathlib.Core.Path.{◌≡◌, refl, sym, ap, ◌∙◌, subst, subst₂}
use Prim.Native.Nat.{ℕ, zero, suc, ◌+◌, ◌<◌}
use native.Mathlib.Nat.{add-zero, not-suc-le-zero, le_of_suc-le-suc}
use native.Mathlib.Omega.{arith}
use mathlib.Core.List.{List}
use mathlib.Core.Bool.{true, ◌&&◌}
use lib.ListN.{length}
use lib.Dec.{eqb}
use borrow.Author.Tests.{eqb-true, eq-eqb}
use Rattle.std.proofs.lemmas.Bool.{and_parts}
use Rattle.base.proofs.Tests.{and_both}
use Rattle.topology.specs.Tree.{Topo, Forest, node, fnil, fcons, count, kids, width, size, sizes}
use Rattle.topology.specs.Address.{Addr, nth, ahead, sub, subtree, child_of}
use Rattle.topology.proofs.Numbering.{ahead_lt, addr-child, addr_root, node_ind}
use Rattle.topology.proofs.Ancestry.{size_pos}
use Rattle.topology.proofs.Children.{child_of_ahead}
use Rattle.pifo_model.specs.Queue.{Entry, rises_from, allowed, every, occurs}
use Rattle.pifo_model.specs.Tree.{shapes, well}
use Rattle.pifo_model.specs.InnerNumbered.{kid_at}
use Rattle.pifo_model.proofs.Well.{root_queue, matched, local, locals, local_well, well_local}
use Rattle.pifo_model.proofs.Numbered.{shapes_assemble}
use Rattle.pifo_model.specs.Assembled.{Queues, assemble, assemble_all}

-- ---- the number of a node in the tree and in its child's branch

kid_root : (t : Topo) (k i : ℕ) → k + child_of t 0 (suc i) ≡ kid_at t k i
kid_root t k i = omega (arith, child_of_ahead t 0 i (size_pos t), ap (λ (a : Addr). ahead (kids (sub t a)) i) (addr_root t))

-- node m of child i + 1's branch, as a node of the tree
module _ (t : Topo) (k i m : ℕ) (h : i < width t) (g : m < size (nth (kids t) i)) where
  inner_lt : suc (ahead (kids t) i + m) < size t
  inner_lt = omega (arith, ahead_lt (kids t) i m h g, size_kids t)
    where
      size_kids : (t : Topo) → size t ≡ suc (sizes (kids t))
      size_kids (node ts) = refl

  inner_tree : subtree t (suc (ahead (kids t) i + m)) ≡ subtree (nth (kids t) i) m
  inner_tree = ap (sub t) (addr-child t i m h g)

  inner_at : k + suc (ahead (kids t) i + m) ≡ kid_at t k i + m
  inner_at = omega arith

  inner_kid : (j : ℕ) → k + child_of t (suc (ahead (kids t) i + m)) (suc j) ≡ kid_at t k i + child_of (nth (kids t) i) m (suc j)
  inner_kid j =
      omega (
        arith,
        child_of_ahead t (suc (ahead (kids t) i + m)) j inner_lt,
        child_of_ahead (nth (kids t) i) m j g,
        ap (λ (s : Topo). ahead (kids s) j) inner_tree,
      )

module _ {P : Type 0} where
  -- node m, with w children whose numbers kid gives, is well formed by itself
  pub record LocalAt (q : Queues P) (w m : ℕ) (kid : ℕ → ℕ) : Type 0 where
    pub rises : rises_from 0 (q m) ≡ true
    pub own : every (allowed w) (q m) ≡ true
    pub counts : (i : ℕ) → i < w → occurs (suc i) (q m) ≡ length (q (kid i))

  -- every node of t, whose root is node k, is well formed by itself
  abbrev pub AllLocal : Topo → Queues P → ℕ → Type 0
  AllLocal t q k = (m : ℕ) → m < size t → LocalAt q (width (subtree t m)) (k + m) (λ i. k + child_of t m (suc i))

  -- ---- the trees of a forest, one by one

  root_assemble : (t : Topo) (q : Queues P) (k : ℕ) → root_queue (assemble t q k) ≡ q k
  root_assemble (node ts) q k = refl

  matched_each : (ts : Forest) (s : List (Entry P)) (q : Queues P) (j k : ℕ) → ((i : ℕ) → i < count ts → occurs (j + i) s ≡ length (q (k + ahead ts i)))
      → matched s j (assemble_all ts q k) ≡ true
  matched_each fnil s q j k e = refl
  matched_each (fcons t ts) s q j k e =
      and_both
      (eq-eqb (occurs j s) (length (root_queue (assemble t q k)))
      (ap (λ (n : ℕ). occurs n s) (sym (add-zero j)) ∙ e 0 (omega arith) ∙ ap (λ (n : ℕ). length (q n)) (add-zero k) ∙ sym (ap length (root_assemble t q k))))
      (matched_each ts s q (suc j) (k + size t)
      (λ i h.
      let a : suc j + i ≡ j + suc i = omega arith in
      let b : k + (size t + ahead ts i) ≡ k + size t + ahead ts i = omega arith in
      ap (λ (n : ℕ). occurs n s) a ∙ e (suc i) (omega arith) ∙ ap (λ (n : ℕ). length (q n)) b))

  each_matched : (ts : Forest) (s : List (Entry P)) (q : Queues P) (j k : ℕ) → matched s j (assemble_all ts q k) ≡ true
      → (i : ℕ) → i < count ts → occurs (j + i) s ≡ length (q (k + ahead ts i))
  each_matched fnil s q j k e i h = absurd (not-suc-le-zero h)
  each_matched (fcons t ts) s q j k e zero h =
      let m = and_parts (eqb (occurs j s) (length (root_queue (assemble t q k)))) (matched s (suc j) (assemble_all ts q (k + size t))) e in
      ap (λ (n : ℕ). occurs n s) (add-zero j) ∙ eqb-true (occurs j s) (length (root_queue (assemble t q k))) m.0
      ∙ ap length (root_assemble t q k) ∙ ap (λ (n : ℕ). length (q n)) (sym (add-zero k))
  each_matched (fcons t ts) s q j k e (suc i) h =
      let m = and_parts (eqb (occurs j s) (length (root_queue (assemble t q k)))) (matched s (suc j) (assemble_all ts q (k + size t))) e in
      let a : j + suc i ≡ suc j + i = omega arith in
      let b : k + size t + ahead ts i ≡ k + (size t + ahead ts i) = omega arith in
      ap (λ (n : ℕ). occurs n s) a ∙ each_matched ts s q (suc j) (k + size t) m.1 i (le_of_suc-le-suc h) ∙ ap (λ (n : ℕ). length (q n)) b

  locals_each : (ts : Forest) (q : Queues P) (k : ℕ) → ((i : ℕ) → i < count ts → local (assemble (nth ts i) q (k + ahead ts i)) ≡ true)
      → locals (assemble_all ts q k) ≡ true
  locals_each fnil q k e = refl
  locals_each (fcons t ts) q k e =
      and_both
      (subst (λ (n : ℕ). local (assemble t q n) ≡ true) (add-zero k) (e 0 (omega arith)))
      (locals_each ts q (k + size t)
      (λ i h.
      let b : k + (size t + ahead ts i) ≡ k + size t + ahead ts i = omega arith in
      subst (λ (n : ℕ). local (assemble (nth ts i) q n) ≡ true) b (e (suc i) (omega arith))))

  each_locals : (ts : Forest) (q : Queues P) (k : ℕ) → locals (assemble_all ts q k) ≡ true → (i : ℕ) → i < count ts → local (assemble (nth ts i) q (k + ahead ts i)) ≡ true
  each_locals fnil q k e i h = absurd (not-suc-le-zero h)
  each_locals (fcons t ts) q k e zero h =
      let l = and_parts (local (assemble t q k)) (locals (assemble_all ts q (k + size t))) e in
      subst (λ (n : ℕ). local (assemble t q n) ≡ true) (sym (add-zero k)) l.0
  each_locals (fcons t ts) q k e (suc i) h =
      let l = and_parts (local (assemble t q k)) (locals (assemble_all ts q (k + size t))) e in
      let b : k + size t + ahead ts i ≡ k + (size t + ahead ts i) = omega arith in
      subst (λ (n : ℕ). local (assemble (nth ts i) q n) ≡ true) b (each_locals ts q (k + size t) l.1 i (le_of_suc-le-suc h))

  -- ---- equal numbers

  same_at : (q : Queues P) (w v m n : ℕ) (kid lid : ℕ → ℕ) → w ≡ v → m ≡ n → ((i : ℕ) → kid i ≡ lid i) → LocalAt q w m kid → LocalAt q v n lid
  same_at q w v m n kid lid a b c l =
      record {
        rises = subst (λ (x : ℕ). rises_from 0 (q x) ≡ true) b l.rises;
        own = subst₂ (λ (x y : ℕ). every (allowed x) (q y) ≡ true) a b l.own;
        counts = λ i h. ap (λ (x : ℕ). occurs (suc i) (q x)) (sym b) ∙ l.counts i (omega arith) ∙ ap (λ (x : ℕ). length (q x)) (c i);
      }

  -- ---- both directions

  child_local : (t : Topo) (q : Queues P) (k i : ℕ) → i < width t → AllLocal t q k → AllLocal (nth (kids t) i) q (kid_at t k i)
  child_local t q k i h a m g =
      same_at q _ _ _ _ _ _ (ap width (inner_tree t k i m h g)) (inner_at t k i m h g) (inner_kid t k i m h g) (a (suc (ahead (kids t) i + m)) (inner_lt t k i m h g))

  from_parts : (ts : Forest) (q : Queues P) (k : ℕ) → LocalAt q (count ts) k (λ i. kid_at (node ts) k i)
      → ((i : ℕ) → i < count ts → local (assemble (nth ts i) q (suc k + ahead ts i)) ≡ true) → local (assemble (node ts) q k) ≡ true
  from_parts ts q k l e =
      rw (shapes_assemble ts q (suc k))
      (and_both
      (and_both (and_both l.rises l.own)
      (matched_each ts (q k) q 1 (suc k)
      (λ i h.
      let a : 1 + i ≡ suc i = omega arith in
      let b : suc (k + ahead ts i) ≡ suc k + ahead ts i = omega arith in
      ap (λ (n : ℕ). occurs n (q k)) a ∙ l.counts i h ∙ ap (λ (n : ℕ). length (q n)) b)))
      (locals_each ts q (suc k) e))

  to_parts : (ts : Forest) (q : Queues P) (k : ℕ) → local (assemble (node ts) q k) ≡ true
      → LocalAt q (count ts) k (λ i. kid_at (node ts) k i) × ((i : ℕ) → i < count ts → local (assemble (nth ts i) q (suc k + ahead ts i)) ≡ true)
  to_parts ts q k e =
      let f = assemble_all ts q (suc k) in
      let a = and_parts (rises_from 0 (q k) && every (allowed (count (shapes f))) (q k) && matched (q k) 1 f) (locals f) e in
      let b = and_parts (rises_from 0 (q k) && every (allowed (count (shapes f))) (q k)) (matched (q k) 1 f) a.0 in
      let c = and_parts (rises_from 0 (q k)) (every (allowed (count (shapes f))) (q k)) b.0 in (
        record {
          rises = c.0;
          own = rw (shapes_assemble ts q (suc k)) at c.1;
          counts = λ i h.
              let m : suc i ≡ 1 + i = omega arith in
              let n : suc k + ahead ts i ≡ suc (k + ahead ts i) = omega arith in
              ap (λ (j : ℕ). occurs j (q k)) m ∙ each_matched ts (q k) q 1 (suc k) b.1 i h ∙ ap (λ (j : ℕ). length (q j)) n;
        },
        each_locals ts q (suc k) a.1,
      )

  mutual
    all_local : (t : Topo) (q : Queues P) (k : ℕ) → AllLocal t q k → local (assemble t q k) ≡ true
    all_local (node ts) q k a =
        from_parts ts q k
        (same_at q _ _ _ _ _ _ (ap (λ (x : Addr). width (sub (node ts) x)) (addr_root (node ts))) (add-zero k) (kid_root (node ts) k) (a 0 (size_pos (node ts))))
        (λ i h.
        let n : suc (k + ahead ts i) ≡ suc k + ahead ts i = omega arith in
        each_local ts q i (suc k + ahead ts i) h (subst (AllLocal (nth ts i) q) n (child_local (node ts) q k i h a)))

    each_local : (ts : Forest) (q : Queues P) (i k : ℕ) → i < count ts → AllLocal (nth ts i) q k → local (assemble (nth ts i) q k) ≡ true
    each_local fnil q i k h a = absurd (not-suc-le-zero h)
    each_local (fcons t ts) q zero k h a = all_local t q k a
    each_local (fcons t ts) q (suc i) k h a = each_local ts q i k (le_of_suc-le-suc h) a

  local_all : (t : Topo) (q : Queues P) (k : ℕ) → local (assemble t q k) ≡ true → AllLocal t q k
  local_all t q k e m h =
      node_ind
      (λ t n. (k : ℕ) → local (assemble t q k) ≡ true → LocalAt q (width (subtree t n)) (k + n) (λ i. k + child_of t n (suc i)))
      root
      (λ t i n h g r k e. step t i n h g r k e)
      t m h k e
    where
      root : (t : Topo) (k : ℕ) → local (assemble t q k) ≡ true → LocalAt q (width (subtree t 0)) (k + 0) (λ i. k + child_of t 0 (suc i))
      root (node ts) k e =
          same_at q _ _ _ _ _ _ (sym (ap (λ (x : Addr). width (sub (node ts) x)) (addr_root (node ts)))) (sym (add-zero k)) (λ i. sym (kid_root (node ts) k i)) (to_parts ts q k e).0

      step : (t : Topo) (i n : ℕ) → i < width t → n < size (nth (kids t) i)
          → ((k : ℕ) → local (assemble (nth (kids t) i) q k) ≡ true → LocalAt q (width (subtree (nth (kids t) i) n)) (k + n) (λ j. k + child_of (nth (kids t) i) n (suc j)))
          → (k : ℕ) → local (assemble t q k) ≡ true
          → LocalAt q (width (subtree t (suc (ahead (kids t) i + n)))) (k + suc (ahead (kids t) i + n)) (λ j. k + child_of t (suc (ahead (kids t) i + n)) (suc j))
      step (node ts) i n h g r k e =
          let c : suc k + ahead ts i ≡ suc (k + ahead ts i) = omega arith in
          let l = r (kid_at (node ts) k i) (subst (λ (x : ℕ). local (assemble (nth ts i) q x) ≡ true) c ((to_parts ts q k e).1 i h)) in
          same_at q _ _ _ _ _ _ (sym (ap width (inner_tree (node ts) k i n h g))) (sym (inner_at (node ts) k i n h g)) (λ j. sym (inner_kid (node ts) k i n h g j)) l

  -- A tree is well formed exactly where each of its nodes is well formed by itself.
  pub all_well : (t : Topo) (q : Queues P) (k : ℕ) → AllLocal t q k → well (assemble t q k) ≡ true
  all_well t q k a = local_well (assemble t q k) (all_local t q k a)

  pub well_all : (t : Topo) (q : Queues P) (k : ℕ) → well (assemble t q k) ≡ true → AllLocal t q k
  well_all t q k e = local_all t q k (well_local (assemble t q k) e)

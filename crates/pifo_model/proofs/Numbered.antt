-- Push and pop by node number: the inductive definitions change only the queues of the nodes on one way down.
use mathlib.Core.Path.{◌≡◌, refl, sym, ap, ap₂, ◌∙◌}
use Prim.Native.Nat.{ℕ, zero, suc, ◌+◌, ◌-◌, ◌≤◌, ◌<◌}
use native.Mathlib.Nat.{add-zero, not-suc-le-zero, le_of_suc-le-suc}
use native.Mathlib.Omega.{arith}
use mathlib.Core.List.{List, [], ◌∷◌}
use mathlib.Core.Bool.{Bool, true, false, ◌&&◌, ◌||◌, cond}
use mathlib.Core.Option.{Option, none, some}
use lib.Dec.{eqb, leb, ltb}
use borrow.Author.Tests.{eqb-true, leb-true, ltb-true, ltb-false, eq-eqb, ne_eqb}
use Rattle.base.specs.Tests.{is_in}
use Rattle.base.proofs.Tests.{clash}
use Rattle.topology.specs.Tree.{Topo, Forest, node, fnil, fcons, count, kids, width, size, sizes, height}
use Rattle.topology.specs.Address.{nth, ahead}
use Rattle.topology.proofs.Numbering.{ahead_lt}
use Rattle.topology.proofs.Ancestry.{size_pos, nth_height}
use Rattle.pifo_model.specs.Queue.{Entry, child, packet, entry}
use Rattle.pifo_model.specs.Tree.{Step, step, path_fault, PTree, PForest, pnode, pnil, pcons, shape, shapes, empty, empties, push, push_at, pop, pop_at, with_queue, with_later, with-elder}
use Rattle.pifo_model.specs.InnerNumbered.{kid_at, entered, pushed, through, descent_by, descent, rest, popped}
use Rattle.pifo_model.specs.Assembled.{Queues, assemble, assemble_all}

-- a step without fault leads to a child, and the rest of the path has none there
pub path_step : (t : Topo) (i r : ℕ) (ss : List Step) → path_fault t (step (suc i) r ∷ ss) ≡ 0 → (i < width t) × (path_fault (nth (kids t) i) ss ≡ 0)
path_step t i r ss e = by_tests (leb 1 (suc i)) (leb (suc i) (width t)) refl e
  where
    by_tests : (x y : Bool) → leb (suc i) (width t) ≡ y → cond (x && y) (path_fault (nth (kids t) i) ss) 13 ≡ 0
        → (i < width t) × (path_fault (nth (kids t) i) ss ≡ 0)
    by_tests true true y e = (leb-true (suc i) (width t) y, e)
    by_tests true false y e = absurd (omega arith)
    by_tests false b y e = absurd (omega arith)

pub path_zero : (t : Topo) (r : ℕ) (ss : List Step) → path_fault t (step 0 r ∷ ss) ≡ 0 → ⊥
path_zero t r ss e = omega arith

-- the nodes of a child's branch are nodes of the tree
kid_range : (t : Topo) (k i m : ℕ) → i < width t → m < kid_at t k i + size (nth (kids t) i) → m < k + size t
kid_range (node ts) k i m h g =
    let p = size_pos (nth ts i) in
    omega (arith, ahead_lt ts i (size (nth ts i) - 1) h (omega arith))

or_cases {ℓ} : {A : Type ℓ} (x y : Bool) → x || y ≡ true → (x ≡ true → A) → (y ≡ true → A) → A
or_cases true y e f g = f refl
or_cases false y e f g = g e

module _ {P : Type 0} where
  mutual
    pub shape_assemble : (t : Topo) (q : Queues P) (k : ℕ) → shape (assemble t q k) ≡ t
    shape_assemble (node ts) q k = ap node (shapes_assemble ts q (suc k))

    pub shapes_assemble : (ts : Forest) (q : Queues P) (k : ℕ) → shapes (assemble_all ts q k) ≡ ts
    shapes_assemble fnil q k = refl
    shapes_assemble (fcons t ts) q k = ap₂ fcons (shape_assemble t q k) (shapes_assemble ts q (k + size t))

  -- only the queues of the tree's own nodes matter
  mutual
    pub assemble_same : (t : Topo) (q r : Queues P) (k : ℕ) → ((m : ℕ) → k ≤ m → m < k + size t → q m ≡ r m) → assemble t q k ≡ assemble t r k
    assemble_same (node ts) q r k e =
        ap₂ pnode (e k (omega arith) (omega arith)) (assemble_all_same ts q r (suc k) (λ m a b. e m (omega arith) (omega arith)))

    assemble_all_same : (ts : Forest) (q r : Queues P) (k : ℕ) → ((m : ℕ) → k ≤ m → m < k + sizes ts → q m ≡ r m)
        → assemble_all ts q k ≡ assemble_all ts r k
    assemble_all_same fnil q r k e = refl
    assemble_all_same (fcons t ts) q r k e =
        ap₂ pcons (assemble_same t q r k (λ m a b. e m a (omega arith))) (assemble_all_same ts q r (k + size t) (λ m a b. e m (omega arith) (omega arith)))

  mutual
    pub empty_assemble : (t : Topo) (k : ℕ) → empty {P = P} t ≡ assemble t (λ _. []) k
    empty_assemble (node ts) k = ap (pnode []) (empties_assemble ts (suc k))

    empties_assemble : (ts : Forest) (k : ℕ) → empties {P = P} ts ≡ assemble_all ts (λ _. []) k
    empties_assemble fnil k = refl
    empties_assemble (fcons t ts) k = ap₂ pcons (empty_assemble t k) (empties_assemble ts (k + size t))

  -- ---- push

  -- nothing is entered outside the tree
  entered_out : (t : Topo) (k : ℕ) (ss : List Step) (l : ℕ) (p : P) (m : ℕ) → path_fault t ss ≡ 0 → (k ≤ m → m < k + size t → ⊥)
      → entered t k ss l p m ≡ none
  entered_out t k [] l p m e o = rw (ne_eqb k m (λ (q : k ≡ m). o (omega arith) (omega (arith, size_pos t))))
  entered_out t k (step zero r ∷ ss) l p m e o = refl
  entered_out t k (step (suc i) r ∷ ss) l p m e o =
      let s = path_step t i r ss e in
      rw (ne_eqb k m (λ (q : k ≡ m). o (omega arith) (omega (arith, size_pos t))))
      (entered_out (nth (kids t) i) (kid_at t k i) ss l p m s.1 (λ a b. o (omega arith) (kid_range t k i m s.0 b)))

  mutual
    pub push_assemble : (t : Topo) (q : Queues P) (k : ℕ) (ss : List Step) (l : ℕ) (p : P) → path_fault t ss ≡ 0
        → push (assemble t q k) ss l p ≡ assemble t (pushed t k ss l p q) k
    push_assemble (node ts) q k [] l p e =
        ap₂ pnode
        (sym (rw (eq-eqb k k refl)))
        (assemble_all_same ts q (pushed (node ts) k [] l p q) (suc k) (λ m a b. sym (rw (ne_eqb k m (omega arith)))))
    push_assemble (node ts) q k (step zero r ∷ ss) l p e = absurd (path_zero (node ts) r ss e)
    push_assemble (node ts) q k (step (suc i) r ∷ ss) l p e =
        let s = path_step (node ts) i r ss e in
        let n : suc k + ahead ts i ≡ suc (k + ahead ts i) = omega arith in
        ap₂ pnode
        (sym (rw (eq-eqb k k refl)))
        (push_at_assemble ts q (suc k) i ss l p s.0 s.1
        ∙ assemble_all_same ts (pushed (nth ts i) (suc k + ahead ts i) ss l p q) (pushed (node ts) k (step (suc i) r ∷ ss) l p q) (suc k)
        (λ m a b. sym (rw (ne_eqb k m (omega arith), n))))

    push_at_assemble : (ts : Forest) (q : Queues P) (k i : ℕ) (ss : List Step) (l : ℕ) (p : P) → i < count ts → path_fault (nth ts i) ss ≡ 0
        → push_at (assemble_all ts q k) (suc i) ss l p ≡ assemble_all ts (pushed (nth ts i) (k + ahead ts i) ss l p q) k
    push_at_assemble fnil q k i ss l p h e = absurd (not-suc-le-zero h)
    push_at_assemble (fcons t ts) q k zero ss l p h e =
        rw (add-zero k)
        (ap₂ pcons (push_assemble t q k ss l p e)
        (assemble_all_same ts q (pushed t k ss l p q) (k + size t) (λ m a b. sym (rw (entered_out t k ss l p m e (λ c d. omega arith))))))
    push_at_assemble (fcons t ts) q k (suc i) ss l p h e =
        let n : k + size t + ahead ts i ≡ k + (size t + ahead ts i) = omega arith in
        let later = pushed (nth ts i) (k + (size t + ahead ts i)) ss l p q in
        ap₂ pcons
        (assemble_same t q later k (λ m a b. sym (rw (entered_out (nth ts i) (k + (size t + ahead ts i)) ss l p m e (λ c d. omega arith)))))
        (push_at_assemble ts q (k + size t) i ss l p (le_of_suc-le-suc h) e
        ∙ ap (λ (j : ℕ). assemble_all ts (pushed (nth ts i) j ss l p q) (k + size t)) n)

  -- ---- pop

  abbrev replace : ℕ → PTree P → PForest P → PForest P
  replace i u pnil = pnil
  replace zero u (pcons t ts) = pcons u ts
  replace (suc i) u (pcons t ts) = pcons t (replace i u ts)

  abbrev replaced : ℕ → PForest P → Option (P × PTree P) → Option (P × PForest P)
  replaced i ts none = none
  replaced i ts (some (p, u)) = some (p, replace i u ts)

  pop_at_nth : (ts : Forest) (q : Queues P) (k i : ℕ) → i < count ts
      → pop_at (assemble_all ts q k) (suc i) ≡ replaced i (assemble_all ts q k) (pop (assemble (nth ts i) q (k + ahead ts i)))
  pop_at_nth fnil q k i h = absurd (not-suc-le-zero h)
  pop_at_nth (fcons t ts) q k zero h = rw (add-zero k) (here (pop (assemble t q k)))
    where
      here : (o : Option (P × PTree P)) → with_later (assemble_all ts q (k + size t)) o ≡ replaced 0 (assemble_all (fcons t ts) q k) o
      here none = refl
      here (some x) = refl
  pop_at_nth (fcons t ts) q k (suc i) h =
      let n : k + size t + ahead ts i ≡ k + (size t + ahead ts i) = omega arith in
      ap (with-elder (assemble t q k)) (pop_at_nth ts q (k + size t) i (le_of_suc-le-suc h))
      ∙ later (pop (assemble (nth ts i) q (k + size t + ahead ts i)))
      ∙ ap (λ (j : ℕ). replaced (suc i) (assemble_all (fcons t ts) q k) (pop (assemble (nth ts i) q j))) n
    where
      later : (o : Option (P × PTree P))
          → with-elder (assemble t q k) (replaced i (assemble_all ts q (k + size t)) o) ≡ replaced (suc i) (assemble_all (fcons t ts) q k) o
      later none = refl
      later (some x) = refl

  pop_at_none : (ts : Forest) (q : Queues P) (k i : ℕ) → count ts ≤ i → pop_at (assemble_all ts q k) (suc i) ≡ none
  pop_at_none fnil q k i h = refl
  pop_at_none (fcons t ts) q k zero h = absurd (not-suc-le-zero h)
  pop_at_none (fcons t ts) q k (suc i) h = rw (pop_at_none ts q (k + size t) i (le_of_suc-le-suc h))

  -- a tree of other queues in the place of child i
  replace_assemble : (ts : Forest) (q r : Queues P) (k i : ℕ) → i < count ts
      → ((m : ℕ) → (k + ahead ts i ≤ m → m < k + ahead ts i + size (nth ts i) → ⊥) → q m ≡ r m)
      → replace i (assemble (nth ts i) r (k + ahead ts i)) (assemble_all ts q k) ≡ assemble_all ts r k
  replace_assemble fnil q r k i h e = absurd (not-suc-le-zero h)
  replace_assemble (fcons t ts) q r k zero h e =
      ap₂ pcons
      (ap (assemble t r) (add-zero k))
      (assemble_all_same ts q r (k + size t) (λ m a b. e m (λ c d. omega arith)))
  replace_assemble (fcons t ts) q r k (suc i) h e =
      let n : k + (size t + ahead ts i) ≡ k + size t + ahead ts i = omega arith in
      ap₂ pcons
      (assemble_same t q r k (λ m a b. e m (λ c d. omega arith)))
      (ap (λ (j : ℕ). replace i (assemble (nth ts i) r j) (assemble_all ts q (k + size t))) n
      ∙ replace_assemble ts q r (k + size t) i (le_of_suc-le-suc h) (λ m o. e m (λ c d. o (omega arith) (omega arith))))

  -- the way down stays within the tree
  abbrev pub Inside : Topo → ℕ → Option (P × List ℕ) → Type 0
  Inside t k none = Unit
  Inside t k (some (p, ns)) = (m : ℕ) → is_in m ns ≡ true → (k ≤ m) × (m < k + size t)

  pub descent_in_lem : (left : ℕ) (t : Topo) (k : ℕ) (q : Queues P) → Inside t k (descent left t k q)
  descent_in_lem zero t k q = tt
  descent_in_lem (suc left) t k q = by_head (q k) (λ i. descent_in_lem left (nth (kids t) i) (kid_at t k i) q)
    where
      here : (m : ℕ) → k ≡ m → (k ≤ m) × (m < k + size t)
      here m e = (omega arith, omega (arith, size_pos t))

      on : (i : ℕ) → i < width t → (d : Option (P × List ℕ)) → Inside (nth (kids t) i) (kid_at t k i) d → Inside t k (through k d)
      on i h none r = tt
      on i h (some (p, ns)) r = λ m e.
          or_cases (eqb k m) (is_in m ns) e (λ (x : eqb k m ≡ true). here m (eqb-true k m x))
          (λ (y : is_in m ns ≡ true). let j = r m y in (omega arith, kid_range t k i m h j.1))

      by_test : (i : ℕ) (b : Bool) → ltb i (width t) ≡ b → (d : Option (P × List ℕ)) → Inside (nth (kids t) i) (kid_at t k i) d
          → Inside t k (cond b (through k d) none)
      by_test i true x d r = on i (ltb-true i (width t) x) d r
      by_test i false x d r = tt

      by_head : (l : List (Entry P)) → ((i : ℕ) → Inside (nth (kids t) i) (kid_at t k i) (descent left (nth (kids t) i) (kid_at t k i) q))
          → Inside t k (descent_by l (width t) k (λ i. descent left (nth (kids t) i) (kid_at t k i) q))
      by_head [] r = tt
      by_head (entry n (packet p) ∷ l) r = λ m e. or_cases (eqb k m) false e (λ (x : eqb k m ≡ true). here m (eqb-true k m x)) (λ y. absurd (clash (cc)))
      by_head (entry n (child zero) ∷ l) r = tt
      by_head (entry n (child (suc i)) ∷ l) r = by_test i (ltb i (width t)) refl (descent left (nth (kids t) i) (kid_at t k i) q) (r i)

  -- the result of a way down, as a pop of the tree
  abbrev pub taken : Topo → ℕ → Queues P → Option (P × List ℕ) → Option (P × PTree P)
  taken t k q none = none
  taken t k q (some (p, ns)) = some (p, assemble t (popped ns q) k)

  -- the tree without the head of its root's queue, and without the heads at the nodes ns below it
  after_head : (ts : Forest) (q : Queues P) (k : ℕ) (x : Entry P) (l : List (Entry P)) (ns : List ℕ) → q k ≡ x ∷ l
      → pnode l (assemble_all ts (popped ns q) (suc k)) ≡ assemble (node ts) (popped (k ∷ ns) q) k
  after_head ts q k x l ns e =
      ap₂ pnode
      (rw (eq-eqb k k refl) (sym (ap rest e)))
      (assemble_all_same ts (popped ns q) (popped (k ∷ ns) q) (suc k) (λ m a b. rw (ne_eqb k m (omega arith))))

  pop_at_zero : (ts : PForest P) → pop_at ts 0 ≡ none
  pop_at_zero pnil = refl
  pop_at_zero (pcons t ts) = refl

  -- the pop below child i + 1, put back into the tree
  pop_at_taken : (ts : Forest) (q : Queues P) (k i : ℕ) (x : Entry P) (l : List (Entry P)) → q k ≡ x ∷ l → i < count ts
      → (d : Option (P × List ℕ)) → Inside (nth ts i) (kid_at (node ts) k i) d
      → with_queue l (replaced i (assemble_all ts q (suc k)) (taken (nth ts i) (kid_at (node ts) k i) q d)) ≡ taken (node ts) k q (through k d)
  pop_at_taken ts q k i x l e h none inside = refl
  pop_at_taken ts q k i x l e h (some (p, ns)) inside =
      let n : suc (k + ahead ts i) ≡ suc k + ahead ts i = omega arith in
      let same : replace i (assemble (nth ts i) (popped ns q) (suc k + ahead ts i)) (assemble_all ts q (suc k)) ≡ assemble_all ts (popped ns q) (suc k) =
      replace_assemble ts q (popped ns q) (suc k) i h (λ m o. outside m (is_in m ns) refl (λ (y : is_in m ns ≡ true). let j = inside m y in o (omega arith) (omega arith))) in
      ap {B = Option (P × PTree P)} (λ (t : PTree P). some (p, t))
      (ap (λ (j : ℕ). pnode l (replace i (assemble (nth ts i) (popped ns q) j) (assemble_all ts q (suc k)))) n
      ∙ ap (pnode l) same
      ∙ after_head ts q k x l ns e)
    where
      outside : (m : ℕ) (b : Bool) → is_in m ns ≡ b → (is_in m ns ≡ true → ⊥) → q m ≡ popped ns q m
      outside m true y o = absurd (o y)
      outside m false y o = rw y

  pub pop_assemble : (left : ℕ) (t : Topo) (q : Queues P) (k : ℕ) → height t < left → pop (assemble t q k) ≡ taken t k q (descent left t k q)
  pop_assemble zero t q k h = absurd (not-suc-le-zero h)
  pop_assemble (suc left) (node ts) q k h = by_head (q k) refl (λ i. pop_assemble left (nth ts i) q (kid_at (node ts) k i))
    where
      Below : Type 0
      Below = (i : ℕ) → height (nth ts i) < left
          → pop (assemble (nth ts i) q (kid_at (node ts) k i)) ≡ taken (nth ts i) (kid_at (node ts) k i) q (descent left (nth ts i) (kid_at (node ts) k i) q)

      by_test : (n i : ℕ) (l : List (Entry P)) (b : Bool) → ltb i (count ts) ≡ b → q k ≡ entry n (child (suc i)) ∷ l → Below
          → with_queue l (pop_at (assemble_all ts q (suc k)) (suc i)) ≡ taken (node ts) k q (cond b (through k (descent left (nth ts i) (kid_at (node ts) k i) q)) none)
      by_test n i l true x e r =
          let c : i < count ts = ltb-true i (count ts) x in
          let m : suc k + ahead ts i ≡ suc (k + ahead ts i) = omega arith in
          ap (with_queue l)
          (pop_at_nth ts q (suc k) i c
          ∙ ap (λ (j : ℕ). replaced i (assemble_all ts q (suc k)) (pop (assemble (nth ts i) q j))) m
          ∙ ap (replaced i (assemble_all ts q (suc k))) (r i (omega (arith, nth_height ts i c))))
          ∙ pop_at_taken ts q k i (entry n (child (suc i))) l e c (descent left (nth ts i) (kid_at (node ts) k i) q) (descent_in_lem left (nth ts i) (kid_at (node ts) k i) q)
      by_test n i l false x e r = ap (with_queue l) (pop_at_none ts q (suc k) i (ltb-false i (count ts) x))

      by_head : (l : List (Entry P)) → q k ≡ l → Below
          → pop (pnode l (assemble_all ts q (suc k))) ≡ taken (node ts) k q (descent_by l (count ts) k (λ i. descent left (nth ts i) (kid_at (node ts) k i) q))
      by_head [] e r = refl
      by_head (entry n (packet p) ∷ l) e r = ap {B = Option (P × PTree P)} (λ (t : PTree P). some (p, t)) (after_head ts q k (entry n (packet p)) l [] e)
      by_head (entry n (child zero) ∷ l) e r = ap (with_queue l) (pop_at_zero (assemble_all ts q (suc k)))
      by_head (entry n (child (suc i)) ∷ l) e r = by_test n i l (ltb i (count ts)) refl e r

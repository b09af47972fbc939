-- The way of a pop. It is empty where no packet is held. By node number it consists of the head of each queue on the way down (`way_assemble`). At
-- each node it has the entry that a pop takes at that node's address (`way_takes`), and the child that such an entry names exists (`takes_named`).
use mathlib.Core.Path.{◌≡◌, refl, sym, ap, ◌∙◌, subst}
use Prim.Native.Nat.{ℕ, zero, suc, ◌+◌, ◌≤◌, ◌<◌}
use native.Mathlib.Nat.{zero-add, add-zero, not-suc-le-zero, le_of_suc-le-suc, zero-lt-suc}
use native.Mathlib.Omega.{arith}
use mathlib.Core.List.{List, [], ◌∷◌, ◌++◌, map}
use mathlib.Core.Bool.{Bool, true, false, cond}
use mathlib.Core.Option.{Option, none, some}
use lib.Dec.{eqb, ltb, eqb-suc-suc}
use borrow.Author.Tests.{ltb-true, eqb-true, eq-eqb, ne_eqb}
use Rattle.std.proofs.lemmas.Bool.{and_parts}
use Rattle.topology.specs.Tree.{Topo, Forest, node, fnil, fcons, count, size, sizes}
use Rattle.topology.specs.Address.{Addr, nth, In, ahead, addr}
use Rattle.topology.proofs.Numbering.{place, addr-child, addr_root}
use Rattle.pifo_model.specs.Queue.{Entry, child, packet, entry}
use Rattle.pifo_model.specs.Tree.{PTree, PForest, pnode, pnil, pcons, shape, shapes, held, well, wells}
use Rattle.pifo_model.specs.InnerNumbered.{kid_at, through, descent_by, descent}
use Rattle.pifo_model.specs.Way.{Taken, taken, way, way_within, takes, takes_in, taken_at, head_taken, head_at}
use Rattle.pifo_model.proofs.Well.{well_parts, length-held}
use Rattle.pifo_model.proofs.Pop.{child_own}
use Rattle.pifo_model.proofs.Numbered.{shape_assemble}
use Rattle.pifo_model.specs.Assembled.{Queues, assemble, assemble_all}

-- what a way has at a node
abbrev pub lookup : ℕ → List Taken → Option Taken
lookup n [] = none
lookup n (taken m i r ∷ w) = cond (eqb m n) (some (taken m i r)) (lookup n w)

module _ {P : Type 0} where
  -- no packet, no way
  pub none_way : (t : PTree P) (k : ℕ) → well t ≡ true → held t ≡ 0 → way t k ≡ []
  none_way (pnode [] ts) k w h = refl
  none_way (pnode (e ∷ q) ts) k w h = absurd (omega (arith, length-held (e ∷ q) ts w))

  -- ---- by node number

  -- below child i + 1 of an assembled forest
  way_within_nth : (ts : Forest) (q : Queues P) (k i : ℕ) → i < count ts
      → way_within (assemble_all ts q k) (suc i) k ≡ way (assemble (nth ts i) q (k + ahead ts i)) (k + ahead ts i)
  way_within_nth fnil q k i h = absurd (not-suc-le-zero h)
  way_within_nth (fcons t ts) q k zero h = rw (add-zero k)
  way_within_nth (fcons t ts) q k (suc i) h =
      let n : k + size t + ahead ts i ≡ k + (size t + ahead ts i) = omega arith in
      ap (λ (j : ℕ). way_within (assemble_all ts q (k + size t)) (suc i) (k + j)) (ap size (shape_assemble t q k))
      ∙ way_within_nth ts q (k + size t) i (le_of_suc-le-suc h)
      ∙ ap (λ (j : ℕ). way (assemble (nth ts i) q j) j) n

  -- the heads of the nodes on a way down
  abbrev pub Heads : Topo → ℕ → Queues P → Option (P × List ℕ) → Type 0
  Heads t k q none = Unit
  Heads t k q (some (p, ns)) = way (assemble t q k) k ≡ map (head_at q) ns

  pub way_assemble : (left : ℕ) (t : Topo) (q : Queues P) (k : ℕ) → Heads t k q (descent left t k q)
  way_assemble zero t q k = tt
  way_assemble (suc left) (node ts) q k = by_head (q k) refl (λ i. way_assemble left (nth ts i) q (kid_at (node ts) k i))
    where
      Below : Type 0
      Below = (i : ℕ) → Heads (nth ts i) (kid_at (node ts) k i) q (descent left (nth ts i) (kid_at (node ts) k i) q)

      on : (n i : ℕ) (l : List (Entry P)) → q k ≡ entry n (child (suc i)) ∷ l → i < count ts → (d : Option (P × List ℕ))
          → Heads (nth ts i) (kid_at (node ts) k i) q d → Heads (node ts) k q (through k d)
      on n i l e h none w = tt
      on n i l e h (some (p, ns)) w =
          let m : suc k + ahead ts i ≡ kid_at (node ts) k i = omega arith in
          ap (λ (x : List (Entry P)). way (pnode x (assemble_all ts q (suc k))) k) e
          ∙ ap (λ (x : List Taken). taken k (suc i) n ∷ x)
          (way_within_nth ts q (suc k) i h ∙ ap (λ (j : ℕ). way (assemble (nth ts i) q j) j) m ∙ w)
          ∙ ap (λ (x : List (Entry P)). head_taken k x ∷ map (head_at q) ns) (sym e)

      by_test : (n i : ℕ) (l : List (Entry P)) → q k ≡ entry n (child (suc i)) ∷ l → (b : Bool) → ltb i (count ts) ≡ b → Below
          → Heads (node ts) k q (cond b (through k (descent left (nth ts i) (kid_at (node ts) k i) q)) none)
      by_test n i l e true x r = on n i l e (ltb-true i (count ts) x) (descent left (nth ts i) (kid_at (node ts) k i) q) (r i)
      by_test n i l e false x r = tt

      by_head : (l : List (Entry P)) → q k ≡ l → Below
          → Heads (node ts) k q (descent_by l (count ts) k (λ i. descent left (nth ts i) (kid_at (node ts) k i) q))
      by_head [] e r = tt
      by_head (entry n (packet p) ∷ l) e r =
          ap (λ (x : List (Entry P)). way (pnode x (assemble_all ts q (suc k))) k) e ∙ ap (λ (x : List (Entry P)). head_taken k x ∷ []) (sym e)
      by_head (entry n (child zero) ∷ l) e r = tt
      by_head (entry n (child (suc i)) ∷ l) e r = by_test n i l e (ltb i (count ts)) refl r

  -- ---- by address

  -- an entry taken at a node, in the form that a way has
  abbrev pub passed : ℕ → Option (Entry P) → Option Taken
  passed n none = none
  passed n (some e) = some (taken_at n e)

  -- a way has no node outside its tree
  mutual
    way_out : (t : PTree P) (k n : ℕ) → (k ≤ n → n < k + size (shape t) → ⊥) → lookup n (way t k) ≡ none
    way_out (pnode [] ts) k n o = refl
    way_out (pnode (entry r (packet p) ∷ q) ts) k n o = rw (ne_eqb k n (λ (e : k ≡ n). o (omega arith) (omega arith)))
    way_out (pnode (entry r (child i) ∷ q) ts) k n o =
        rw (ne_eqb k n (λ (e : k ≡ n). o (omega arith) (omega arith))) (way_within_out ts i (suc k) n (λ a b. o (omega arith) (omega arith)))

    way_within_out : (ts : PForest P) (i k n : ℕ) → (k ≤ n → n < k + sizes (shapes ts) → ⊥) → lookup n (way_within ts i k) ≡ none
    way_within_out pnil i k n o = refl
    way_within_out (pcons t ts) zero k n o = refl
    way_within_out (pcons t ts) (suc zero) k n o = way_out t k n (λ a b. o a (omega arith))
    way_within_out (pcons t ts) (suc (suc i)) k n o = way_within_out ts (suc i) (k + size (shape t)) n (λ a b. o (omega arith) (omega arith))

  at_root : (q : List (Entry P)) (ts : PForest P) (k : ℕ) → lookup (k + 0) (way (pnode q ts) k) ≡ passed (k + 0) (takes (pnode q ts) [])
  at_root [] ts k = refl
  at_root (entry r (packet p) ∷ q) ts k = rw (add-zero k, eq-eqb k k refl)
  at_root (entry r (child i) ∷ q) ts k = rw (add-zero k, eq-eqb k k refl)

  at_below : (q : List (Entry P)) (ts : PForest P) (k j n : ℕ) (a : Addr)
      → ((i : ℕ) → lookup (suc k + n) (way_within ts i (suc k)) ≡ passed (suc k + n) (cond (eqb i j) (takes_in ts i a) none))
      → lookup (k + suc n) (way (pnode q ts) k) ≡ passed (k + suc n) (takes (pnode q ts) (j ∷ a))
  at_below [] ts k j n a below = refl
  at_below (entry r (packet p) ∷ q) ts k j n a below = rw (ne_eqb k (k + suc n) (omega arith))
  at_below (entry r (child i) ∷ q) ts k j n a below =
      let m : suc k + n ≡ k + suc n = omega arith in
      rw (ne_eqb k (k + suc n) (omega arith)) (rw m at (below i))

  mutual
    pub way_takes : (t : PTree P) (k n : ℕ) → n < size (shape t) → lookup (k + n) (way t k) ≡ passed (k + n) (takes t (addr (shape t) n))
    way_takes (pnode q ts) k zero h = rw (addr_root (node (shapes ts))) (at_root q ts k)
    way_takes (pnode q ts) k (suc n) h =
        let s = place (shapes ts) n (le_of_suc-le-suc h) in
        rw (s.sum, addr-child (node (shapes ts)) s.index s.inner s.there s.below)
        (at_below q ts k (suc s.index) (ahead (shapes ts) s.index + s.inner) (addr (nth (shapes ts) s.index) s.inner)
        (λ i. way_within_takes ts i (suc k) s.index s.inner s.there s.below))

    way_within_takes : (ts : PForest P) (i k j n : ℕ) → j < count (shapes ts) → n < size (nth (shapes ts) j)
        → lookup (k + (ahead (shapes ts) j + n)) (way_within ts i k)
        ≡ passed (k + (ahead (shapes ts) j + n)) (cond (eqb i (suc j)) (takes_in ts i (addr (nth (shapes ts) j) n)) none)
    way_within_takes pnil i k j n h g = absurd (not-suc-le-zero h)
    way_within_takes (pcons t ts) zero k j n h g = rw (ne_eqb 0 (suc j) (omega arith))
    way_within_takes (pcons t ts) (suc zero) k zero n h g = rw (zero-add n) (way_takes t k n g)
    way_within_takes (pcons t ts) (suc zero) k (suc j) n h g =
        rw (ne_eqb 1 (suc (suc j)) (omega arith)) (way_out t k (k + (size (shape t) + ahead (shapes ts) j + n)) (λ a b. omega arith))
    way_within_takes (pcons t ts) (suc (suc i)) k zero n h g =
        rw (ne_eqb (suc (suc i)) 1 (omega arith)) (way_within_out ts (suc i) (k + size (shape t)) (k + (0 + n)) (λ a b. omega arith))
    way_within_takes (pcons t ts) (suc (suc i)) k (suc j) n h g =
        let m : k + size (shape t) + (ahead (shapes ts) j + n) ≡ k + (size (shape t) + ahead (shapes ts) j + n) = omega arith in
        rw (eqb-suc-suc (suc i) (suc j)) (rw m at (way_within_takes ts (suc i) (k + size (shape t)) j n (le_of_suc-le-suc h) g))

  -- a child that a taken entry names exists
  abbrev pub Named : Topo → Addr → Option (Entry P) → Type 0
  Named t a none = Unit
  Named t a (some (entry r (packet p))) = Unit
  Named t a (some (entry r (child k))) = In t (a ++ (k ∷ []))

  named_below : (ts : Forest) (i j : ℕ) (a : Addr) → i < count ts → (b : Bool) → eqb (suc i) j ≡ b → (o : Option (Entry P)) → Named (nth ts i) a o
      → Named (node ts) (j ∷ a) (cond b o none)
  named_below ts i j a g false e o h = tt
  named_below ts i j a g true e none h = tt
  named_below ts i j a g true e (some (entry r (packet p))) h = tt
  named_below ts i j a g true e (some (entry r (child k))) h =
      subst (λ (x : ℕ). In (node ts) (x ∷ (a ++ (k ∷ [])))) (eqb-true (suc i) j e) (zero-lt-suc i, g, h)

  mutual
    pub takes_named : (t : PTree P) (a : Addr) → well t ≡ true → Named (shape t) a (takes t a)
    takes_named (pnode [] ts) a w = tt
    takes_named (pnode (entry r (packet p) ∷ q) ts) [] w = tt
    takes_named (pnode (entry r (packet p) ∷ q) ts) (j ∷ a) w = tt
    takes_named (pnode (entry r (child i) ∷ q) ts) [] w =
        let o = child_own (count (shapes ts)) r i q (well_parts (entry r (child i) ∷ q) ts w).own in
        (o.0, o.1, tt)
    takes_named (pnode (entry r (child zero) ∷ q) ts) (j ∷ a) w =
        absurd (not-suc-le-zero (child_own (count (shapes ts)) r 0 q (well_parts (entry r (child 0) ∷ q) ts w).own).0)
    takes_named (pnode (entry r (child (suc i)) ∷ q) ts) (j ∷ a) w =
        let p = well_parts (entry r (child (suc i)) ∷ q) ts w in
        named_below (shapes ts) i j a (child_own (count (shapes ts)) r (suc i) q p.own).1 (eqb (suc i) j) refl (takes_in ts (suc i) a)
        (takes_in_named ts i a p.below)

    takes_in_named : (ts : PForest P) (i : ℕ) (a : Addr) → wells ts ≡ true → Named (nth (shapes ts) i) a (takes_in ts (suc i) a)
    takes_in_named pnil i a w = tt
    takes_in_named (pcons t ts) zero a w = takes_named t a (and_parts (well t) (wells ts) w).0
    takes_in_named (pcons t ts) (suc i) a w = takes_in_named ts i a (and_parts (well t) (wells ts) w).1

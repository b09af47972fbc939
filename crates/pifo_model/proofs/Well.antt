-- The parts of a well-formed tree. A node's queue has as many entries as there are packets in its subtree (`length-held`), so "child i occurs as often
-- as there are packets under child i" can be tested as "child i occurs as often as child i's own queue has entries": `local_well` and `well_local`
-- prove that this local test agrees with the definition.
use mathlib.Core.Path.{◌≡◌, refl, sym, ap}
use Prim.Native.Nat.{ℕ, zero, suc, ◌+◌, ◌≤◌, ◌<◌}
use native.Mathlib.Decide.{ℕ_discrete}
use native.Mathlib.Omega.{arith}
use mathlib.Core.List.{List, [], ◌∷◌}
use mathlib.Core.Bool.{Bool, true, ◌&&◌, cond}
use lib.ListN.{length, length-append}
use lib.Dec.{leb, eqb}
use borrow.Author.Tests.{leb-true, eqb-true, eq-eqb, ne_eqb}
use Rattle.std.proofs.lemmas.Bool.{and_parts}
use Rattle.base.proofs.Tests.{clash, and_both}
use Rattle.topology.specs.Tree.{Topo, Forest, node, fnil, fcons, count}
use Rattle.pifo_model.specs.Queue.{Entry, child, packet, entry, rises_from, allowed, every, occurs}
use Rattle.pifo_model.specs.Tree.{PTree, PForest, pnode, pnil, pcons, shape, shapes, empty, empties, packets_of, leaf_queue, packets, packets_in, held, counted, well, wells}

-- how much an entry of child j counts for child i
pub is_same : (i j : ℕ) → i ≡ j → ◌≡◌ {A = ℕ} (cond (eqb i j) 1 0) 1
is_same i j e = rw (eq-eqb i j e)

pub is_other : (i j : ℕ) → (i ≡ j → ⊥) → ◌≡◌ {A = ℕ} (cond (eqb i j) 1 0) 0
is_other i j e = rw (ne_eqb i j e)

module _ {P : Type 0} where
  -- What `well` says of a node: its queue, its children's counts, its children.
  pub record Well (q : List (Entry P)) (ts : PForest P) : Type 0 where
    pub rises : rises_from 0 q ≡ true
    pub own : every (allowed (count (shapes ts))) q ≡ true
    pub counts : counted q 1 ts ≡ true
    pub below : wells ts ≡ true

  pub well_parts : (q : List (Entry P)) (ts : PForest P) → well (pnode q ts) ≡ true → Well q ts
  well_parts q ts h =
      let a = and_parts (rises_from 0 q && every (allowed (count (shapes ts))) q && counted q 1 ts) (wells ts) h in
      let b = and_parts (rises_from 0 q && every (allowed (count (shapes ts))) q) (counted q 1 ts) a.0 in
      let c = and_parts (rises_from 0 q) (every (allowed (count (shapes ts))) q) b.0 in
      record { rises = c.0; own = c.1; counts = b.1; below = a.1 }

  pub parts_well : (q : List (Entry P)) (ts : PForest P) → Well q ts → well (pnode q ts) ≡ true
  parts_well q ts w = and_both (and_both (and_both w.rises w.own) w.counts) w.below

  pub counted_parts : (q : List (Entry P)) (k : ℕ) (t : PTree P) (ts : PForest P) → counted q k (pcons t ts) ≡ true
      → (occurs k q ≡ held t) × (counted q (suc k) ts ≡ true)
  counted_parts q k t ts h =
      let b = and_parts (eqb (occurs k q) (held t)) (counted q (suc k) ts) h in
      (eqb-true (occurs k q) (held t) b.0, b.1)

  pub counted-cons : (q : List (Entry P)) (k : ℕ) (t : PTree P) (ts : PForest P) → occurs k q ≡ held t → counted q (suc k) ts ≡ true
      → counted q k (pcons t ts) ≡ true
  counted-cons q k t ts e h = and_both (eq-eqb (occurs k q) (held t) e) h

  -- The number of entries: a leaf has one for each packet, an inner node as many as its children together.
  leaf-length : (q : List (Entry P)) → every (allowed 0) q ≡ true → length (packets_of q) ≡ length q
  leaf-length [] h = refl
  leaf-length (entry r (packet p) ∷ q) h = ap suc (leaf-length q h)
  leaf-length (entry r (child i) ∷ q) h = absurd (clash (cc))

  -- how often the n children from child k on occur
  total : List (Entry P) → ℕ → ℕ → ℕ
  total q k zero = 0
  total q k (suc n) = occurs k q + total q (suc k) n

  total_none : (q : List (Entry P)) (k n : ℕ) → ((i : ℕ) → occurs i q ≡ 0) → total q k n ≡ 0
  unfolding total
  total_none q k zero h = refl
  total_none q k (suc n) h = omega (arith, h k, total_none q (suc k) n h)

  total_before : (r i : ℕ) (q : List (Entry P)) (k n : ℕ) → i < k → total (entry r (child i) ∷ q) k n ≡ total q k n
  unfolding total
  total_before r i q k zero h = refl
  total_before r i q k (suc n) h = omega (arith, total_before r i q (suc k) n (omega arith), is_other k i (omega arith))

  total-one : (r i : ℕ) (q : List (Entry P)) (k n : ℕ) → k ≤ i → i < k + n → total (entry r (child i) ∷ q) k n ≡ suc (total q k n)
  unfolding total
  total-one r i q k zero l h = absurd (omega arith)
  total-one r i q k (suc n) l h =
      here_or_later (ℕ_discrete k i) (λ g. total-one r i q (suc k) n g (omega arith))
    where
      here_or_later : Dec (k ≡ i) → (k < i → total (entry r (child i) ∷ q) (suc k) n ≡ suc (total q (suc k) n))
          → cond (eqb k i) 1 0 + occurs k q + total (entry r (child i) ∷ q) (suc k) n ≡ suc (occurs k q + total q (suc k) n)
      here_or_later (yes e) later = omega (arith, is_same k i e, total_before r i q (suc k) n (omega arith))
      here_or_later (no e) later = omega (arith, is_other k i e, later (omega arith))

  inner_length : (n : ℕ) (q : List (Entry P)) → every (allowed (suc n)) q ≡ true → total q 1 (suc n) ≡ length q
  inner_length n [] h = total_none [] 1 (suc n) (λ i. refl)
  inner_length n (entry r (packet p) ∷ q) h = absurd (clash (cc))
  inner_length n (entry r (child i) ∷ q) h =
      let b = and_parts (leb 1 i && leb i (suc n)) (every (allowed (suc n)) q) h in
      let c = and_parts (leb 1 i) (leb i (suc n)) b.0 in
      let lo = leb-true 1 i c.0 in
      let hi = leb-true i (suc n) c.1 in
      omega (arith, total-one r i q 1 (suc n) lo (omega arith), inner_length n q b.1)

  packets_total : (q : List (Entry P)) (k : ℕ) (ts : PForest P) → counted q k ts ≡ true → length (packets_in ts) ≡ total q k (count (shapes ts))
  unfolding total
  packets_total q k pnil h = refl
  packets_total q k (pcons t ts) h =
      let c = counted_parts q k t ts h in
      let r = packets_total q (suc k) ts c.1 in
      omega (arith, length-append (packets t) (packets_in ts))

  pub length-held : (q : List (Entry P)) (ts : PForest P) → well (pnode q ts) ≡ true → length q ≡ held (pnode q ts)
  length-held q pnil h = omega (arith, length-append (packets_of q) [], leaf-length q (well_parts q pnil h).own)
  length-held q (pcons t ts) h =
      let w = well_parts q (pcons t ts) h in
      omega (arith, packets_total q 1 (pcons t ts) w.counts, inner_length (count (shapes ts)) q w.own)

  -- The local test: at every node, child i occurs as often as child i's own queue has entries.
  abbrev pub root_queue : PTree P → List (Entry P)
  root_queue (pnode q ts) = q

  abbrev pub matched : List (Entry P) → ℕ → PForest P → Bool
  matched q k pnil = true
  matched q k (pcons t ts) = eqb (occurs k q) (length (root_queue t)) && matched q (suc k) ts

  abbrev mutual
    pub local : PTree P → Bool
    local (pnode q ts) = rises_from 0 q && every (allowed (count (shapes ts))) q && matched q 1 ts && locals ts

    pub locals : PForest P → Bool
    locals pnil = true
    locals (pcons t ts) = local t && locals ts

  root_held : (t : PTree P) → well t ≡ true → length (root_queue t) ≡ held t
  root_held (pnode q ts) h = length-held q ts h

  matched_counted : (q : List (Entry P)) (k : ℕ) (ts : PForest P) → wells ts ≡ true → matched q k ts ≡ counted q k ts
  matched_counted q k pnil h = refl
  matched_counted q k (pcons t ts) h =
      let b = and_parts (well t) (wells ts) h in
      rw (root_held t b.0, matched_counted q (suc k) ts b.1)

  from_local : (q : List (Entry P)) (ts : PForest P) → local (pnode q ts) ≡ true → (locals ts ≡ true → wells ts ≡ true) → well (pnode q ts) ≡ true
  from_local q ts h below =
      let a = and_parts (rises_from 0 q && every (allowed (count (shapes ts))) q && matched q 1 ts) (locals ts) h in
      let w = below a.1 in
      rw (← matched_counted q 1 ts w) (and_both a.0 w)

  mutual
    pub local_well : (t : PTree P) → local t ≡ true → well t ≡ true
    local_well (pnode q ts) h = from_local q ts h (λ g. locals_wells ts g)

    locals_wells : (ts : PForest P) → locals ts ≡ true → wells ts ≡ true
    locals_wells pnil h = refl
    locals_wells (pcons t ts) h = let b = and_parts (local t) (locals ts) h in and_both (local_well t b.0) (locals_wells ts b.1)

  to_local : (q : List (Entry P)) (ts : PForest P) → well (pnode q ts) ≡ true → (wells ts ≡ true → locals ts ≡ true) → local (pnode q ts) ≡ true
  to_local q ts h below =
      let a = and_parts (rises_from 0 q && every (allowed (count (shapes ts))) q && counted q 1 ts) (wells ts) h in
      rw (matched_counted q 1 ts a.1) (and_both a.0 (below a.1))

  mutual
    pub well_local : (t : PTree P) → well t ≡ true → local t ≡ true
    well_local (pnode q ts) h = to_local q ts h (λ g. wells_locals ts g)

    wells_locals : (ts : PForest P) → wells ts ≡ true → locals ts ≡ true
    wells_locals pnil h = refl
    wells_locals (pcons t ts) h = let b = and_parts (well t) (wells ts) h in and_both (well_local t b.0) (wells_locals ts b.1)

-- An empty tree has its topology, holds nothing and is well formed.
module _ (P : Type 0) where
  mutual
    pub shape_empty : (t : Topo) → shape (empty {P = P} t) ≡ t
    shape_empty (node ts) = ap node (shapes_empties ts)

    shapes_empties : (ts : Forest) → shapes (empties {P = P} ts) ≡ ts
    shapes_empties fnil = refl
    shapes_empties (fcons t ts) = rw (shape_empty t, shapes_empties ts)

  leaf-empty : (ts : PForest P) → leaf_queue [] ts ≡ []
  leaf-empty pnil = refl
  leaf-empty (pcons t ts) = refl

  mutual
    pub packets_empty : (t : Topo) → packets (empty {P = P} t) ≡ []
    packets_empty (node ts) = rw (leaf-empty (empties ts), packets_empties ts)

    packets_empties : (ts : Forest) → packets_in (empties {P = P} ts) ≡ []
    packets_empties fnil = refl
    packets_empties (fcons t ts) = rw (packets_empty t, packets_empties ts)

  counted_empties : (k : ℕ) (ts : Forest) → counted {P = P} [] k (empties ts) ≡ true
  counted_empties k fnil = refl
  counted_empties k (fcons t ts) = counted-cons [] k (empty t) (empties ts) (ap length (sym (packets_empty t))) (counted_empties (suc k) ts)

  mutual
    pub well_empty : (t : Topo) → well (empty {P = P} t) ≡ true
    well_empty (node ts) = and_both (counted_empties 1 ts) (wells_empties ts)

    wells_empties : (ts : Forest) → wells (empties {P = P} ts) ≡ true
    wells_empties fnil = refl
    wells_empties (fcons t ts) = and_both (well_empty t) (wells_empties ts)

-- A push along a path with no fault (Lemma 3.9 (i) of document 001): the tree keeps its topology, holds the packet in addition to those it held, and
-- stays well formed.
use mathlib.Core.Path.{◌≡◌, refl, sym, ap}
use Prim.Native.Nat.{ℕ, zero, suc, ◌+◌, ◌<◌, zero-le}
use native.Mathlib.Nat.{not-suc-le-zero, le_of_suc-le-suc}
use native.Mathlib.Numerals.{one-add}
use native.Mathlib.Omega.{arith}
use mathlib.Core.List.Permᴰ
use mathlib.Core.List.{List, [], ◌∷◌, Permᴰ}
use mathlib.Core.Bool.{Bool, true, false, cond}
use lib.Dec.{ltb}
use borrow.Author.Tests.{le-leb}
use Rattle.base.proofs.Permutation.{length_perm, perm_front}
use Rattle.std.proofs.lemmas.Bool.{and_parts}
use Rattle.base.proofs.Tests.{and_both}
use Rattle.topology.specs.Tree.{node, count}
use Rattle.topology.specs.Address.{nth}
use Rattle.pifo_model.specs.Queue.{Entry, child, packet, entry, insert, allowed, every}
use Rattle.pifo_model.specs.Tree.{Step, step, path_fault, PTree, PForest, pnode, pnil, pcons, shape, shapes, push, push_at, packets_of, packets, packets_in, held, counted, well, wells}
use Rattle.pifo_model.proofs.Insert.{insert_rises, occurs_insert, every_insert}
use Rattle.pifo_model.proofs.Well.{Well, well_parts, parts_well, counted_parts, counted-cons, is_same, is_other}
use Rattle.pifo_model.proofs.PathFault.{Faultless, fault_end, fault_step}

module _ {P : Type 0} where
  mutual
    pub push_shape : (t : PTree P) (ss : List Step) (l : ℕ) (p : P) → shape (push t ss l p) ≡ shape t
    push_shape (pnode q ts) [] l p = refl
    push_shape (pnode q ts) (step i r ∷ ss) l p = ap node (push_at_shapes ts i ss l p)

    push_at_shapes : (ts : PForest P) (i : ℕ) (ss : List Step) (l : ℕ) (p : P) → shapes (push_at ts i ss l p) ≡ shapes ts
    push_at_shapes pnil i ss l p = refl
    push_at_shapes (pcons t ts) zero ss l p = refl
    push_at_shapes (pcons t ts) (suc zero) ss l p = rw (push_shape t ss l p)
    push_at_shapes (pcons t ts) (suc (suc i)) ss l p = rw (push_at_shapes ts (suc i) ss l p)

  -- the packets after an insertion
  packets_insert : (l : ℕ) (p : P) (q : List (Entry P)) → Permᴰ (packets_of (insert (entry l (packet p)) q)) (p ∷ packets_of q)
  packets_insert l p [] = Permᴰ.refl (p ∷ [])
  packets_insert l p (entry r (packet x) ∷ q) = by_test (ltb l r) (packets_insert l p q)
    where
      by_test : (b : Bool) → Permᴰ (packets_of (insert (entry l (packet p)) q)) (p ∷ packets_of q)
          → Permᴰ (packets_of (cond b (entry l (packet p) ∷ entry r (packet x) ∷ q) (entry r (packet x) ∷ insert (entry l (packet p)) q))) (p ∷ x ∷ packets_of q)
      by_test true h = Permᴰ.refl (p ∷ x ∷ packets_of q)
      by_test false h = Permᴰ.trans (Permᴰ.cons refl h) (Permᴰ.swap refl refl)
  packets_insert l p (entry r (child i) ∷ q) = by_test (ltb l r) (packets_insert l p q)
    where
      by_test : (b : Bool) → Permᴰ (packets_of (insert (entry l (packet p)) q)) (p ∷ packets_of q)
          → Permᴰ (packets_of (cond b (entry l (packet p) ∷ entry r (child i) ∷ q) (entry r (child i) ∷ insert (entry l (packet p)) q))) (p ∷ packets_of q)
      by_test true h = Permᴰ.refl (p ∷ packets_of q)
      by_test false h = h

  pub packets_inner : (q : List (Entry P)) (ts : PForest P) → 0 < count (shapes ts) → packets (pnode q ts) ≡ packets_in ts
  packets_inner q pnil h = absurd (not-suc-le-zero h)
  packets_inner q (pcons t ts) h = refl

  at_leaf : (q : List (Entry P)) (ts : PForest P) (l : ℕ) (p : P) → count (shapes ts) ≡ 0
      → Permᴰ (packets (pnode (insert (entry l (packet p)) q) ts)) (p ∷ packets (pnode q ts))
  at_leaf q pnil l p h = Permᴰ.append_right [] (packets_insert l p q)
  at_leaf q (pcons t ts) l p h = absurd (omega arith)

  at_inner : (q r : List (Entry P)) (ts us : PForest P) (p : P) → 0 < count (shapes ts) → shapes us ≡ shapes ts
      → Permᴰ (packets_in us) (p ∷ packets_in ts) → Permᴰ (packets (pnode r us)) (p ∷ packets (pnode q ts))
  at_inner q r ts us p h e m = rw (packets_inner q ts h, packets_inner r us (rw e h)) m

  mutual
    pub push_packets : (t : PTree P) (ss : List Step) (l : ℕ) (p : P) → path_fault (shape t) ss ≡ 0
        → Permᴰ (packets (push t ss l p)) (p ∷ packets t)
    push_packets (pnode q ts) [] l p h = at_leaf q ts l p (fault_end (node (shapes ts)) h)
    push_packets (pnode q ts) (step zero r ∷ ss) l p h = absurd (not-suc-le-zero (fault_step (node (shapes ts)) 0 r ss h).low)
    push_packets (pnode q ts) (step (suc i) r ∷ ss) l p h =
        let f = fault_step (node (shapes ts)) (suc i) r ss h in
        at_inner q (insert (entry r (child (suc i))) q) ts (push_at ts (suc i) ss l p) p (omega (arith, f.high))
        (push_at_shapes ts (suc i) ss l p) (push_at_packets ts i ss l p f.high f.rest)

    push_at_packets : (ts : PForest P) (i : ℕ) (ss : List Step) (l : ℕ) (p : P) → i < count (shapes ts) → path_fault (nth (shapes ts) i) ss ≡ 0
        → Permᴰ (packets_in (push_at ts (suc i) ss l p)) (p ∷ packets_in ts)
    push_at_packets pnil i ss l p g h = absurd (not-suc-le-zero g)
    push_at_packets (pcons t ts) zero ss l p g h = Permᴰ.append_right (packets_in ts) (push_packets t ss l p h)
    push_at_packets (pcons t ts) (suc i) ss l p g h = perm_front (packets t) p (packets_in ts) (push_at_packets ts i ss l p (le_of_suc-le-suc g) h)

  pub push-held : (t : PTree P) (ss : List Step) (l : ℕ) (p : P) → path_fault (shape t) ss ≡ 0 → held (push t ss l p) ≡ suc (held t)
  push-held t ss l p h = length_perm (push_packets t ss l p h)

  -- The entry of child c is counted for that child and for no other.
  counted_before : (r c k : ℕ) (q : List (Entry P)) (ts : PForest P) → c < k → counted q k ts ≡ true → counted (insert (entry r (child c)) q) k ts ≡ true
  counted_before r c k q pnil g h = refl
  counted_before r c k q (pcons t ts) g h =
      let p = counted_parts q k t ts h in
      counted-cons (insert (entry r (child c)) q) k t ts
      (omega (arith, occurs_insert k (entry r (child c)) q, is_other k c (omega arith)))
      (counted_before r c (suc k) q ts (omega arith) p.1)

  counted-push : (r c k : ℕ) (q : List (Entry P)) (ts : PForest P) (i : ℕ) (ss : List Step) (l : ℕ) (p : P) → c ≡ k + i
      → i < count (shapes ts) → path_fault (nth (shapes ts) i) ss ≡ 0 → counted q k ts ≡ true
      → counted (insert (entry r (child c)) q) k (push_at ts (suc i) ss l p) ≡ true
  counted-push r c k q pnil i ss l p e g f h = absurd (not-suc-le-zero g)
  counted-push r c k q (pcons t ts) zero ss l p e g f h =
      let o = counted_parts q k t ts h in
      counted-cons (insert (entry r (child c)) q) k (push t ss l p) ts
      (omega (arith, occurs_insert k (entry r (child c)) q, is_same k c (omega arith), push-held t ss l p f))
      (counted_before r c (suc k) q ts (omega arith) o.1)
  counted-push r c k q (pcons t ts) (suc i) ss l p e g f h =
      let o = counted_parts q k t ts h in
      counted-cons (insert (entry r (child c)) q) k t (push_at ts (suc i) ss l p)
      (omega (arith, occurs_insert k (entry r (child c)) q, is_other k c (omega arith)))
      (counted-push r c (suc k) q ts i ss l p (omega arith) (le_of_suc-le-suc g) f o.1)

  own_child : (n r i : ℕ) (q : List (Entry P)) → i < n → every (allowed n) q ≡ true → every (allowed n) (insert (entry r (child (suc i))) q) ≡ true
  own_child zero r i q g h = absurd (not-suc-le-zero g)
  own_child (suc n) r i q g h =
      rw (every_insert (allowed (suc n)) (entry r (child (suc i))) q)
      (and_both (and_both (le-leb 1 (suc i) (omega arith)) (le-leb (suc i) (suc n) g)) h)

  well_leaf : (q : List (Entry P)) (ts : PForest P) (l : ℕ) (p : P) → count (shapes ts) ≡ 0 → Well q ts
      → well (pnode (insert (entry l (packet p)) q) ts) ≡ true
  well_leaf q pnil l p e w =
      parts_well (insert (entry l (packet p)) q) pnil record {
        rises = insert_rises 0 (entry l (packet p)) q zero-le w.rises;
        own = rw (every_insert (allowed 0) (entry l (packet p)) q) w.own;
        counts = refl;
        below = refl;
      }
  well_leaf q (pcons t ts) l p e w = absurd (omega arith)

  well_inner : (q : List (Entry P)) (ts : PForest P) (r i : ℕ) (ss : List Step) (l : ℕ) (p : P) → Faultless (node (shapes ts)) (suc i) ss
      → Well q ts → wells (push_at ts (suc i) ss l p) ≡ true
      → well (pnode (insert (entry r (child (suc i))) q) (push_at ts (suc i) ss l p)) ≡ true
  well_inner q ts r i ss l p f w b =
      let own = own_child (count (shapes ts)) r i q f.high w.own in
      parts_well (insert (entry r (child (suc i))) q) (push_at ts (suc i) ss l p) record {
        rises = insert_rises 0 (entry r (child (suc i))) q zero-le w.rises;
        own = rw (push_at_shapes ts (suc i) ss l p) own;
        counts = counted-push r (suc i) 1 q ts i ss l p (sym (one-add i)) f.high f.rest w.counts;
        below = b;
      }

  mutual
    pub push_well : (t : PTree P) (ss : List Step) (l : ℕ) (p : P) → path_fault (shape t) ss ≡ 0 → well t ≡ true → well (push t ss l p) ≡ true
    push_well (pnode q ts) [] l p h w = well_leaf q ts l p (fault_end (node (shapes ts)) h) (well_parts q ts w)
    push_well (pnode q ts) (step zero r ∷ ss) l p h w = absurd (not-suc-le-zero (fault_step (node (shapes ts)) 0 r ss h).low)
    push_well (pnode q ts) (step (suc i) r ∷ ss) l p h w =
        let f = fault_step (node (shapes ts)) (suc i) r ss h in
        let v = well_parts q ts w in
        well_inner q ts r i ss l p f v (push_at_wells ts i ss l p f.high f.rest v.below)

    push_at_wells : (ts : PForest P) (i : ℕ) (ss : List Step) (l : ℕ) (p : P) → i < count (shapes ts) → path_fault (nth (shapes ts) i) ss ≡ 0
        → wells ts ≡ true → wells (push_at ts (suc i) ss l p) ≡ true
    push_at_wells pnil i ss l p g h w = refl
    push_at_wells (pcons t ts) zero ss l p g h w =
        let b = and_parts (well t) (wells ts) w in
        and_both (push_well t ss l p h b.0) b.1
    push_at_wells (pcons t ts) (suc i) ss l p g h w =
        let b = and_parts (well t) (wells ts) w in
        and_both b.0 (push_at_wells ts i ss l p (le_of_suc-le-suc g) h b.1)

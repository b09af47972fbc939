-- A pop of a well-formed tree (Lemma 3.9 (ii) of document 001). It gives no packet exactly where the tree holds none. Else the packets held before it
-- are the packet that it gives and those held after it, and the tree keeps its topology and stays well formed.
use mathlib.Core.Path.{◌≡◌, refl, sym, ap, subst}
use Prim.Native.Nat.{ℕ, zero, suc, ◌+◌, ◌≤◌, ◌<◌, zero-le}
use native.Mathlib.Nat.{not-suc-le-zero, le_of_suc-le-suc}
use native.Mathlib.Numerals.{one-add}
use native.Mathlib.Omega.{arith}
use mathlib.Core.List.Permᴰ
use mathlib.Core.List.{List, [], ◌∷◌, Permᴰ}
use mathlib.Core.Bool.{true, ◌&&◌}
use mathlib.Core.Option.{Option, none, some}
use lib.Dec.{leb}
use borrow.Author.Tests.{leb-true}
use Rattle.base.proofs.Permutation.{length_perm, perm_front}
use Rattle.std.proofs.lemmas.Bool.{and_parts}
use Rattle.base.proofs.Tests.{clash, and_both}
use Rattle.topology.specs.Tree.{node, count}
use Rattle.pifo_model.specs.Queue.{Entry, child, packet, entry, allowed, every, occurs}
use Rattle.pifo_model.specs.Tree.{PTree, PForest, pnode, pnil, pcons, shape, shapes, pop, pop_at, with_queue, with_later, with-elder, packets, packets_in, held, counted, well, wells}
use Rattle.pifo_model.proofs.Insert.{rises_head, rises_from_lem}
use Rattle.pifo_model.proofs.Well.{Well, well_parts, parts_well, counted_parts, counted-cons, is_same, is_other, length-held}
use Rattle.pifo_model.proofs.Push.{packets_inner}

module _ {P : Type 0} where
  -- what a pop that gives packet p leaves of tree t
  pub record Left (t : PTree P) (p : P) (u : PTree P) : Type 0 where
    pub contents : Permᴰ (packets t) (p ∷ packets u)
    pub sound : well u ≡ true
    pub same : shape u ≡ shape t

  abbrev pub Popped : PTree P → Option (P × PTree P) → Type 0
  Popped t none = held t ≡ 0
  Popped t (some (p, u)) = Left t p u

  -- The same for a forest: the entry of the child that gives the packet is already taken from q, the parent's queue.
  record LeftAt (q : List (Entry P)) (k : ℕ) (ts : PForest P) (p : P) (us : PForest P) : Type 0 where
    contents : Permᴰ (packets_in ts) (p ∷ packets_in us)
    sound : wells us ≡ true
    same : shapes us ≡ shapes ts
    counts : counted q k us ≡ true

  abbrev PoppedAt : List (Entry P) → ℕ → PForest P → Option (P × PForest P) → Type 0
  PoppedAt q k ts none = ⊥
  PoppedAt q k ts (some (p, us)) = LeftAt q k ts p us

  -- an entry of child c is counted for that child and for no other
  counted_after : (r c k : ℕ) (q : List (Entry P)) (ts : PForest P) → c < k → counted (entry r (child c) ∷ q) k ts ≡ true → counted q k ts ≡ true
  counted_after r c k q pnil g h = refl
  counted_after r c k q (pcons t ts) g h =
      let o = counted_parts (entry r (child c) ∷ q) k t ts h in
      counted-cons q k t ts (omega (arith, is_other k c (omega arith))) (counted_after r c (suc k) q ts (omega arith) o.1)

  here : (r c k : ℕ) (q : List (Entry P)) (t : PTree P) (ts : PForest P) → c ≡ k + 0 → wells ts ≡ true
      → counted (entry r (child c) ∷ q) k (pcons t ts) ≡ true → (o : Option (P × PTree P)) → Popped t o → PoppedAt q k (pcons t ts) (with_later ts o)
  here r c k q t ts e w h none z =
      let o = counted_parts (entry r (child c) ∷ q) k t ts h in
      absurd (omega (arith, is_same k c (omega arith)))
  here r c k q t ts e w h (some (p, u)) z =
      let o = counted_parts (entry r (child c) ∷ q) k t ts h in
      record {
        contents = Permᴰ.append_right (packets_in ts) z.contents;
        sound = and_both z.sound w;
        same = rw z.same;
        counts = counted-cons q k u ts (omega (arith, is_same k c (omega arith), length_perm z.contents)) (counted_after r c (suc k) q ts (omega arith) o.1);
      }

  later : (q : List (Entry P)) (k : ℕ) (t : PTree P) (ts : PForest P) → well t ≡ true → occurs k q ≡ held t
      → (o : Option (P × PForest P)) → PoppedAt q (suc k) ts o → PoppedAt q k (pcons t ts) (with-elder t o)
  later q k t ts w e none z = z
  later q k t ts w e (some (p, us)) z =
      record {
        contents = perm_front (packets t) p (packets_in us) z.contents;
        sound = and_both w z.sound;
        same = rw z.same;
        counts = counted-cons q k t us e z.counts;
      }

  -- a node's queue without its head
  tail_well : (e : Entry P) (q : List (Entry P)) (ts us : PForest P) → Well (e ∷ q) ts → shapes us ≡ shapes ts → counted q 1 us ≡ true → wells us ≡ true
      → well (pnode q us) ≡ true
  tail_well (entry r x) q ts us w s c b =
      parts_well q us record {
        rises = rises_from_lem r 0 q zero-le (rises_head 0 (entry r x) q w.rises).1;
        own = rw s (and_parts (allowed (count (shapes ts)) x) (every (allowed (count (shapes ts))) q) w.own).1;
        counts = c;
        below = b;
      }

  of_packet : (r : ℕ) (p : P) (q : List (Entry P)) (ts : PForest P) → Well (entry r (packet p) ∷ q) ts → Left (pnode (entry r (packet p) ∷ q) ts) p (pnode q ts)
  of_packet r p q pnil w =
      record {
        contents = Permᴰ.refl (packets (pnode (entry r (packet p) ∷ q) pnil));
        sound = tail_well (entry r (packet p)) q pnil pnil w refl refl refl;
        same = refl;
      }
  of_packet r p q (pcons t ts) w = absurd (clash (cc))

  of_child : (r c : ℕ) (q : List (Entry P)) (ts : PForest P) → Well (entry r (child c) ∷ q) ts → 0 < count (shapes ts)
      → (o : Option (P × PForest P)) → PoppedAt q 1 ts o → Popped (pnode (entry r (child c) ∷ q) ts) (with_queue q o)
  of_child r c q ts w h none z = absurd z
  of_child r c q ts w h (some (p, us)) z =
      record {
        contents = rw (packets_inner (entry r (child c) ∷ q) ts h, packets_inner q us (rw z.same h)) z.contents;
        sound = tail_well (entry r (child c)) q ts us w z.same z.counts z.sound;
        same = ap node z.same;
      }

  -- a packet is allowed at a leaf only, and a child number that is allowed is one of the node's
  pub leaf_own : (n r : ℕ) (p : P) (q : List (Entry P)) → every (allowed n) (entry r (packet p) ∷ q) ≡ true → n ≡ 0
  leaf_own zero r p q h = refl
  leaf_own (suc n) r p q h = absurd (clash (cc))

  pub child_own : (n r c : ℕ) (q : List (Entry P)) → every (allowed n) (entry r (child c) ∷ q) ≡ true → (0 < c) × (c ≤ n)
  child_own zero r c q h = absurd (clash (cc))
  child_own (suc n) r c q h =
      let b = and_parts (leb 1 c && leb c (suc n)) (every (allowed (suc n)) q) h in
      let l = and_parts (leb 1 c) (leb c (suc n)) b.0 in
      (leb-true 1 c l.0, leb-true c (suc n) l.1)

  mutual
    pub popped : (t : PTree P) → well t ≡ true → Popped t (pop t)
    popped (pnode [] ts) h = sym (length-held [] ts h)
    popped (pnode (entry r (packet p) ∷ q) ts) h = of_packet r p q ts (well_parts (entry r (packet p) ∷ q) ts h)
    popped (pnode (entry r (child zero) ∷ q) ts) h =
        absurd (not-suc-le-zero (child_own (count (shapes ts)) r 0 q (well_parts (entry r (child 0) ∷ q) ts h).own).0)
    popped (pnode (entry r (child (suc i)) ∷ q) ts) h =
        let w = well_parts (entry r (child (suc i)) ∷ q) ts h in
        let o = child_own (count (shapes ts)) r (suc i) q w.own in
        of_child r (suc i) q ts w (omega arith) (pop_at ts (suc i)) (popped_at ts i r (suc i) 1 q (sym (one-add i)) o.1 w.below w.counts)

    popped_at : (ts : PForest P) (i r c k : ℕ) (q : List (Entry P)) → c ≡ k + i → i < count (shapes ts) → wells ts ≡ true
        → counted (entry r (child c) ∷ q) k ts ≡ true → PoppedAt q k ts (pop_at ts (suc i))
    popped_at pnil i r c k q e g w h = absurd (not-suc-le-zero g)
    popped_at (pcons t ts) zero r c k q e g w h =
        let b = and_parts (well t) (wells ts) w in
        here r c k q t ts e b.1 h (pop t) (popped t b.0)
    popped_at (pcons t ts) (suc i) r c k q e g w h =
        let b = and_parts (well t) (wells ts) w in
        let o = counted_parts (entry r (child c) ∷ q) k t ts h in
        later q k t ts b.0 (omega (arith, is_other k c (omega arith), o.0)) (pop_at ts (suc i))
        (popped_at ts i r c (suc k) q (omega arith) (le_of_suc-le-suc g) b.1 o.1)

  pub pop_none : (t : PTree P) → well t ≡ true → pop t ≡ none → held t ≡ 0
  pop_none t h e = subst (Popped t) e (popped t h)

  pub none_pop : (t : PTree P) → well t ≡ true → held t ≡ 0 → pop t ≡ none
  none_pop t h e = by_pop (pop t) (popped t h)
    where
      by_pop : (o : Option (P × PTree P)) → Popped t o → o ≡ none
      by_pop none z = refl
      by_pop (some (p, u)) z = absurd (omega (arith, length_perm z.contents))

  pub pop_some : (t : PTree P) (p : P) (u : PTree P) → well t ≡ true → pop t ≡ some (p, u) → Left t p u
  pop_some t p u h e = subst (Popped t) e (popped t h)

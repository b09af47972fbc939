-- PUSH on one queue. `insert` adds exactly its entry and keeps the ranks in order from head to tail. `insert_place` gives the position of the entry:
-- behind every entry of no greater rank and before all others. So entries of equal rank leave in order of arrival.
use mathlib.Core.Path.{◌≡◌, refl, sym, ap, ◌∙◌}
use Prim.Native.Nat.{ℕ, ◌+◌, ◌≤◌, ◌<◌}
use native.Mathlib.Omega.{arith}
use mathlib.Core.List.Permᴰ
use mathlib.Core.List.{List, [], ◌∷◌, ◌++◌, append-nil, Permᴰ}
use mathlib.Core.Bool.{Bool, true, false, ◌&&◌, cond}
use lib.Seq.{append_snoc}
use lib.Dec.{leb, ltb}
use borrow.Author.Tests.{leb-true, ltb-true, ltb-false, le-leb, le-ltb}
use Rattle.std.proofs.lemmas.Bool.{and_parts}
use Rattle.base.proofs.Tests.{and_both, and_swap}
use Rattle.pifo_model.specs.Queue.{Entry, Item, rank, item, insert, rises_from, every, is_of, occurs}

module _ {P : Type 0} where
  pub rises_head : (r : ℕ) (e : Entry P) (q : List (Entry P)) → rises_from r (e ∷ q) ≡ true → (r ≤ rank e) × (rises_from (rank e) q ≡ true)
  rises_head r e q h =
      let b = and_parts (leb r (rank e)) (rises_from (rank e) q) h in
      (leb-true r (rank e) b.0, b.1)

  pub rises_cons : (r : ℕ) (e : Entry P) (q : List (Entry P)) → r ≤ rank e → rises_from (rank e) q ≡ true → rises_from r (e ∷ q) ≡ true
  rises_cons r e q l h = and_both (le-leb r (rank e) l) h

  -- also from a smaller lower bound
  pub rises_from_lem : (r s : ℕ) (q : List (Entry P)) → s ≤ r → rises_from r q ≡ true → rises_from s q ≡ true
  rises_from_lem r s [] l h = refl
  rises_from_lem r s (e ∷ q) l h =
      let p = rises_head r e q h in
      rises_cons s e q (omega arith) p.1

  pub insert_rises : (r : ℕ) (e : Entry P) (q : List (Entry P)) → r ≤ rank e → rises_from r q ≡ true → rises_from r (insert e q) ≡ true
  insert_rises r e [] l h = rises_cons r e [] l refl
  insert_rises r e (f ∷ q) l h =
      let p = rises_head r f q h in
      by_test (ltb (rank e) (rank f)) refl p.0 p.1 (λ g. insert_rises (rank f) e q g p.1)
    where
      by_test : (b : Bool) → ltb (rank e) (rank f) ≡ b → r ≤ rank f → rises_from (rank f) q ≡ true
          → (rank f ≤ rank e → rises_from (rank f) (insert e q) ≡ true) → rises_from r (cond b (e ∷ f ∷ q) (f ∷ insert e q)) ≡ true
      by_test true t g s k =
          let m = ltb-true (rank e) (rank f) t in
          rises_cons r e (f ∷ q) l (rises_cons (rank e) f q (omega arith) s)
      by_test false t g s k = rises_cons r f (insert e q) g (k (ltb-false (rank e) (rank f) t))

  -- exactly the entry is added
  pub insert_perm : (e : Entry P) (q : List (Entry P)) → Permᴰ (insert e q) (e ∷ q)
  insert_perm e [] = Permᴰ.refl (e ∷ [])
  insert_perm e (f ∷ q) = by_test (ltb (rank e) (rank f)) (insert_perm e q)
    where
      by_test : (b : Bool) → Permᴰ (insert e q) (e ∷ q) → Permᴰ (cond b (e ∷ f ∷ q) (f ∷ insert e q)) (e ∷ f ∷ q)
      by_test true p = Permᴰ.refl (e ∷ f ∷ q)
      by_test false p = Permᴰ.trans (Permᴰ.cons refl p) (Permᴰ.swap refl refl)

  pub occurs_insert : (i : ℕ) (e : Entry P) (q : List (Entry P)) → occurs i (insert e q) ≡ is_of i (item e) + occurs i q
  occurs_insert i e [] = refl
  occurs_insert i e (f ∷ q) = by_test (ltb (rank e) (rank f)) (occurs_insert i e q)
    where
      by_test : (b : Bool) → occurs i (insert e q) ≡ is_of i (item e) + occurs i q
          → occurs i (cond b (e ∷ f ∷ q) (f ∷ insert e q)) ≡ is_of i (item e) + (is_of i (item f) + occurs i q)
      by_test true h = refl
      by_test false h = omega arith

  pub every_insert : (test : Item P → Bool) (e : Entry P) (q : List (Entry P)) → every test (insert e q) ≡ test (item e) && every test q
  every_insert test e [] = refl
  every_insert test e (f ∷ q) = by_test (ltb (rank e) (rank f)) (every_insert test e q)
    where
      by_test : (b : Bool) → every test (insert e q) ≡ test (item e) && every test q
          → every test (cond b (e ∷ f ∷ q) (f ∷ insert e q)) ≡ test (item e) && (test (item f) && every test q)
      by_test true h = refl
      by_test false h = rw h (and_swap (test (item f)) (test (item e)) (every test q))

  -- each entry's rank passes a test
  abbrev pub Ranks : (ℕ → Type 0) → List (Entry P) → Type 0
  Ranks test [] = Unit
  Ranks test (e ∷ q) = test (rank e) × Ranks test q

  -- the position of an entry in a queue into which it was inserted
  pub record Place (e : Entry P) (q : List (Entry P)) : Type 0 where
    pub front : List (Entry P)
    pub back : List (Entry P)
    pub whole : q ≡ front ++ back
    pub put : insert e q ≡ front ++ (e ∷ back)
    pub earlier : Ranks (λ r. r ≤ rank e) front
    pub later : Ranks (λ r. rank e < r) back

  later_ranks : (k r : ℕ) (q : List (Entry P)) → k < r → rises_from r q ≡ true → Ranks (λ s. k < s) q
  later_ranks k r [] l h = tt
  later_ranks k r (e ∷ q) l h =
      let p = rises_head r e q h in
      (omega arith, later_ranks k (rank e) q (omega arith) p.1)

  pub insert_place : (r : ℕ) (e : Entry P) (q : List (Entry P)) → rises_from r q ≡ true → Place e q
  insert_place r e [] h = record { front = []; back = []; whole = refl; put = refl; earlier = tt; later = tt }
  insert_place r e (f ∷ q) h =
      let p = rises_head r f q h in
      by_test (ltb (rank e) (rank f)) refl p.1 (insert_place (rank f) e q p.1)
    where
      by_test : (b : Bool) → ltb (rank e) (rank f) ≡ b → rises_from (rank f) q ≡ true → Place e q → Place e (f ∷ q)
      by_test true t s k =
          let m = ltb-true (rank e) (rank f) t in
          record { front = []; back = f ∷ q; whole = refl; put = rw t; earlier = tt; later = (m, later_ranks (rank e) (rank f) q m s) }
      by_test false t s k =
          record {
            front = f ∷ k.front;
            back = k.back;
            whole = ap (λ (l : List (Entry P)). f ∷ l) k.whole;
            put = rw t (ap (λ (l : List (Entry P)). f ∷ l) k.put);
            earlier = (ltb-false (rank e) (rank f) t, k.earlier);
            later = k.later;
          }

  -- Entries of one rank, inserted one after the other behind others of that rank, are in order of arrival.
  insert_last : (r : ℕ) (e : Entry P) (q : List (Entry P)) → rank e ≡ r → Ranks (λ s. s ≡ r) q → insert e q ≡ q ++ (e ∷ [])
  insert_last r e [] i h = refl
  insert_last r e (f ∷ q) i (g, h) = rw (le-ltb (rank e) (rank f) (omega arith), insert_last r e q i h)

  ranks_snoc : (r : ℕ) (e : Entry P) (q : List (Entry P)) → rank e ≡ r → Ranks (λ s. s ≡ r) q → Ranks (λ s. s ≡ r) (q ++ (e ∷ []))
  ranks_snoc r e [] i h = (i, tt)
  ranks_snoc r e (f ∷ q) i (g, h) = (g, ranks_snoc r e q i h)

  abbrev pub arrive : List (Entry P) → List (Entry P) → List (Entry P)
  arrive q [] = q
  arrive q (e ∷ es) = arrive (insert e q) es

  pub arrive_order : (r : ℕ) (q es : List (Entry P)) → Ranks (λ s. s ≡ r) q → Ranks (λ s. s ≡ r) es → arrive q es ≡ q ++ es
  arrive_order r q [] g h = sym (append-nil q)
  arrive_order r q (e ∷ es) g (i, h) =
      ap (λ (k : List (Entry P)). arrive k es) (insert_last r e q i g)
      ∙ arrive_order r (q ++ (e ∷ [])) es (ranks_snoc r e q i g) h
      ∙ append_snoc q e es

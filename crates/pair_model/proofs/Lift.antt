-- To lift the entries of a queue is to replace each by an entry of the same rank or to leave it out. Lifting commutes with insertion: to insert an
-- entry and then lift gives the same queue as to lift and then insert the lifted entry, if the ranks in the queue never fall. (Otherwise it may not:
-- an entry that is left out may have stopped the new one from going further back.)
use mathlib.Core.Path.{◌≡◌, refl, sym, ap, ◌∙◌}
use Prim.Native.Nat.{ℕ, ◌≤◌, ◌<◌}
use native.Mathlib.Omega.{arith}
use mathlib.Core.List.{List, [], ◌∷◌, ◌++◌}
use mathlib.Core.Bool.{Bool, true, false, cond}
use mathlib.Core.Option.{Option, none, some}
use lib.Dec.{ltb}
use borrow.Author.Tests.{ltb-true, ltb-false, lt-ltb, le-ltb}
use Rattle.topology.specs.Address.{Addr}
use Rattle.pifo_model.specs.Queue.{Entry, child, packet, entry, rank, insert, rises_from, insert_some}
use Rattle.pifo_model.proofs.Insert.{rises_head, rises_cons, rises_from_lem}
use Rattle.pifo_model.specs.Addressed.{atop}
use Rattle.pair_model.specs.Mirror.{toward, ranked, lift, lifted}

module _ {P : Type 0} where
  -- the lift of an entry has the entry's rank
  abbrev pub RankOf : Entry P → Option (Entry P) → Type 0
  RankOf e none = Unit
  RankOf e (some f) = rank f ≡ rank e

  pub lift_rank : (F : Addr → Addr) (b a : Addr) (e : Entry P) → RankOf e (lift F b a e)
  lift_rank F b a (entry r (packet p)) = refl
  lift_rank F b a (entry r (child i)) = of_child (toward a (F (b ++ (i ∷ []))))
    where
      of_child : (o : Option ℕ) → RankOf (entry r (child i)) (ranked r o)
      of_child none = tt
      of_child (some j) = refl

  -- the lift of an entry, if there is one
  abbrev pub after : (Entry P → Option (Entry P)) → Option (Entry P) → Option (Entry P)
  after f none = none
  after f (some e) = f e

  pub lifted_atop : (f : Entry P → Option (Entry P)) (o : Option (Entry P)) (q : List (Entry P)) → lifted f (atop o q) ≡ atop (after f o) (lifted f q)
  lifted_atop f none q = refl
  lifted_atop f (some e) q = refl

  insert_first : (e : Entry P) (k : ℕ) (q : List (Entry P)) → rank e < k → rises_from k q ≡ true → insert e q ≡ e ∷ q
  insert_first e k [] l h = refl
  insert_first e k (x ∷ q) l h =
      let g = rises_head k x q h in
      rw (lt-ltb (rank e) (rank x) (omega arith))

  module _ (f : Entry P → Option (Entry P)) (keeps : (e : Entry P) → RankOf e (f e)) where
    lifted_rises : (r : ℕ) (q : List (Entry P)) → rises_from r q ≡ true → rises_from r (lifted f q) ≡ true
    lifted_rises r [] h = refl
    lifted_rises r (e ∷ q) h =
        let g = rises_head r e q h in
        by_lift (f e) (keeps e) g.0 (lifted_rises (rank e) q g.1)
      where
        by_lift : (o : Option (Entry P)) → RankOf e o → r ≤ rank e → rises_from (rank e) (lifted f q) ≡ true → rises_from r (atop o (lifted f q)) ≡ true
        by_lift none k l g = rises_from_lem (rank e) r (lifted f q) l g
        by_lift (some x) k l g = rises_cons r x (lifted f q) (omega arith) (rw k g)

    pub lifted_insert : (r : ℕ) (e : Entry P) (q : List (Entry P)) → rises_from r q ≡ true → lifted f (insert e q) ≡ insert_some (f e) (lifted f q)
    lifted_insert r e [] h = by_lift (f e)
      where
        by_lift : (o : Option (Entry P)) → atop o [] ≡ insert_some o []
        by_lift none = refl
        by_lift (some x) = refl
    lifted_insert r e (x ∷ q) h =
        let g = rises_head r x q h in
        by_test (ltb (rank e) (rank x)) refl (lifted_rises (rank x) (x ∷ q) (rises_cons (rank x) x q (omega arith) g.1)) (lifted_insert (rank x) e q g.1)
      where
        before : (o : Option (Entry P)) → RankOf e o → rank e < rank x → rises_from (rank x) (lifted f (x ∷ q)) ≡ true
            → atop o (lifted f (x ∷ q)) ≡ insert_some o (lifted f (x ∷ q))
        before none k l g = refl
        before (some y) k l g = sym (insert_first y (rank x) (lifted f (x ∷ q)) (omega arith) g)

        behind : (o u : Option (Entry P)) → RankOf e o → RankOf x u → rank x ≤ rank e → (k : List (Entry P)) → atop u (insert_some o k) ≡ insert_some o (atop u k)
        behind none u i j l k = refl
        behind (some y) none i j l k = refl
        behind (some y) (some z) i j l k = rw (le-ltb (rank y) (rank z) (omega arith))

        by_test : (b : Bool) → ltb (rank e) (rank x) ≡ b → rises_from (rank x) (lifted f (x ∷ q)) ≡ true → lifted f (insert e q) ≡ insert_some (f e) (lifted f q)
            → lifted f (cond b (e ∷ x ∷ q) (x ∷ insert e q)) ≡ insert_some (f e) (lifted f (x ∷ q))
        by_test true t g h = before (f e) (keeps e) (ltb-true (rank e) (rank x) t) g
        by_test false t g h =
            ap (atop (f x)) h ∙ behind (f e) (f x) (keeps e) (keeps x) (ltb-false (rank e) (rank x) t) (lifted f q)

    pub lifted_put : (o : Option (Entry P)) (q : List (Entry P)) → rises_from 0 q ≡ true → lifted f (insert_some o q) ≡ insert_some (after f o) (lifted f q)
    lifted_put none q h = refl
    lifted_put (some e) q h = lifted_insert 0 e q h

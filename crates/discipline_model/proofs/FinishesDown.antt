-- The finishes after a push to a leaf. If a node on the way acts as weighted, its child on the way gets the finish of Figure 1 (`finish-written`).
-- Every other finish stays (`finish_elsewhere`), also that of a passed node's child (`passed_finish`). Refusal 23 depends on the finishes that are
-- written (`finish-within`, `finishes_fit`), and a passed node writes none (`passed_fits`).
use mathlib.Core.Path.{◌≡◌, refl, sym, ap, ◌∙◌}
use mathlib.Core.Logic.{◌≢◌}
use Prim.Native.Nat.{ℕ, ◌≤◌, ◌<◌}
use native.Mathlib.Omega.{arith}
use mathlib.Core.List.{List, ◌∷◌, ◌++◌}
use mathlib.Core.Bool.{Bool, true, false, cond}
use lib.ListN.{length, get_or, set, length-set}
use lib.Seq.{get_or-set_same, get_or-set_other}
use lib.Dec.{eqb, leb}
use borrow.Author.Tests.{eqb-true, le-leb, leb-true}
use Rattle.std.proofs.lemmas.Bool.{and_parts}
use Rattle.base.proofs.Tests.{and_both}
use Rattle.topology.specs.Tree.{Topo, width, size}
use Rattle.topology.specs.Address.{Addr, addr, subtree, child_of}
use Rattle.topology.proofs.Children.{HasChild, child_of_lt, child_of_after, parent_unique}
use Rattle.pifo_model.specs.Queue.{Rank}
use Rattle.discipline_model.specs.Figure.{weighted, kind_at, acts_at, finish, most_finish, finish_by, fits_by, finishes_down, fits_down}
use Rattle.discipline_model.specs.declared.Disciplines.{Disciplines}
use Rattle.discipline_model.proofs.ActsAt.{acts_passed}
use Rattle.discipline_model.proofs.Route.{OnWay, way_on, way_from, way_ind}

by_length : (k c f : ℕ) (fs : List Rank) → length (finish_by k c f fs) ≡ length fs
by_length k c f fs = by_test (eqb k weighted)
  where
    by_test : (b : Bool) → length (cond b (set fs c f) fs) ≡ length fs
    by_test true = length-set fs c f
    by_test false = refl

-- at a child with another number, and at a node that is not weighted, nothing is written
by_other : (k c f x : ℕ) (fs : List Rank) → (k ≡ weighted → c ≢ x) → get_or (finish_by k c f fs) x 0 ≡ get_or fs x 0
by_other k c f x fs h = by_test (eqb k weighted) refl
  where
    by_test : (b : Bool) → eqb k weighted ≡ b → get_or (cond b (set fs c f) fs) x 0 ≡ get_or fs x 0
    by_test true e = get_or-set_other fs c x f 0 (λ q. h (eqb-true k weighted e) (sym q))
    by_test false e = refl

fits_weighted : (k f : ℕ) → (k ≡ weighted → f ≤ most_finish) → fits_by k f ≡ true
fits_weighted k f h = by_test (eqb k weighted) refl
  where
    by_test : (b : Bool) → eqb k weighted ≡ b → cond b (leb f most_finish) true ≡ true
    by_test true e = le-leb f most_finish (h (eqb-true k weighted e))
    by_test false e = refl

module _ (t : Topo) (d : Disciplines) (len : ℕ) where
  module _ (leaf : ℕ) (l : leaf < size t) where
    pub finish_elsewhere : (x : ℕ) → ((n i : ℕ) → OnWay t leaf n i → acts_at t d.rules n ≡ weighted → child_of t n i ≢ x) → (fs : List Rank)
        → get_or (finishes_down t d len 0 (addr t leaf) fs) x 0 ≡ get_or fs x 0
    finish_elsewhere x other =
        way_ind t leaf l (λ (n : ℕ) (a : Addr). (fs : List Rank) → get_or (finishes_down t d len n a fs) x 0 ≡ get_or fs x 0) (λ fs. refl)
        (λ n i a on rest fs.
        let c = child_of t n i in
        let f = finish d n c len in
        rest (finish_by (acts_at t d.rules n) c f fs) ∙ by_other (acts_at t d.rules n) c f x fs (other n i on))

    -- a push through a passed node leaves its child's finish as it was: no other node writes it
    pub passed_finish : (n i : ℕ) → HasChild t n i → width (subtree t n) ≡ 1 → (fs : List Rank)
        → get_or (finishes_down t d len 0 (addr t leaf) fs) (child_of t n i) 0 ≡ get_or fs (child_of t n i) 0
    passed_finish n i has one =
        finish_elsewhere (child_of t n i) (λ m j on k e.
        let same = (parent_unique t m j n i on.has has e).0 in
        let idle = acts_passed (width (subtree t n)) (kind_at d.rules n) one in
        omega (arith, k, ap (acts_at t d.rules) same, idle))

    -- below a node the finishes of nodes up to that one stay
    finish_before : (x n : ℕ) (a : Addr) → n < size t → addr t leaf ≡ addr t n ++ a → x ≤ n → (fs : List Rank)
        → get_or (finishes_down t d len n a fs) x 0 ≡ get_or fs x 0
    finish_before x =
        way_from t leaf l (λ (n : ℕ) (a : Addr). x ≤ n → (fs : List Rank) → get_or (finishes_down t d len n a fs) x 0 ≡ get_or fs x 0) (λ h fs. refl)
        (λ n i a on rest h fs.
        let c = child_of t n i in
        let f = finish d n c len in
        let after = child_of_after t n i on.has in
        rest (omega arith) (finish_by (acts_at t d.rules n) c f fs) ∙ by_other (acts_at t d.rules n) c f x fs (λ k e. omega (arith, after, e)))

    module _ (n i : ℕ) (w : OnWay t leaf n i) (k : acts_at t d.rules n ≡ weighted) where
      abbrev c : ℕ
      c = child_of t n i

      pub finish-written : (fs : List Rank) → c < length fs → get_or (finishes_down t d len 0 (addr t leaf) fs) c 0 ≡ finish d n c len
      finish-written =
          rw (way_on t leaf n i w)
          (way_ind t n w.has.0
          (λ (m : ℕ) (b : Addr). (fs : List Rank) → c < length fs → get_or (finishes_down t d len m (b ++ (i ∷ w.above.0)) fs) c 0 ≡ finish d n c len)
          (λ fs h.
          finish_before c c w.above.0 (child_of_lt t n i w.has) w.above.1 (omega arith) (finish_by (acts_at t d.rules n) c (finish d n c len) fs)
          ∙ rw k (get_or-set_same fs c (finish d n c len) 0 h))
          (λ m j b on below fs h.
          let x = child_of t m j in
          let f = finish d m x len in
          below (finish_by (acts_at t d.rules m) x f fs) (omega (arith, h, by_length (acts_at t d.rules m) x f fs))))

      pub finish-within : fits_down t d len 0 (addr t leaf) ≡ true → finish d n c len ≤ most_finish
      finish-within =
          rw (way_on t leaf n i w)
          (way_ind t n w.has.0 (λ (m : ℕ) (b : Addr). fits_down t d len m (b ++ (i ∷ w.above.0)) ≡ true → finish d n c len ≤ most_finish)
          (λ h. let f = (and_parts (fits_by (acts_at t d.rules n) (finish d n c len)) (fits_down t d len c w.above.0) h).0 in
          leb-true (finish d n c len) most_finish (rw k at f))
          (λ m j b on below h.
          let x = child_of t m j in
          below (and_parts (fits_by (acts_at t d.rules m) (finish d m x len)) (fits_down t d len x (b ++ (i ∷ w.above.0))) h).1))

    pub finishes_fit : ((n i : ℕ) → OnWay t leaf n i → acts_at t d.rules n ≡ weighted → finish d n (child_of t n i) len ≤ most_finish)
        → fits_down t d len 0 (addr t leaf) ≡ true
    finishes_fit h =
        way_ind t leaf l (λ (n : ℕ) (a : Addr). fits_down t d len n a ≡ true) refl
        (λ n i a on rest. and_both (fits_weighted (acts_at t d.rules n) (finish d n (child_of t n i) len) (h n i on)) rest)

  -- the finishes fit from a passed node down exactly where they fit from its child down
  pub passed_fits : (n i : ℕ) (a : Addr) → width (subtree t n) ≡ 1 → fits_down t d len n (i ∷ a) ≡ fits_down t d len (child_of t n i) a
  passed_fits n i a one = rw (acts_passed (width (subtree t n)) (kind_at d.rules n) one)

-- The loop over the nodes: one law for each iteration, and the end.
use Rattle.std.proofs.Common.{◌≡◌, refl, sym, ap, ◌∙◌, ℕ, zero, suc, ◌+◌, ◌≤◌, ◌<◌, min, arith}
use Rattle.std.proofs.Common.{List, [], ◌∷◌, length, get_or, take, Option, None, Some, unwrap_or, cond, eqb}
use lib.ListN.{set}
use native.Mathlib.Nat.{not-suc-le-zero, le_of_suc-le-suc, zero-add, add-zero}
use native.Mathlib.Numerals.{add-one}
use lib.Seq.{take-nil, set-get_or}
use Rattle.pifo_model.specs.Queue.{Rank}
use Rattle.queue_pop.specs.declared.Way.{Way}
use Rattle.discipline_model.specs.Figure.{weighted, kind_at, acts_by, number, discipline_of}
use Rattle.discipline_model.specs.declared.Discipline.{Discipline}
use Rattle.discipline_model.specs.declared.Discipline.TheVariants.{Arrival, Strict, Weighted}
use Rattle.discipline_model.specs.declared.Rule.{Rule}
use Rattle.discipline_model.specs.declared.Disciplines.{Disciplines}
use Rattle.discipline_model.proofs.ActsAt.{same_weighted}
use Rattle.discipline_clock.specs.Clock.{rank_in, times_by, with_times, clocked}

module _ (rules : List Rule) (at : ℕ → Option Rank) where
  -- the next node's time is not updated yet
  times-kept : (k n : ℕ) (bs l : List ℕ) (vs : List Rank) → get_or (times_by rules at k (take n bs) l vs) n 0 ≡ get_or vs n 0
  times-kept k zero bs l vs = refl
  times-kept k (suc n) [] l vs = refl
  times-kept k (suc n) (b ∷ bs) [] vs = refl
  times-kept k (suc n) (b ∷ bs) (a ∷ l) [] = refl
  times-kept k (suc n) (b ∷ bs) (a ∷ l) (v ∷ vs) = times-kept (suc k) n bs l vs

  -- one more node
  times-set : (k n : ℕ) (bs l : List ℕ) (vs : List Rank) (x : Rank) → n < length bs → n < length l → n < length vs
      → x ≡ cond (eqb (acts_by (get_or bs n 0) (kind_at rules (k + n))) weighted) (unwrap_or (at (get_or l n 0)) (get_or vs n 0)) (get_or vs n 0)
      → set (times_by rules at k (take n bs) l vs) n x ≡ times_by rules at k (take (suc n) bs) l vs
  times-set k n [] l vs x i h g e = absurd (not-suc-le-zero i)
  times-set k n (b ∷ bs) [] vs x i h g e = absurd (not-suc-le-zero h)
  times-set k n (b ∷ bs) (a ∷ l) [] x i h g e = absurd (not-suc-le-zero g)
  times-set k zero (b ∷ bs) (a ∷ l) (v ∷ vs) x i h g e = ap (λ (y : Rank). y ∷ vs) (rw (add-zero k) at e)
  times-set k (suc n) (b ∷ bs) (a ∷ l) (v ∷ vs) x i h g e =
      let m : k + suc n ≡ suc k + n = omega arith in
      ap (λ (ys : List Rank). cond (eqb (acts_by b (kind_at rules k)) weighted) (unwrap_or (at a) v) v ∷ ys)
      (times-set (suc k) n bs l vs x (le_of_suc-le-suc i) (le_of_suc-le-suc h) (le_of_suc-le-suc g) (rw m at e))

  -- the end: no byte, no image or no place is left
  times_all : (k n : ℕ) (bs l : List ℕ) (vs : List Rank) → min (min (length bs) (length l)) (length vs) ≤ n
      → times_by rules at k (take n bs) l vs ≡ times_by rules at k bs l vs
  times_all k n [] l vs o = rw (take-nil n)
  times_all k zero (b ∷ bs) [] vs o = refl
  times_all k zero (b ∷ bs) (a ∷ l) [] o = refl
  times_all k zero (b ∷ bs) (a ∷ l) (v ∷ vs) o = absurd (omega arith)
  times_all k (suc n) (b ∷ bs) [] vs o = refl
  times_all k (suc n) (b ∷ bs) (a ∷ l) [] o = refl
  times_all k (suc n) (b ∷ bs) (a ∷ l) (v ∷ vs) o =
      ap (λ (ys : List Rank). cond (eqb (acts_by b (kind_at rules k)) weighted) (unwrap_or (at a) v) v ∷ ys)
      (times_all (suc k) n bs l vs (omega arith))

module _ (d now : Disciplines) (w : Way) (bs l : List ℕ) (n : ℕ) (e : now ≡ clocked d (take n bs) w l) where
  pub clocked_all : min (min (length bs) (length l)) (length d.virtual_time) ≤ n → now ≡ clocked d bs w l
  clocked_all o = e ∙ ap (with_times d) (times_all d.rules (rank_in w) 0 n bs l d.virtual_time o)

  module _ (i : n < length bs) (h : n < length l) (g : n < length d.virtual_time) (acts : Discipline)
      (q : acts ≡ discipline_of (acts_by (get_or bs n 0) (kind_at now.rules n))) where
    next : (x : Rank)
        → x
        ≡ cond (eqb (acts_by (get_or bs n 0) (kind_at d.rules n)) weighted) (unwrap_or (rank_in w (get_or l n 0)) (get_or d.virtual_time n 0))
        (get_or d.virtual_time n 0)
        → with_times now (set now.virtual_time n x) ≡ clocked d (take (n + 1) bs) w l
    next x f = rw (e, add-one) (ap (with_times d) (times-set d.rules (rank_in w) 0 n bs l d.virtual_time x i h g (rw (zero-add n) f)))

    kind : eqb (acts_by (get_or bs n 0) (kind_at d.rules n)) weighted ≡ eqb (number acts) weighted
    kind =
        let rules : now.rules ≡ d.rules = ap (λ (x : Disciplines). x.rules) e in
        rw (q, rules) (sym (same_weighted (acts_by (get_or bs n 0) (kind_at d.rules n))))

    pub time_set : (r : Rank) → acts ≡ Weighted → rank_in w (get_or l n 0) ≡ Some r
        → with_times now (set now.virtual_time n r) ≡ clocked d (take (n + 1) bs) w l
    time_set r k f = next r (rw (kind, k, f))

    pub time_stays : (acts ≡ Weighted → rank_in w (get_or l n 0) ≡ None) → now ≡ clocked d (take (n + 1) bs) w l
    time_stays k =
        let old : get_or now.virtual_time n 0 ≡ get_or d.virtual_time n 0 = rw e (times-kept d.rules (rank_in w) 0 n bs l d.virtual_time) in
        ap (with_times now) (sym (set-get_or now.virtual_time n 0)) ∙ next (get_or now.virtual_time n 0) (rw (old, kind) (by_kind acts k))
      where
        by_kind : (a : Discipline) → (a ≡ Weighted → rank_in w (get_or l n 0) ≡ None)
            → get_or d.virtual_time n 0
            ≡ cond (eqb (number a) weighted) (unwrap_or (rank_in w (get_or l n 0)) (get_or d.virtual_time n 0)) (get_or d.virtual_time n 0)
        by_kind Arrival k = refl
        by_kind Strict k = refl
        by_kind Weighted k = rw (k refl)

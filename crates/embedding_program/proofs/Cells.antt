-- The loops that fill `go` for one source node and one target node: one child in the sets that contain it, one row, the row at the end, and all rows,
-- of which an earlier scan that began at the same end may have filled the first. For each loop there is a record, its invariant, with laws for the
-- loop's start, step and end.
use mathlib.Core.Path.{◌≡◌, refl, sym, ap, ◌∙◌, subst}
use Prim.Native.Nat.{ℕ, zero, suc, ◌+◌, ◌*◌, ◌-◌, ◌/◌, ◌%◌, ◌^◌, ◌≤◌, ◌<◌, min}
use native.Mathlib.Nat.{not-suc-le-zero, le_of_lt, mul_comm, mul-le-mul_right}
use Rattle.std.proofs.Math.Nat.{pow-succ'}
use native.Mathlib.Decide.{dec_lt, ℕ_discrete}
use native.Mathlib.Omega.{arith}
use mathlib.Core.List.{List}
use mathlib.Core.Bool.{Bool, true, false, cond}
use lib.ListN.{length, get_or, set, drop, replicate, length-set, length-replicate}
use lib.Seq.{get_or-set_same, get_or-set_other}
use lib.Dec.{eqb}
use borrow.Author.Tests.{eqb-true, eqb-false, eq-eqb, ne_eqb}
use Rattle.base.proofs.Tests.{clash}
use Rattle.embedding_program.specs.InnerSets.{number, holding, power, weight, no_images}
use Rattle.embedding_program.specs.InnerPlacing.{Member, Partial, Offer}
use Rattle.embedding_program.specs.InnerTables.{best_by, can_by, end_by, cell, LeastBy, Row, Ready, tried_by, Alternation, RowTried, RowCopied, RowFilled, LastRow, Scanned, Started, BranchOf, PlacedBelow}
use Rattle.embedding_program.proofs.Sets.{power_le, weight_le, holding_member, holding_less, before_first, between, holding-fits, number_bound, number-drop, number_odd, number_even, number_clear, number-full}
use Rattle.embedding_program.proofs.Placing.{end_empty, end_some, begin, try, finish, offer_absent, offer_closed, offer_open}

pub power-is : (k : ℕ) → 2 ^ k ≡ power k
power-is zero = refl
power-is (suc k) = pow-succ' 2 k ∙ ap (λ (n : ℕ). 2 * n) (power-is k)

pub power_some : (k : ℕ) → 1 ≤ power k
power_some k = power_le 0 k (omega arith)

pub power_256 : (k : ℕ) → k ≤ 8 → power k ≤ 256
power_256 k h = power_le k 8 h

pub weight-small : (i : ℕ) → i < 8 → weight i ≤ 4398046511104
weight-small i h = weight_le i 7 (omega arith)

-- a child's part of the number fits
pub part_fits : (p end i k w : ℕ) → p < end → end ≤ 64 → i < k → k ≤ 8 → w ≡ weight i → p * w ≤ no_images
part_fits p end i k w inside limit l few e =
    let small = weight-small i (omega arith) in
    let h : p < 64 = omega arith in
    omega (arith, mul-le-mul_right w (le_of_lt h))

pub power_next : (i : ℕ) → power i * 2 ≡ power (i + 1)
power_next i =
    let e : i + 1 ≡ suc i = omega arith in
    rw e (mul_comm (power i) 2)

weight_next : (i : ℕ) → weight i * 64 ≡ weight (i + 1)
weight_next i =
    let e : i + 1 ≡ suc i = omega arith in
    rw e (mul_comm (weight i) 64)

-- the number of sets of k children is an even multiple of the power of each child
power_even : (i k : ℕ) → i < k → (turns : ℕ) × (power k ≡ 2 * (turns * power i))
power_even i zero h = absurd (not-suc-le-zero h)
power_even zero (suc k) h = (power k, omega arith)
power_even (suc i) (suc k) h =
    let r = power_even i k (omega arith) in
    (r.0, omega (arith, r.1))

pub turns_of : (k i sets pow : ℕ) → k ≤ 8 → i < k → sets ≡ power k → pow ≡ power i → Alternation sets pow
turns_of k i sets pow few h all e =
    let r = power_even i k h in
    record {
      some = omega (arith, power_some i);
      few = omega (arith, power_256 k few);
      rounds = r.0;
      even = all ∙ r.1 ∙ ap (λ (x : ℕ). 2 * (r.0 * x)) (sym e);
    }

pub holding_in : (sets pow h : ℕ) → Alternation sets pow → h < sets / 2 → holding pow h < sets
holding_in sets pow h u l =
    let even = u.even in
    omega (arith, holding-fits pow u.some u.rounds h (omega arith))

row_kept : (best kids ends before go : List ℕ) (p q hi : ℕ) → ((i : ℕ) → (p + 1) * 256 ≤ i → get_or go i 0 ≡ get_or before i 0)
    → p < q → Row best kids ends before q hi → Row best kids ends go q hi
row_kept best kids ends before go p q hi kept l row bs e =
    subst (LeastBy best kids ends hi bs q) (sym (kept (q * 256 + number bs) (omega arith))) (row bs e)

ready_kept : (best kids ends before go : List ℕ) (p hi : ℕ) → ((i : ℕ) → (p + 1) * 256 ≤ i → get_or go i 0 ≡ get_or before i 0)
    → Ready best kids ends before p hi → Ready best kids ends go p hi
ready_kept best kids ends before go p hi kept r =
    record {
      inside = r.inside;
      grows = r.grows;
      next = row_kept best kids ends before go p (p + 1) hi kept (omega arith) r.next;
      past = row_kept best kids ends before go p (end_by ends p) hi kept (r.grows p r.inside) r.past;
    }

-- row p with the child tried in the sets before n, and its other entries as they were
pub record Trial (before : List ℕ) (p end pow here n : ℕ) (go : List ℕ) : Type 0 where
  pub row : RowTried before p end pow here n go
  pub rest : (j : ℕ) → n ≤ j → j < 256 → cell go p j ≡ cell before p j

-- Writing entries of row p keeps the rows behind it.
module _ (before : List ℕ) (p : ℕ) (l : p < 64) where
  module _ (end pow here : ℕ) where
    -- an entry for a set without the child, and for one with it
    tried_absent : (n : ℕ) → n / pow % 2 ≡ 0 → tried_by before p end pow here n ≡ cell before p n
    unfolding tried_by
    tried_absent n e = rw (eq-eqb (n / pow % 2) 0 e)

    tried_member : (n : ℕ) → n / pow % 2 ≡ 1 → tried_by before p end pow here n ≡ min (cell before p n) (here + cell before end (n - pow))
    unfolding tried_by
    tried_member n e = rw (ne_eqb (n / pow % 2) 0 (λ z. clash (sym z ∙ e)))

    -- sets without the child are skipped
    tried_over : (n m : ℕ) (go : List ℕ) → n ≤ m → Trial before p end pow here n go → ((j : ℕ) → n ≤ j → j < m → j / pow % 2 ≡ 0) → Trial before p end pow here m go
    tried_over n m go k w f =
        record {
          row = record {
            unchanged = w.row.unchanged;
            cells = λ j g. by_place j g (dec_lt j n) (dec_lt j 256);
          };
          rest = λ j g. w.rest j (omega arith);
        }
      where
        by_place : (j : ℕ) → j < m → Dec (j < n) → Dec (j < 256) → cell go p j ≡ tried_by before p end pow here j
        by_place j g (yes d) e = w.row.cells j d
        by_place j g (no d) (yes e) = w.rest j (omega arith) e ∙ sym (tried_absent j (f j (omega arith) g))
        by_place j g (no d) (no e) = w.row.unchanged (p * 256 + j) (omega arith) ∙ sym (tried_absent j (f j (omega arith) g))

    pub tried-start : 0 < pow → Trial before p end pow here (holding pow 0) before
    tried-start some = tried_over 0 (holding pow 0) before (omega arith) none_yet (λ j g. before_first pow some j)
      where
        none_yet : Trial before p end pow here 0 before
        none_yet =
            record {
              row = record { unchanged = λ i h. refl; cells = λ j h. absurd (not-suc-le-zero h) };
              rest = λ j h g. refl;
            }

    -- the next set with the child is tried
    tried_one : (n : ℕ) (go : List ℕ) → length go ≡ 16640 → Trial before p end pow here n go → n < 256 → p < end → n / pow % 2 ≡ 1 → (v : ℕ)
        → v ≡ min (cell go p n) (here + cell go end (n - pow)) → Trial before p end pow here (n + 1) (set go (p * 256 + n) v)
    tried_one n go places w h d m v e =
        record {
          row = record {
            unchanged = λ i g. get_or-set_other go (p * 256 + n) i v 0 (omega arith) ∙ w.row.unchanged i g;
            cells = λ j g. here_or_before j g (ℕ_discrete j n);
          };
          rest = λ j g k. get_or-set_other go (p * 256 + n) (p * 256 + j) v 0 (omega arith) ∙ w.rest j (omega arith) k;
        }
      where
        -- an entry that is not written yet, and the rows behind, are as they were
        is_tried : v ≡ tried_by before p end pow here n
        is_tried =
            e ∙ ap (λ (x : ℕ). min x (here + cell go end (n - pow))) (w.rest n (omega arith) h)
            ∙ ap (λ (x : ℕ). min (cell before p n) (here + x)) (w.row.unchanged (end * 256 + (n - pow)) (omega arith)) ∙ sym (tried_member n m)

        here_or_before : (j : ℕ) → j < n + 1 → Dec (j ≡ n) → cell (set go (p * 256 + n) v) p j ≡ tried_by before p end pow here j
        here_or_before j g (yes q) = rw q (get_or-set_same go (p * 256 + n) v 0 (omega arith) ∙ is_tried)
        here_or_before j g (no q) = get_or-set_other go (p * 256 + n) (p * 256 + j) v 0 (omega arith) ∙ w.row.cells j (omega arith)

    pub tried_next : (h : ℕ) (go : List ℕ) → length go ≡ 16640 → 0 < pow → Trial before p end pow here (holding pow h) go
        → holding pow h < 256 → p < end → (v : ℕ) → v ≡ min (cell go p (holding pow h)) (here + cell go end (holding pow h - pow))
        → Trial before p end pow here (holding pow (h + 1)) (set go (p * 256 + holding pow h) v)
    tried_next h go places some w k d v e =
        tried_over (holding pow h + 1) (holding pow (h + 1)) (set go (p * 256 + holding pow h) v) (omega (arith, holding_less pow some h))
        (tried_one (holding pow h) go places w k d (holding_member pow some h) v e) (λ j g. between pow some h j (omega arith))

-- row p with the child tried in the sets before n, if `entry` lets it go to p; else row p is unchanged
pub record ChildTried (entry : ℕ) (before : List ℕ) (p end pow here n : ℕ) (go : List ℕ) : Type 0 where
  pub unchanged : (i : ℕ) → (p + 1) * 256 ≤ i → get_or go i 0 ≡ get_or before i 0
  pub shut : no_images ≤ entry → (j : ℕ) → j < n → cell go p j ≡ cell before p j
  pub cells : entry < no_images → (j : ℕ) → j < n → cell go p j ≡ tried_by before p end pow here j

module _ (before : List ℕ) (entry p end pow here n : ℕ) where
  pub child_shut : no_images ≤ entry → ChildTried entry before p end pow here n before
  child_shut h = record { unchanged = λ i l. refl; shut = λ s j l. refl; cells = λ o. absurd (omega arith) }

  pub child_tried : (go : List ℕ) → entry < no_images → RowTried before p end pow here n go → ChildTried entry before p end pow here n go
  child_tried go h t = record { unchanged = t.unchanged; shut = λ s. absurd (omega arith); cells = λ o. t.cells }

-- row p with the children at the places before i tried in every set
pub record Trying (best kids ends before : List ℕ) (p i pow wei : ℕ) (go : List ℕ) : Type 0 where
  pub upto : i ≤ length kids
  pub pow_is : pow ≡ power i
  pub wei_is : wei ≡ weight i
  pub unchanged : (j : ℕ) → (p + 1) * 256 ≤ j → get_or go j 0 ≡ get_or before j 0
  pub part : (hi : ℕ) → Ready best kids ends before p hi → (bs : List Bool) → length bs ≡ length kids
      → Partial (can_by best kids) (end_by ends) hi bs p i (cell go p (number bs))

module _ (best kids ends before : List ℕ) (p : ℕ) (sets : ℕ) (all : sets ≡ power (length kids)) where
  in_sets : (bs : List Bool) → length bs ≡ length kids → number bs < sets
  in_sets bs e = omega (arith, subst (λ (x : ℕ). number bs < power x) e (number_bound bs))

  -- no child is tried yet: the row is a copy of the row behind it
  pub try_start : (first : List ℕ) → RowCopied first p sets before → Trying best kids ends before p 0 1 1 before
  try_start first w =
      record {
        upto = omega arith;
        pow_is = refl;
        wei_is = refl;
        unchanged = λ j h. refl;
        part = λ hi r bs e. begin (can_by best kids) (end_by ends) hi r.grows bs p (cell before p (number bs))
            (subst (LeastBy best kids ends hi bs (p + 1)) (same bs e) (r.next bs e));
      }
    where
      same : (bs : List Bool) → length bs ≡ length kids → cell before (p + 1) (number bs) ≡ cell before p (number bs)
      same bs e = w.unchanged ((p + 1) * 256 + number bs) (omega arith) ∙ sym (w.cells (number bs) (in_sets bs e))

  -- one more child
  module _ (i pow wei : ℕ) (go : List ℕ) (bound : (j : ℕ) → get_or go j 0 ≤ no_images)
      (w : Trying best kids ends before p i pow wei go) (more : i < length kids) (after : List ℕ)
      (c : ChildTried (best_by best (get_or kids i 0) p) go p (end_by ends p) pow (p * wei) sets after) where
    module _ (hi : ℕ) (r : Ready best kids ends before p hi) (bs : List Bool) (e : length bs ≡ length kids) where
      so_far : Partial (can_by best kids) (end_by ends) hi bs p i (cell go p (number bs))
      so_far = w.part hi r bs e

      next_by : (o v : ℕ) → Offer (can_by best kids) (end_by ends) hi bs p i o → v ≡ min (cell go p (number bs)) o
          → Partial (can_by best kids) (end_by ends) hi bs p (i + 1) v
      next_by o v q s =
          subst (Partial (can_by best kids) (end_by ends) hi bs p (i + 1)) (sym s)
          (try (can_by best kids) (end_by ends) hi r.grows bs p i (cell go p (number bs)) o so_far q)

      -- nothing is offered: the entry stays as it is
      stays : Offer (can_by best kids) (end_by ends) hi bs p i no_images → cell after p (number bs) ≡ cell go p (number bs)
          → Partial (can_by best kids) (end_by ends) hi bs p (i + 1) (cell after p (number bs))
      stays q s = next_by no_images (cell after p (number bs)) q (s ∙ omega (arith, bound (p * 256 + number bs)))

      taken : Member bs i → can_by best kids i p
          → Offer (can_by best kids) (end_by ends) hi bs p i (p * wei + cell go (end_by ends p) (number bs - pow))
      taken m o =
          let q : number (set bs i false) ≡ number bs - pow = omega (arith, number_clear bs i m, w.pow_is) in
          let l = r.past (set bs i false) (length-set bs i false ∙ e) in
          let s : cell before (end_by ends p) (number (set bs i false)) ≡ cell go (end_by ends p) (number bs - pow) =
          ap (cell before (end_by ends p)) q ∙ sym (w.unchanged (end_by ends p * 256 + (number bs - pow)) (omega (arith, r.grows p r.inside))) in
          rw w.wei_is (offer_open (can_by best kids) (end_by ends) hi r.grows bs p i m r.inside o
          (cell go (end_by ends p) (number bs - pow)) (subst (LeastBy best kids ends hi (set bs i false) (end_by ends p)) s l))

      is_bit : number bs / pow % 2 ≡ number (drop i bs) % 2
      is_bit = ap (λ (x : ℕ). x % 2) (ap (λ (x : ℕ). number bs / x) w.pow_is ∙ sym (number-drop i bs))

      next_part : Partial (can_by best kids) (end_by ends) hi bs p (i + 1) (cell after p (number bs))
      unfolding tried_by
      next_part = by_entry (dec_lt (best_by best (get_or kids i 0) p) no_images)
        where
          by_bit : (x : Bool) → eqb (number bs / pow % 2) 0 ≡ x → can_by best kids i p
              → cell after p (number bs) ≡ cond x (cell go p (number bs)) (min (cell go p (number bs)) (p * wei + cell go (end_by ends p) (number bs - pow)))
              → Partial (can_by best kids) (end_by ends) hi bs p (i + 1) (cell after p (number bs))
          by_bit true b o s =
              stays (offer_absent (can_by best kids) (end_by ends) hi r.grows bs p i
              (number_even bs i (sym is_bit ∙ eqb-true (number bs / pow % 2) 0 b))) s
          by_bit false b o s =
              next_by (p * wei + cell go (end_by ends p) (number bs - pow)) (cell after p (number bs))
              (taken (number_odd bs i (λ z. eqb-false (number bs / pow % 2) 0 b (is_bit ∙ z))) o) s

          shut : no_images ≤ best_by best (get_or kids i 0) p → can_by best kids i p → ⊥
          shut l o = omega arith

          by_entry : Dec (best_by best (get_or kids i 0) p < no_images) → Partial (can_by best kids) (end_by ends) hi bs p (i + 1) (cell after p (number bs))
          by_entry (yes o) = by_bit (eqb (number bs / pow % 2) 0) refl o (c.cells o (number bs) (in_sets bs e))
          by_entry (no n) =
              stays (offer_closed (can_by best kids) (end_by ends) hi r.grows bs p i (shut (omega arith)))
              (c.shut (omega arith) (number bs) (in_sets bs e))

    pub try_next : Trying best kids ends before p (i + 1) (pow * 2) (wei * 64) after
    try_next =
        record {
          upto = omega arith;
          pow_is = ap (λ (a : ℕ). a * 2) w.pow_is ∙ power_next i;
          wei_is = ap (λ (a : ℕ). a * 64) w.wei_is ∙ weight_next i;
          unchanged = λ j h. c.unchanged j h ∙ w.unchanged j h;
          part = next_part;
        }

  pub try_end : (first : List ℕ) → RowCopied first p sets before → (i pow wei : ℕ) (go : List ℕ) → Trying best kids ends before p i pow wei go
      → length kids ≤ i → RowFilled best kids ends first p go
  try_end first w i pow wei go t h =
      record {
        unchanged = λ j g. t.unchanged j g ∙ w.unchanged j g;
        row = λ hi r bs e. finish (can_by best kids) (end_by ends) hi r.grows bs p (cell go p (number bs))
            (subst (λ (j : ℕ). Partial (can_by best kids) (end_by ends) hi bs p j (cell go p (number bs))) (here bs e)
            (t.part hi (ready_kept best kids ends first before p hi w.unchanged r) bs e));
      }
    where
      here : (bs : List Bool) → length bs ≡ length kids → i ≡ length bs
      here bs e = omega (arith, t.upto)

-- all rows below t, from p on
pub record Filling (best kids ends : List ℕ) (t p : ℕ) (go : List ℕ) : Type 0 where
  pub low : t + 1 ≤ p
  pub high : p ≤ end_by ends t
  pub rows : (q : ℕ) → p ≤ q → q ≤ end_by ends t → Row best kids ends go q (end_by ends t)

module _ (best kids ends : List ℕ) (t : ℕ) (b : BranchOf ends t) where
  filling_start : (sets : ℕ) → sets ≡ power (length kids) → (go : List ℕ) → LastRow (end_by ends t) sets go
      → Filling best kids ends t (end_by ends t) go
  filling_start sets all go w =
      record {
        low = omega (arith, b.here);
        high = omega arith;
        rows = λ q l h bs e. last q (omega arith) bs e (ℕ_discrete (number bs) 0);
      }
    where
      last : (q : ℕ) → q ≡ end_by ends t → (bs : List Bool) → length bs ≡ length kids → Dec (number bs ≡ 0)
          → LeastBy best kids ends (end_by ends t) bs q (cell go q (number bs))
      last q s bs e (yes z) =
          rw (s, z, w.empty) (end_empty (can_by best kids) (end_by ends) (end_by ends t) b.grows bs z)
      last q s bs e (no d) =
          rw (s, w.others (number bs) (omega arith) (omega (arith, subst (λ (x : ℕ). number bs < power x) e (number_bound bs))))
          (end_some (can_by best kids) (end_by ends) (end_by ends t) b.grows bs d)

  -- the scan continues the previous one, or begins with the row at the end
  pub filling_begin : (before : List ℕ) (low hi : ℕ) → Scanned best kids ends before low hi → t < low → (sets : ℕ)
      → sets ≡ power (length kids) → (p : ℕ) (go : List ℕ) → Started before low hi (end_by ends t) sets p go → Filling best kids ends t p go
  filling_begin before low hi w l sets all p go s = by_end (ℕ_discrete (end_by ends t) hi)
    where
      by_end : Dec (end_by ends t ≡ hi) → Filling best kids ends t p go
      by_end (yes e) =
          let a = s.again e in
          record {
            low = omega (arith, a.0);
            high = omega (arith, a.0, w.some (omega (arith, b.here)));
            rows = λ q g h. rw (e, a.1) (w.rows q (omega (arith, a.0)) (omega arith));
          }
      by_end (no d) =
          let a = s.anew d in
          subst (λ (x : ℕ). Filling best kids ends t x go) (sym a.0) (filling_start sets all go a.1)

  pub filling_next : (p : ℕ) (go : List ℕ) → Filling best kids ends t p go → t + 1 < p → (after : List ℕ) → RowFilled best kids ends go (p - 1) after
      → Filling best kids ends t (p - 1) after
  filling_next p go w h after r =
      record {
        low = omega arith;
        high = omega (arith, w.high);
        rows = λ q l g. here_or_behind q l g (dec_lt (p - 1) q);
      }
    where
      back : p - 1 + 1 ≡ p
      back = omega arith

      there : p - 1 < end_by ends t
      there = omega (arith, w.high)

      ready : Ready best kids ends go (p - 1) (end_by ends t)
      ready =
          record {
            inside = there;
            grows = b.grows;
            next = rw back (w.rows p (omega arith) w.high);
            past = w.rows (end_by ends (p - 1)) (omega (arith, b.grows (p - 1) there)) (b.nested (p - 1) (omega arith) there);
          }

      here_or_behind : (q : ℕ) → p - 1 ≤ q → q ≤ end_by ends t → Dec (p - 1 < q) → Row best kids ends after q (end_by ends t)
      here_or_behind q l g (yes d) = row_kept best kids ends go after (p - 1) q (end_by ends t) r.unchanged d (w.rows q (omega arith) g)
      here_or_behind q l g (no d) =
          let e : p - 1 ≡ q = omega arith in
          subst (λ (x : ℕ). Row best kids ends after x (end_by ends t)) e (r.row (end_by ends t) ready)

  pub filling_end : (p : ℕ) (go : List ℕ) → Filling best kids ends t p go → p ≤ t + 1 → (sets : ℕ) → sets ≡ power (length kids)
      → (v : ℕ) → v ≡ cell go (t + 1) (sets - 1)
      → LeastBy best kids ends (end_by ends t) (replicate (length kids) true) (t + 1) v × Scanned best kids ends go (t + 1) (end_by ends t)
  filling_end p go w h sets all v e =
      let n : number (replicate (length kids) true) ≡ sets - 1 = omega (arith, number-full (length kids)) in (
        subst (LeastBy best kids ends (end_by ends t) (replicate (length kids) true) (t + 1)) (ap (cell go (t + 1)) n ∙ sym e)
            (w.rows (t + 1) (omega (arith, w.low)) (omega (arith, w.low, w.high)) (replicate (length kids) true) (length-replicate (length kids) true)),
        record { some = λ h. omega (arith, b.here); rows = λ q a c. w.rows q (omega arith) c },
      )

  -- the same of a number in the code's table, which is at most `no_images`
  pub filling_placed : (p : ℕ) (go : List ℕ) → Filling best kids ends t p go → p ≤ t + 1 → (sets : ℕ) → sets ≡ power (length kids)
      → (v : ℕ) → v ≤ no_images → v ≡ cell go (t + 1) (sets - 1) → PlacedBelow best kids ends t go v
  filling_placed p go w h sets all v small e =
      let q = filling_end p go w h sets all v e in
      record { bound = small; least = q.0; scanned = q.1 }

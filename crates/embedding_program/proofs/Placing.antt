-- The recurrence of the dynamic program. At a target node p a placing either does not use p, and then places the same set behind p; or it sends one
-- child to p, and then all the others to nodes from the end of p's branch on, because they are pairwise unrelated. So the least number from p on is
-- the least of the number from p + 1 on and the numbers that the children offer at p.
use mathlib.Core.Path.{◌≡◌, refl, sym, ap, ◌∙◌, subst}
use mathlib.Core.Logic.{◌≢◌, ◌⊎◌, inl, inr}
use Prim.Native.Nat.{ℕ, zero, suc, ◌+◌, ◌*◌, ◌≤◌, ◌<◌, min}
use native.Mathlib.Decide.{dec_lt, ℕ_discrete}
use native.Mathlib.Omega.{arith}
use mathlib.Core.List.{List}
use mathlib.Core.Bool.{Bool, true, false}
use lib.ListN.{length, get_or, set, replicate, length-set, length-replicate}
use lib.Seq.{get_or-set_same, get_or-set_other, set-set, set-get_or}
use Rattle.base.proofs.Replicate.{get_or_everywhere}
use Rattle.base.proofs.Tests.{clash}
use Rattle.embedding_program.specs.InnerSets.{number, weight, pack, no_images}
use Rattle.embedding_program.specs.InnerPlacing.{Member, Placed, Least, Partial, Offer}
use Rattle.embedding_program.proofs.Sets.{member_length, number-empty, number_some, pack_clear}

pub placed-map : (can can' : ℕ → ℕ → Type 0) (end end' : ℕ → ℕ) (hi : ℕ) (bs : List Bool) (p : ℕ) (ys : List ℕ)
    → ((i x : ℕ) → i < length bs → x < hi → can i x → can' i x) → ((x : ℕ) → x < hi → end x ≡ end' x)
    → Placed can end hi bs p ys → Placed can' end' hi bs p ys
placed-map can can' end end' hi bs p ys f g q =
    record {
      long = q.long;
      off = q.off;
      from = q.from;
      to = q.to;
      may = λ i m. f i (get_or ys i 0) (member_length bs i m) (q.to i m) (q.may i m);
      apart = λ i j m n d. rw (← g (get_or ys i 0) (q.to i m), ← g (get_or ys j 0) (q.to j n)) (q.apart i j m n d);
    }

module _ (can : ℕ → ℕ → Type 0) (end : ℕ → ℕ) (hi : ℕ) (grows : (x : ℕ) → x < hi → x < end x) where
  -- at the end only the empty set is placed
  pub end_empty : (bs : List Bool) → number bs ≡ 0 → Least can end hi bs hi 0
  end_empty bs e =
      record {
        lower = λ ys q. omega arith;
        attained = λ h. (replicate (length bs) 0, zeros, pack-zeros (length bs));
      }
    where
      absent : (i : ℕ) → Member bs i → ⊥
      absent i m = clash (cc (number-empty bs e i))

      pack-zeros : (n : ℕ) → pack (replicate n 0) ≡ 0
      pack-zeros zero = refl
      pack-zeros (suc n) = omega (arith, pack-zeros n)

      zeros : Placed can end hi bs hi (replicate (length bs) 0)
      zeros =
          record {
            long = length-replicate (length bs) 0;
            off = λ i h. get_or_everywhere (length bs) i 0;
            from = λ i m. absurd (absent i m);
            to = λ i m. absurd (absent i m);
            may = λ i m. absurd (absent i m);
            apart = λ i j m n d. absurd (absent i m);
          }

  pub end_some : (bs : List Bool) → number bs ≢ 0 → Least can end hi bs hi no_images
  end_some bs h =
      record {
        lower = λ ys q. absurd (outside ys q (number_some bs h));
        attained = λ l. absurd (omega arith);
      }
    where
      outside : (ys : List ℕ) → Placed can end hi bs hi ys → (i : ℕ) × Member bs i → ⊥
      outside ys q (i, m) = omega (arith, q.from i m, q.to i m)

  module _ (bs : List Bool) (p : ℕ) where
    -- no child goes to p: the set is placed behind p
    pub begin : (v : ℕ) → Least can end hi bs (p + 1) v → Partial can end hi bs p 0 v
    begin v l =
        record {
          lower = λ ys q free. l.lower ys (behind ys q free);
          attained = λ h. before (l.attained h);
        }
      where
        behind : (ys : List ℕ) → Placed can end hi bs p ys → ((j : ℕ) → 0 ≤ j → Member bs j → get_or ys j 0 ≢ p) → Placed can end hi bs (p + 1) ys
        behind ys q free =
            record {
              long = q.long;
              off = q.off;
              from = λ i m. above i m (q.from i m) (free i (omega arith) m);
              to = q.to;
              may = q.may;
              apart = q.apart;
            }
          where
            above : (i : ℕ) → Member bs i → p ≤ get_or ys i 0 → get_or ys i 0 ≢ p → p + 1 ≤ get_or ys i 0
            above i m l n = omega arith

        before : (ys : List ℕ) × Placed can end hi bs (p + 1) ys × (pack ys ≡ v) → (ys : List ℕ) × Placed can end hi bs p ys × (pack ys ≡ v)
        before (ys, q, e) =
            (ys, record { long = q.long; off = q.off; from = λ i m. omega (arith, q.from i m); to = q.to; may = q.may; apart = q.apart }, e)

    -- one more child is tried
    pub try : (i v c : ℕ) → Partial can end hi bs p i v → Offer can end hi bs p i c → Partial can end hi bs p (i + 1) (min v c)
    try i v c l o = record { lower = lower; attained = λ h. attained h (dec_lt v c) }
      where
        lower : (ys : List ℕ) → Placed can end hi bs p ys → ((j : ℕ) → i + 1 ≤ j → Member bs j → get_or ys j 0 ≢ p) → min v c ≤ pack ys
        lower ys q free = by_place (get_or bs i false) refl (ℕ_discrete (get_or ys i 0) p)
          where
            unused : (Member bs i → get_or ys i 0 ≢ p) → min v c ≤ pack ys
            unused no_i = omega (arith, l.lower ys q (λ j h m. here_or_later j h m (ℕ_discrete j i)))
              where
                here_or_later : (j : ℕ) → i ≤ j → Member bs j → Dec (j ≡ i) → get_or ys j 0 ≢ p
                here_or_later j h m (yes e) = rw e (no_i (rw e at m))
                here_or_later j h m (no n) = free j (omega arith) m

            by_place : (b : Bool) → get_or bs i false ≡ b → Dec (get_or ys i 0 ≡ p) → min v c ≤ pack ys
            by_place true m (yes e) = omega (arith, o.lower ys q m e)
            by_place true m (no n) = unused (λ h. n)
            by_place false m d = unused (λ h. absurd (clash (cc)))

        attained : min v c < no_images → Dec (v < c) → (ys : List ℕ) × Placed can end hi bs p ys × (pack ys ≡ min v c)
        attained h (yes k) =
            let e : min v c ≡ v = omega arith in
            rw e (l.attained (omega arith))
        attained h (no k) =
            let e : min v c ≡ c = omega arith in
            rw e (o.attained (omega arith))

    pub finish : (v : ℕ) → Partial can end hi bs p (length bs) v → Least can end hi bs p v
    finish v l =
        record {
          lower = λ ys q. l.lower ys q (λ j h m. absurd (outside j h m));
          attained = l.attained;
        }
      where
        outside : (j : ℕ) → length bs ≤ j → Member bs j → ⊥
        outside j h m = omega (arith, member_length bs j m)

    -- a child that is not in the set, or may not go to p, offers nothing
    pub offer_absent : (i : ℕ) → get_or bs i false ≡ false → Offer can end hi bs p i no_images
    offer_absent i e = record { lower = λ ys q m. absurd (clash (cc)); attained = λ h. absurd (omega arith) }

    pub offer_closed : (i : ℕ) → (can i p → ⊥) → Offer can end hi bs p i no_images
    offer_closed i n =
        record {
          lower = λ ys q m e. absurd (n (subst (can i) e (q.may i m)));
          attained = λ h. absurd (omega arith);
        }

    -- a child that goes to p: the others are placed from the end of p's branch on
    module _ (i : ℕ) (m : Member bs i) (inside : p < hi) (goes : can i p) (w : ℕ) (rest : Least can end hi (set bs i false) (end p) w) where
      taken_out : (j : ℕ) → j ≢ i → get_or (set bs i false) j false ≡ get_or bs j false
      taken_out j d = get_or-set_other bs i j false false d

      still : (j : ℕ) → Member (set bs i false) j → (j ≢ i) × Member bs j
      still j n = (differ, by_place (ℕ_discrete j i))
        where
          differ : j ≢ i
          differ e =
              let gone = get_or-set_same bs i false false (member_length bs i m) in
              let there : get_or (set bs i false) i false ≡ true = rw e at n in
              clash (cc)

          by_place : Dec (j ≡ i) → Member bs j
          by_place (yes e) = rw e m
          by_place (no d) = sym (taken_out j d) ∙ n

      others : (ys : List ℕ) → Placed can end hi bs p ys → get_or ys i 0 ≡ p → Placed can end hi (set bs i false) (end p) (set ys i 0)
      others ys q e =
          record {
            long = length-set ys i 0 ∙ q.long ∙ sym (length-set bs i false);
            off = λ j h. outside j h (ℕ_discrete j i);
            from = λ j n. rw (kept j (still j n).0) (behind j (still j n));
            to = λ j n. rw (kept j (still j n).0) (q.to j (still j n).1);
            may = λ j n. rw (kept j (still j n).0) (q.may j (still j n).1);
            apart = λ j k n o d. rw (kept j (still j n).0, kept k (still k o).0) (q.apart j k (still j n).1 (still k o).1 d);
          }
        where
          kept : (j : ℕ) → j ≢ i → get_or (set ys i 0) j 0 ≡ get_or ys j 0
          kept j d = get_or-set_other ys i j 0 0 d

          outside : (j : ℕ) → get_or (set bs i false) j false ≡ false → Dec (j ≡ i) → get_or (set ys i 0) j 0 ≡ 0
          outside j h (yes d) = rw d (get_or-set_same ys i 0 0 (omega (arith, q.long, member_length bs i m)))
          outside j h (no d) = kept j d ∙ q.off j (sym (taken_out j d) ∙ h)

          behind : (j : ℕ) → (j ≢ i) × Member bs j → end p ≤ get_or ys j 0
          behind j (d, n) = by_side (q.apart i j m n (λ h. d (sym h)))
            where
              by_side : (end (get_or ys i 0) ≤ get_or ys j 0) ⊎ (end (get_or ys j 0) ≤ get_or ys i 0) → end p ≤ get_or ys j 0
              by_side (inl h) = rw e at h
              by_side (inr h) = absurd (omega (arith, grows (get_or ys j 0) (q.to j n), q.from j n))

      joined : (zs : List ℕ) → Placed can end hi (set bs i false) (end p) zs → Placed can end hi bs p (set zs i p)
      joined zs q =
          record {
            long = length-set zs i p ∙ q.long ∙ length-set bs i false;
            off = λ j h. outside j h (ℕ_discrete j i);
            from = λ j n. from j n (ℕ_discrete j i);
            to = λ j n. to j n (ℕ_discrete j i);
            may = λ j n. may j n (ℕ_discrete j i);
            apart = λ j k n o d. apart j k n o d (ℕ_discrete j i) (ℕ_discrete k i);
          }
        where
          kept : (j : ℕ) → j ≢ i → get_or (set zs i p) j 0 ≡ get_or zs j 0
          kept j d = get_or-set_other zs i j p 0 d

          here : (j : ℕ) → j ≡ i → get_or (set zs i p) j 0 ≡ p
          here j e = rw e (get_or-set_same zs i p 0 (omega (arith, q.long, length-set bs i false, member_length bs i m)))

          in_rest : (j : ℕ) → Member bs j → j ≢ i → Member (set bs i false) j
          in_rest j n d = taken_out j d ∙ n

          outside : (j : ℕ) → get_or bs j false ≡ false → Dec (j ≡ i) → get_or (set zs i p) j 0 ≡ 0
          outside j h (yes e) = absurd (clash (cc (rw e at h)))
          outside j h (no d) = kept j d ∙ q.off j (taken_out j d ∙ h)

          from : (j : ℕ) → Member bs j → Dec (j ≡ i) → p ≤ get_or (set zs i p) j 0
          from j n (yes e) = omega (arith, here j e)
          from j n (no d) = omega (arith, kept j d, q.from j (in_rest j n d), grows p inside)

          to : (j : ℕ) → Member bs j → Dec (j ≡ i) → get_or (set zs i p) j 0 < hi
          to j n (yes e) = omega (arith, here j e)
          to j n (no d) = omega (arith, kept j d, q.to j (in_rest j n d))

          may : (j : ℕ) → Member bs j → Dec (j ≡ i) → can j (get_or (set zs i p) j 0)
          may j n (yes e) = subst (λ (x : ℕ). can j x) (sym (here j e)) (subst (λ (x : ℕ). can x p) (sym e) goes)
          may j n (no d) = rw (kept j d) (q.may j (in_rest j n d))

          apart : (j k : ℕ) → Member bs j → Member bs k → j ≢ k → Dec (j ≡ i) → Dec (k ≡ i)
              → (end (get_or (set zs i p) j 0) ≤ get_or (set zs i p) k 0) ⊎ (end (get_or (set zs i p) k 0) ≤ get_or (set zs i p) j 0)
          apart j k n o d (yes e) (yes f) = absurd (d (e ∙ sym f))
          apart j k n o d (yes e) (no g) = inl (rw (here j e, kept k g) (q.from k (in_rest k o g)))
          apart j k n o d (no g) (yes f) = inr (rw (here k f, kept j g) (q.from j (in_rest j n g)))
          apart j k n o d (no g) (no h) = rw (kept j g, kept k h) (q.apart j k (in_rest j n g) (in_rest k o h) d)

      pub offer_open : Offer can end hi bs p i (p * weight i + w)
      offer_open = record { lower = lower; attained = λ h. attained (rest.attained (omega arith)) }
        where
          lower : (ys : List ℕ) → Placed can end hi bs p ys → Member bs i → get_or ys i 0 ≡ p → p * weight i + w ≤ pack ys
          lower ys q n e =
              let c = pack_clear ys i (omega (arith, q.long, member_length bs i m)) in
              omega (arith, rw e at c, rest.lower (set ys i 0) (others ys q e))

          attained : (zs : List ℕ) × Placed can end hi (set bs i false) (end p) zs × (pack zs ≡ w)
              → (ys : List ℕ) × Placed can end hi bs p ys × (pack ys ≡ p * weight i + w)
          attained (zs, q, e) =
              let l : i < length zs = omega (arith, q.long, length-set bs i false, member_length bs i m) in
              let z : get_or zs i 0 ≡ 0 = q.off i (get_or-set_same bs i false false (member_length bs i m)) in
              let s : set (set zs i p) i 0 ≡ zs = set-set zs i p 0 ∙ ap (λ (x : ℕ). set zs i x) (sym z) ∙ set-get_or zs i 0 in
              let c = pack_clear (set zs i p) i (omega (arith, length-set zs i p)) in
              (set zs i p, joined zs q, rw (get_or-set_same zs i p 0 l, s, e) at c)

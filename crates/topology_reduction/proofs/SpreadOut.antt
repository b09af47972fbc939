-- The loop of `spread_out`: what is written before node i, and what follows from its answer.
use mathlib.Core.Path.{◌≡◌, refl, sym, ap, ◌∙◌}
use mathlib.Core.Logic.{◌≢◌}
use Prim.Native.Nat.{ℕ, zero, suc, ◌+◌, ◌-◌, ◌≤◌, ◌<◌, min}
use native.Mathlib.Nat.{not-suc-le-zero, le_of_suc-le-suc}
use native.Mathlib.Numerals.{add-one}
use native.Mathlib.Omega.{arith}
use native.Mathlib.Decide.{dec_lt}
use mathlib.Core.List.{List, [], ◌∷◌, ◌++◌}
use mathlib.Core.Bool.{Bool, true, false, cond}
use lib.ListN.{length, take, get_or, set, replicate, length-append}
use lib.Seq.{take_all, length-take-le}
use lib.Dec.{eqb}
use borrow.Author.Tests.{eq-eqb, ne_eqb}
use Rattle.topology_reduction.specs.Reduced.{passed_over, kept_bytes, spread, in32}
use Rattle.topology_reduction.proofs.Reduced.{place_next}
use Rattle.topology_reduction.proofs.RestrictLoop.{in32_next}
use Rattle.topology_reduction.proofs.Spread.{spread-mark}
use Rattle.topology_reduction.specs.InnerNodes.{place}

-- The spread list, one node further, as long as there are images.
spread_next : (bs l : List ℕ) (i : ℕ) → i < length bs → place bs i < length l
    → spread (take (suc i) bs) l ≡ spread (take i bs) l ++ (cond (eqb (get_or bs i 0) 1) passed_over (get_or l (place bs i) 0) ∷ [])
spread_next [] l i h g = absurd (not-suc-le-zero h)
spread_next (b ∷ bs) [] i h g = absurd (not-suc-le-zero g)
spread_next (b ∷ bs) (x ∷ l) zero h g = by_test (eqb b 1)
  where
    by_test : (t : Bool) → cond t (passed_over ∷ []) (x ∷ []) ≡ cond t passed_over x ∷ []
    by_test true = refl
    by_test false = refl
spread_next (b ∷ bs) (x ∷ l) (suc i) h g = by_test (eqb b 1) g (λ m. spread_next bs m i (le_of_suc-le-suc h))
  where
    front : List ℕ
    front = kept_bytes (take i bs)

    more : List ℕ → ℕ → List ℕ
    more m n = cond (eqb (get_or bs i 0) 1) passed_over (get_or m n 0) ∷ []

    by_test : (t : Bool) → length (cond t front (b ∷ front)) < suc (length l)
        → ((m : List ℕ) → place bs i < length m → spread (take (suc i) bs) m ≡ spread (take i bs) m ++ more m (place bs i))
        → cond t (passed_over ∷ spread (take (suc i) bs) (x ∷ l)) (x ∷ spread (take (suc i) bs) l)
        ≡ cond t (passed_over ∷ spread (take i bs) (x ∷ l)) (x ∷ spread (take i bs) l) ++ more (x ∷ l) (length (cond t front (b ∷ front)))
    by_test true g r = ap (λ (k : List ℕ). passed_over ∷ k) (r (x ∷ l) g)
    by_test false g r = ap (λ (k : List ℕ). x ∷ k) (r l (le_of_suc-le-suc g))

-- what is spread before node i, in 32 places
pub record SpreadTo (bytes images : List ℕ) (i : ℕ) (map : List ℕ) (next : ℕ) : Type 0 where
  pub is : map ≡ in32 (spread (take i bytes) images)
  pub long : length (spread (take i bytes) images) ≡ i
  pub at : next ≡ place bytes i
  pub few : next ≤ i

module _ (bytes images : List ℕ) where
  module _ (i : ℕ) (map : List ℕ) (next : ℕ) (s : SpreadTo bytes images i map next) (h : i < length bytes) (g : next < length images) (k : i < 32) where
    goes_on : (longer : List ℕ) (x then : ℕ) → cond (eqb (get_or bytes i 0) 1) passed_over (get_or images (place bytes i) 0) ≡ x → longer ≡ set map i x
        → next + length (cond (eqb (get_or bytes i 0) 1) [] (get_or bytes i 0 ∷ [])) ≡ then → then ≤ i + 1
        → SpreadTo bytes images (i + 1) longer then
    goes_on longer x then e f n l =
        let front = spread (take i bytes) images in
        let on : spread (take (i + 1) bytes) images ≡ spread (take i bytes) images ++ (x ∷ []) =
        rw (add-one i, ← e) (spread_next bytes images i h (omega (arith, s.at, g))) in
        record {
          is = f ∙ ap (λ (l : List ℕ). set l i x) s.is ∙ in32_next front i x s.long k ∙ ap in32 (sym on);
          long = ap length on ∙ length-append front (x ∷ []) ∙ omega (arith, s.long);
          at = rw (add-one i) (sym n ∙ omega (arith, s.at, place_next bytes i h));
          few = l;
        }

    pub spread_out_passed : (longer : List ℕ) (same : ℕ) → get_or bytes i 0 ≡ 1 → longer ≡ set map i passed_over → same ≡ next
        → SpreadTo bytes images (i + 1) longer same
    spread_out_passed longer same q e f =
        goes_on longer passed_over same (rw (eq-eqb (get_or bytes i 0) 1 q)) e (rw (eq-eqb (get_or bytes i 0) 1 q) (omega (arith, f))) (omega (arith, f, s.few))

    pub spread_out_kept : (longer : List ℕ) (more : ℕ) → get_or bytes i 0 ≢ 1 → longer ≡ set map i (get_or images next 0) → more ≡ next + 1
        → SpreadTo bytes images (i + 1) longer more
    spread_out_kept longer more q e f =
        goes_on longer (get_or images next 0) more (rw (ne_eqb (get_or bytes i 0) 1 q) (ap (λ (n : ℕ). get_or images n 0) (sym s.at))) e
        (rw (ne_eqb (get_or bytes i 0) 1 q) (sym f)) (omega (arith, f, s.few))

  pub spread_out_end : (i : ℕ) (map : List ℕ) (next : ℕ) → SpreadTo bytes images i map next → length bytes ≤ i → map ≡ in32 (spread bytes images)
  spread_out_end i map next s h = s.is ∙ ap (λ (l : List ℕ). in32 (spread l images)) (take_all i bytes h)

-- the first 32 bytes
pub first_32 : (bytes : List ℕ) → take (min (length bytes) 32) bytes ≡ take 32 bytes
first_32 bytes = by_length (dec_lt (length bytes) 32)
  where
    by_length : Dec (length bytes < 32) → take (min (length bytes) 32) bytes ≡ take 32 bytes
    by_length (yes l) = take_all (min (length bytes) 32) bytes (omega arith) ∙ sym (take_all 32 bytes (omega arith))
    by_length (no l) = ap (λ (n : ℕ). take n bytes) (let e : min (length bytes) 32 ≡ 32 = omega arith in e)

pub length_first : (bytes : List ℕ) → length (take (min (length bytes) 32) bytes) ≤ 32
length_first bytes = omega (arith, length-take-le (min (length bytes) 32) bytes (omega arith))

-- For callers with at most 32 bytes: images in 32 places, one for each kept node, become one list over all nodes.
spread_more : (bs l m : List ℕ) → length l ≡ length (kept_bytes bs) → spread bs (l ++ m) ≡ spread bs l
spread_more [] l m e = refl
spread_more (b ∷ bs) l m e = by_test l (eqb b 1) refl e (λ k. spread_more bs k m)
  where
    by_test : (l : List ℕ) (t : Bool) → eqb b 1 ≡ t → length l ≡ length (cond t (kept_bytes bs) (b ∷ kept_bytes bs))
        → ((k : List ℕ) → length k ≡ length (kept_bytes bs) → spread bs (k ++ m) ≡ spread bs k) → spread (b ∷ bs) (l ++ m) ≡ spread (b ∷ bs) l
    by_test l true q e r = spread-mark b bs (l ++ m) q ∙ ap (λ (k : List ℕ). passed_over ∷ k) (r l e) ∙ sym (spread-mark b bs l q)
    by_test [] false q e r = absurd (omega arith)
    by_test (x ∷ l) false q e r = rw q (ap (λ (k : List ℕ). x ∷ k) (r l (omega (arith, e))))

pub spread_out_held : (bytes l : List ℕ) → length bytes ≤ 32 → length l ≡ length (kept_bytes bytes)
    → in32 (spread (take 32 bytes) (in32 l)) ≡ in32 (spread bytes l)
spread_out_held bytes l h e =
    ap (λ (z : List ℕ). in32 (spread z (in32 l))) (take_all 32 bytes h) ∙ ap in32 (spread_more bytes l (replicate (32 - length l) 0) e)

-- Lists over the kept nodes and lists over all nodes: the positions of their numbers.
use mathlib.Core.Path.{◌≡◌, refl, sym, ap, ap₂, ◌∙◌}
use mathlib.Core.Logic.{◌≢◌}
use Prim.Native.Nat.{ℕ, zero, suc, ◌<◌}
use native.Mathlib.Nat.{not-suc-le-zero, le_of_suc-le-suc}
use native.Mathlib.Omega.{arith}
use mathlib.Core.List.{List, [], ◌∷◌}
use mathlib.Core.Bool.{Bool, true, false, cond}
use lib.ListN.{length, get_or}
use lib.Dec.{eqb}
use borrow.Author.Tests.{eqb-true, eqb-false}
use Rattle.topology_reduction.specs.Reduced.{passed_over, kept_bytes, spread, restricted}
use Rattle.topology_reduction.proofs.RestrictLoop.{restricted-alike}
use Rattle.topology_reduction.specs.InnerNodes.{place}

pub spread-length : (bs l : List ℕ) → length l ≡ length (kept_bytes bs) → length (spread bs l) ≡ length bs
spread-length [] l e = refl
spread-length (b ∷ bs) l e = by_test l (eqb b 1) refl e (λ k. spread-length bs k)
  where
    by_test : (l : List ℕ) (t : Bool) → eqb b 1 ≡ t → length l ≡ length (cond t (kept_bytes bs) (b ∷ kept_bytes bs))
        → ((k : List ℕ) → length k ≡ length (kept_bytes bs) → length (spread bs k) ≡ length bs) → length (spread (b ∷ bs) l) ≡ suc (length bs)
    by_test [] true q e r = rw q (ap suc (r [] e))
    by_test [] false q e r = absurd (omega arith)
    by_test (x ∷ l) true q e r = rw q (ap suc (r (x ∷ l) e))
    by_test (x ∷ l) false q e r = rw q (ap suc (r l (omega (arith, e))))

pub spread-kept : (bs l : List ℕ) (n : ℕ) → n < length bs → get_or bs n 0 ≢ 1 → length l ≡ length (kept_bytes bs) → get_or (spread bs l) n 0 ≡ get_or l (place bs n) 0
spread-kept [] l n h k e = absurd (not-suc-le-zero h)
spread-kept (b ∷ bs) l n h k e = by_test l n h k (eqb b 1) refl e (λ l n h. spread-kept bs l n h)
  where
    by_test : (l : List ℕ) (n : ℕ) → n < suc (length bs) → get_or (b ∷ bs) n 0 ≢ 1 → (t : Bool) → eqb b 1 ≡ t → length l ≡ length (cond t (kept_bytes bs) (b ∷ kept_bytes bs))
        → ((l : List ℕ) (n : ℕ) → n < length bs → get_or bs n 0 ≢ 1 → length l ≡ length (kept_bytes bs) → get_or (spread bs l) n 0 ≡ get_or l (place bs n) 0)
        → get_or (spread (b ∷ bs) l) n 0 ≡ get_or l (place (b ∷ bs) n) 0
    by_test [] zero h k true q e r = absurd (k (eqb-true b 1 q))
    by_test [] zero h k false q e r = absurd (omega arith)
    by_test [] (suc n) h k false q e r = absurd (omega arith)
    by_test (x ∷ l) zero h k true q e r = absurd (k (eqb-true b 1 q))
    by_test [] (suc n) h k true q e r = rw q (r [] n (le_of_suc-le-suc h) k e)
    by_test (x ∷ l) (suc n) h k true q e r = rw q (r (x ∷ l) n (le_of_suc-le-suc h) k e)
    by_test (x ∷ l) zero h k false q e r = rw q
    by_test (x ∷ l) (suc n) h k false q e r = rw q (r l n (le_of_suc-le-suc h) k (omega (arith, e)))

pub spread_passed : (bs l : List ℕ) (n : ℕ) → n < length bs → get_or bs n 0 ≡ 1 → length l ≡ length (kept_bytes bs) → get_or (spread bs l) n 0 ≡ passed_over
spread_passed [] l n h k e = absurd (not-suc-le-zero h)
spread_passed (b ∷ bs) l n h k e = by_test l n h k (eqb b 1) refl e (λ l n h. spread_passed bs l n h)
  where
    by_test : (l : List ℕ) (n : ℕ) → n < suc (length bs) → get_or (b ∷ bs) n 0 ≡ 1 → (t : Bool) → eqb b 1 ≡ t → length l ≡ length (cond t (kept_bytes bs) (b ∷ kept_bytes bs))
        → ((l : List ℕ) (n : ℕ) → n < length bs → get_or bs n 0 ≡ 1 → length l ≡ length (kept_bytes bs) → get_or (spread bs l) n 0 ≡ passed_over)
        → get_or (spread (b ∷ bs) l) n 0 ≡ passed_over
    by_test [] zero h k true q e r = rw q
    by_test [] zero h k false q e r = absurd (eqb-false b 1 q k)
    by_test [] (suc n) h k false q e r = absurd (omega arith)
    by_test [] (suc n) h k true q e r = rw q (r [] n (le_of_suc-le-suc h) k e)
    by_test (x ∷ l) zero h k true q e r = rw q
    by_test (x ∷ l) zero h k false q e r = absurd (eqb-false b 1 q k)
    by_test (x ∷ l) (suc n) h k true q e r = rw q (r (x ∷ l) n (le_of_suc-le-suc h) k e)
    by_test (x ∷ l) (suc n) h k false q e r = rw q (r l n (le_of_suc-le-suc h) k (omega (arith, e)))

-- every node number of the reduced drawing is the place of some kept node
pub kept_of : (bs : List ℕ) (j : ℕ) → j < length (kept_bytes bs) → (n : ℕ) × (n < length bs) × (get_or bs n 0 ≢ 1) × (place bs n ≡ j)
kept_of [] j h = absurd (not-suc-le-zero h)
kept_of (b ∷ bs) j h = by_test j (eqb b 1) refl h (λ j h. kept_of bs j h)
  where
    by_test : (j : ℕ) (t : Bool) → eqb b 1 ≡ t → j < length (cond t (kept_bytes bs) (b ∷ kept_bytes bs))
        → ((j : ℕ) → j < length (kept_bytes bs) → (n : ℕ) × (n < length bs) × (get_or bs n 0 ≢ 1) × (place bs n ≡ j))
        → (n : ℕ) × (n < suc (length bs)) × (get_or (b ∷ bs) n 0 ≢ 1) × (place (b ∷ bs) n ≡ j)
    by_test j true q h r = let f = r j h in (suc f.0, omega (arith, f.1), f.2, rw q f.3)
    by_test zero false q h r = (0, omega arith, eqb-false b 1 q, refl)
    by_test (suc j) false q h r = let f = r j (le_of_suc-le-suc h) in (suc f.0, omega (arith, f.1), f.2, rw q (ap suc f.3))

-- A passed node gets the mark, whatever images are left.
pub spread-mark : (b : ℕ) (bs l : List ℕ) → eqb b 1 ≡ true → spread (b ∷ bs) l ≡ passed_over ∷ spread bs l
spread-mark b bs [] q = rw q
spread-mark b bs (x ∷ l) q = rw q

-- A list with the mark at every passed node is the spread of its restriction to the kept nodes.
restricted_back : (bs m : List ℕ) → length m ≡ length bs → ((n : ℕ) → n < length bs → get_or bs n 0 ≡ 1 → get_or m n 0 ≡ passed_over)
    → spread bs (restricted bs m) ≡ m
restricted_back [] [] l p = refl
restricted_back [] (x ∷ m) l p = absurd (omega arith)
restricted_back (b ∷ bs) [] l p = absurd (omega arith)
restricted_back (b ∷ bs) (x ∷ m) l p =
    by_test (eqb b 1) refl (restricted_back bs m (omega (arith, l)) (λ n h e. p (suc n) (omega arith) e))
  where
    by_test : (t : Bool) → eqb b 1 ≡ t → spread bs (restricted bs m) ≡ m → spread (b ∷ bs) (cond t (restricted bs m) (x ∷ restricted bs m)) ≡ x ∷ m
    by_test true q r = spread-mark b bs (restricted bs m) q ∙ ap₂ (λ (y : ℕ) (k : List ℕ). y ∷ k) (sym (p 0 (omega arith) (eqb-true b 1 q))) r
    by_test false q r = rw q (ap (λ (k : List ℕ). x ∷ k) r)

pub spread-restricted : (bs m : List ℕ) → length m ≡ length bs → ((n : ℕ) → n < length bs → get_or bs n 0 ≡ 1 → get_or m n 0 ≡ passed_over)
    → (spread bs (restricted bs m) ≡ m) × (length (restricted bs m) ≡ length (kept_bytes bs))
spread-restricted bs m l p = (restricted_back bs m l p, restricted-alike bs m bs l)

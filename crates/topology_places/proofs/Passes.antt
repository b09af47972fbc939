-- Tests on the numbers below a bound: the count if two tests agree or if no number passes, the last number that passes, that the count is not 0
-- exactly where a number passes, and that it is no greater than another if the numbers that pass go to different ones of the other.
use mathlib.Core.Path.{◌≡◌, refl, sym, ap, ◌∙◌}
use mathlib.Core.Logic.{◌≢◌}
use Prim.Native.Nat.{ℕ, zero, suc, ◌+◌, ◌≤◌, ◌<◌}
use native.Mathlib.Nat.{not-suc-le-zero}
use native.Mathlib.Decide.{dec_lt}
use native.Mathlib.Omega.{arith}
use mathlib.Core.Bool.{Bool, true, false, false≢true, not, ◌&&◌, cond}
use lib.Dec.{eqb}
use borrow.Author.Tests.{eq-eqb, ne_eqb}
use Rattle.std.proofs.Math.Bool.{and-true}
use Rattle.topology_places.specs.Places.{counted, last_of}

pub counted_same : (test other : ℕ → Bool) (n : ℕ) → ((a : ℕ) → a < n → test a ≡ other a) → counted test n ≡ counted other n
counted_same test other zero h = refl
counted_same test other (suc n) h =
    ap (λ (m : ℕ). m + cond (test n) 1 0) (counted_same test other n (λ a l. h a (omega arith)))
    ∙ ap (λ (b : Bool). counted other n + cond b 1 0) (h n (omega arith))

-- none of the numbers from m on passes
pub counted-still : (test : ℕ → Bool) (m n : ℕ) → m ≤ n → ((a : ℕ) → m ≤ a → a < n → test a ≡ false) → counted test n ≡ counted test m
counted-still test m zero h none = let e : 0 ≡ m = omega arith in ap (counted test) e
counted-still test m (suc n) h none = by_order (dec_lt m (suc n)) (λ l. counted-still test m n l (λ a g k. none a g (omega arith)))
  where
    by_order : Dec (m < suc n) → (m ≤ n → counted test n ≡ counted test m) → counted test (suc n) ≡ counted test m
    by_order (yes l) r = rw (none n (omega arith) (omega arith)) (omega (arith, r (omega arith)))
    by_order (no g) r = let e : suc n ≡ m = omega arith in ap (counted test) e

-- of these only the last one passes
pub counted_next : (test : ℕ → Bool) (m n : ℕ) → m ≤ n → test n ≡ true → ((a : ℕ) → m ≤ a → a < n → test a ≡ false)
    → counted test (suc n) ≡ suc (counted test m)
counted_next test m n h e none = rw e (omega (arith, counted-still test m n h none))

-- number m is the last to pass
pub last_is : (test : ℕ → Bool) (m n : ℕ) → m < n → test m ≡ true → ((a : ℕ) → m < a → a < n → test a ≡ false) → last_of test n ≡ m
last_is test m zero h e none = absurd (not-suc-le-zero h)
last_is test m (suc n) h e none = by_order (dec_lt m n) (λ l. last_is test m n l e (λ a g k. none a g (omega arith)))
  where
    by_order : Dec (m < n) → (m < n → last_of test n ≡ m) → last_of test (suc n) ≡ m
    by_order (yes l) r = rw (none n l (omega arith)) (r l)
    by_order (no g) r = let same : n ≡ m = omega arith in rw (same, e)

pub counted_some : (test : ℕ → Bool) (n : ℕ) → counted test n ≢ 0 → (a : ℕ) × (a < n) × (test a ≡ true)
counted_some test zero h = absurd (h refl)
counted_some test (suc n) h = by_test (test n) refl (counted_some test n)
  where
    by_test : (b : Bool) → test n ≡ b → (counted test n ≢ 0 → (a : ℕ) × (a < n) × (test a ≡ true)) → (a : ℕ) × (a < suc n) × (test a ≡ true)
    by_test true e r = (n, omega arith, e)
    by_test false e r =
        let s = r (λ z. h (rw e (omega arith))) in
        (s.0, omega (arith, s.1), s.2)

pub counted_none : (test : ℕ → Bool) (n a : ℕ) → counted test n ≡ 0 → a < n → test a ≡ true → ⊥
counted_none test zero a z h e = not-suc-le-zero h
counted_none test (suc n) a z h e = by_order (dec_lt a n) (λ l. counted_none test n a (omega (arith, z)) l e)
  where
    by_order : Dec (a < n) → (a < n → ⊥) → ⊥
    by_order (yes l) r = r l
    by_order (no g) r =
        let same : n ≡ a = omega arith in
        let one : counted test a + 1 ≡ 0 = rw (same, e) at z in
        omega arith

-- the last number that passes, if one does
pub record LastIs (test : ℕ → Bool) (n m : ℕ) : Type 0 where
  pub there : m < n
  pub passes : test m ≡ true
  pub later : (a : ℕ) → m < a → a < n → test a ≡ false

pub last_of_lem : (test : ℕ → Bool) (n a : ℕ) → a < n → test a ≡ true → LastIs test n (last_of test n)
last_of_lem test zero a h e = absurd (not-suc-le-zero h)
last_of_lem test (suc n) a h e = by_test (test n) refl (λ l. last_of_lem test n a l e)
  where
    by_test : (b : Bool) → test n ≡ b → (a < n → LastIs test n (last_of test n)) → LastIs test (suc n) (cond b n (last_of test n))
    by_test true q r = record { there = omega arith; passes = q; later = λ d l g. absurd (omega arith) }
    by_test false q r =
        let k = r (before (dec_lt a n)) in
        record { there = omega (arith, k.there); passes = k.passes; later = λ d g f. past k d g f (dec_lt d n) }
      where
        before : Dec (a < n) → a < n
        before (yes l) = l
        before (no l) = let s : a ≡ n = omega arith in absurd (false≢true (sym q ∙ ap test (sym s) ∙ e))

        past : LastIs test n (last_of test n) → (d : ℕ) → last_of test n < d → d < suc n → Dec (d < n) → test d ≡ false
        past k d g f (yes l) = k.later d g l
        past k d g f (no l) = let s : d ≡ n = omega arith in ap test s ∙ q

-- one number less passes if a number that passes is left out
counted_without : (test : ℕ → Bool) (n a : ℕ) → a < n → test a ≡ true → counted test n ≡ suc (counted (λ b. test b && not (eqb b a)) n)
counted_without test zero a h e = absurd (not-suc-le-zero h)
counted_without test (suc n) a h e = by_order (dec_lt a n) (λ l. counted_without test n a l e)
  where
    rest : ℕ → Bool
    rest b = test b && not (eqb b a)

    others : (b : ℕ) → b ≢ a → test b ≡ rest b
    others b d = sym (rw (ne_eqb b a d) (and-true (test b)))

    by_order : Dec (a < n) → (a < n → counted test n ≡ suc (counted rest n))
        → counted test n + cond (test n) 1 0 ≡ suc (counted rest n + cond (rest n) 1 0)
    by_order (yes l) r = rw (← (others n (λ z. omega arith))) (omega (arith, r l))
    by_order (no g) r =
        let s : n ≡ a = omega arith in
        let same : counted test n ≡ counted rest n = counted_same test rest n (λ b l. others b (λ z. omega (arith, z))) in
        let here : test n ≡ true = ap test s ∙ e in
        rw (here, eq-eqb n a s) (omega (arith, same))

-- No more numbers pass the first test than the second if each that passes the first goes to one that passes the second, and no two go to one.
pub counted_into : (p q : ℕ → Bool) (f : ℕ → ℕ) (n k : ℕ) → ((a : ℕ) → a < n → p a ≡ true → (f a < k) × (q (f a) ≡ true))
    → ((a b : ℕ) → a < n → b < n → p a ≡ true → p b ≡ true → f a ≡ f b → a ≡ b) → counted p n ≤ counted q k
counted_into p q f zero k goes once = omega arith
counted_into p q f (suc n) k goes once =
    by_test (p n) refl (λ r g. counted_into p r f n k g (λ a b h l. once a b (omega arith) (omega arith)))
  where
    by_test : (b : Bool) → p n ≡ b
        → ((r : ℕ → Bool) → ((a : ℕ) → a < n → p a ≡ true → (f a < k) × (r (f a) ≡ true)) → counted p n ≤ counted r k)
        → counted p n + cond b 1 0 ≤ counted q k
    by_test false e fewer = omega (arith, fewer q (λ a h. goes a (omega arith)))
    by_test true e fewer =
        let there = goes n (omega arith) e in
        let less = fewer (λ b. q b && not (eqb b (f n)))
        (λ a h t.
        let r = goes a (omega arith) t in
        let other : f a ≢ f n = λ z. omega (arith, once a n (omega arith) (omega arith) t e z) in
        (r.0, rw (r.1, ne_eqb (f a) (f n) other) refl)) in
        omega (arith, less, counted_without q k (f n) there.0 there.1)

-- Laws of `&&`, and of the test of all numbers below n, which holds exactly where each number passes.
use mathlib.Core.Path.{◌≡◌, refl, sym, ap, ◌∙◌}
use Prim.Native.Nat.{ℕ, zero, suc, ◌≤◌, ◌<◌}
use native.Mathlib.Nat.{not-suc-le-zero}
use native.Mathlib.Decide.{dec_lt}
use native.Mathlib.Omega.{arith}
use mathlib.Core.Bool.{Bool, true, false, ◌&&◌}
use Rattle.std.proofs.lemmas.Bool.{and_parts}
use Rattle.base.specs.Tests.{all}

-- Two constructors are different because their equality would make 0 and 1 equal: `clash (cc)`.
pub clash : ◌≡◌ {A = ℕ} 0 1 → ⊥
clash e = omega arith

-- a test that cannot be true is false
pub refuted : (b : Bool) → (b ≡ true → ⊥) → false ≡ b
refuted true h = absurd (h refl)
refuted false h = refl

-- `a && b` holds where both hold; the converse is `and_parts` of std
pub and_both : {a b : Bool} → a ≡ true → b ≡ true → a && b ≡ true
and_both p q = rw (p, q)

pub and_swap : (a b c : Bool) → a && (b && c) ≡ b && (a && c)
and_swap true b c = refl
and_swap false true c = refl
and_swap false false c = refl

pub all_below : (n : ℕ) (p : ℕ → Bool) → all n p ≡ true → (i : ℕ) → i < n → p i ≡ true
all_below zero p e i h = absurd (not-suc-le-zero h)
all_below (suc n) p e i h = last_or_before (dec_lt i n) (all_below n p (and_parts (all n p) (p n) e).0 i)
  where
    last_or_before : Dec (i < n) → (i < n → p i ≡ true) → p i ≡ true
    last_or_before (yes l) r = r l
    last_or_before (no g) r =
        let s : i ≡ n = omega arith in
        ap p s ∙ (and_parts (all n p) (p n) e).1

pub below_all : (n : ℕ) (p : ℕ → Bool) → ((i : ℕ) → i < n → p i ≡ true) → all n p ≡ true
below_all zero p f = refl
below_all (suc n) p f = and_both (below_all n p (λ i h. f i (omega arith))) (f n (omega arith))

pub all_cong : (n : ℕ) (p q : ℕ → Bool) → ((i : ℕ) → i < n → p i ≡ q i) → all n p ≡ all n q
all_cong zero p q f = refl
all_cong (suc n) p q f = rw (all_cong n p q (λ i h. f i (omega arith)), f n (omega arith))

-- the same for fewer numbers and another test that agrees on them
pub all_fewer : (n k : ℕ) (p q : ℕ → Bool) → k ≤ n → ((i : ℕ) → i < k → p i ≡ q i) → all n p ≡ true → all k q ≡ true
all_fewer n k p q h f e = below_all k q (λ i l. sym (f i l) ∙ all_below n p e i (omega arith))

-- Numbers as text: a decimal number is its other digits followed by its last digit, and so is one in base sixteen; how many digits a number takes.
use Rattle.std.proofs.Common.{◌≡◌, refl, ap, ℕ, zero, suc, ◌+◌, ◌/◌, ◌%◌, ◌^◌, ◌-◌, ◌≤◌, ◌<◌, Bool, true, false, cond, ltb, arith}
use Rattle.std.proofs.Common.{List, [], ◌∷◌, ◌++◌, length, length-append}
use native.Mathlib.Nat.{not-suc-le-zero, pow-suc, div-lt_self}
use borrow.Author.Tests.{lt-ltb, le-ltb, ltb-true, ltb-false}
use Rattle.text.specs.Text.{decimal_last, decimal, hex_digit, hex_last, hex8}

cond_else : (t : Bool) {a b : List ℕ} → (t ≡ false → a ≡ b) → cond t [] a ≡ cond t [] b
cond_else true f = refl
cond_else false f = f refl

shorter : (n m : ℕ) → n < suc m → 10 ≤ n → n / 10 < m
shorter n m h g = omega (arith, div-lt_self {n = n} {k = 10} (omega arith) (omega arith))

-- if more digits are allowed than n takes, the bound makes no difference
enough : (j k n : ℕ) → n < j → n < k → decimal_last j n ≡ decimal_last k n
unfolding decimal_last
enough zero k n h g = absurd (not-suc-le-zero h)
enough (suc j) zero n h g = absurd (not-suc-le-zero g)
enough (suc j) (suc k) n h g =
    let below : ltb n 10 ≡ false → decimal_last j (n / 10) ≡ decimal_last k (n / 10) =
    λ e. enough j k (n / 10) (shorter n j h (ltb-false n 10 e)) (shorter n k g (ltb-false n 10 e)) in
    ap (λ (l : List ℕ). l ++ ((48 + n % 10) ∷ [])) (cond_else (ltb n 10) below)

pub decimal_digit : (n : ℕ) → n < 10 → decimal n ≡ (48 + n) ∷ []
unfolding decimal decimal_last
decimal_digit n h =
    let e : n % 10 ≡ n = omega arith in
    rw (lt-ltb n 10 h, e)

pub decimal_more : (n : ℕ) → 10 ≤ n → decimal n ≡ decimal (n / 10) ++ ((48 + n % 10) ∷ [])
unfolding decimal decimal_last
decimal_more n h =
    let e = enough n (suc (n / 10)) (n / 10) (shorter n n (omega arith) h) (omega arith) in
    rw (le-ltb n 10 h) (ap (λ (l : List ℕ). l ++ ((48 + n % 10) ∷ [])) e)

-- a number below 10 ^ k takes at most k digits, for k at least 1
pub length-decimal : (k n : ℕ) → n < 10 ^ suc k → length (decimal n) ≤ suc k
length-decimal zero n h =
    let one : n < 10 = omega (arith, pow-suc 10 0) in
    rw (decimal_digit n one) (omega arith)
length-decimal (suc k) n h =
    let front : n / 10 < 10 ^ suc k = omega (arith, pow-suc 10 (suc k)) in
    by_test (ltb n 10) refl (length-decimal k (n / 10) front)
  where
    by_test : (t : Bool) → ltb n 10 ≡ t → length (decimal (n / 10)) ≤ suc k → length (decimal n) ≤ suc (suc k)
    by_test true e f = rw (decimal_digit n (ltb-true n 10 e)) (omega arith)
    by_test false e f = rw (decimal_more n (ltb-false n 10 e), length-append) (omega arith)

some_digit : (n : ℕ) → 1 ≤ length (decimal n)
unfolding decimal decimal_last
some_digit n = rw length-append (omega arith)

-- a larger number takes no fewer digits
pub decimal_grows : (n m : ℕ) → n ≤ m → length (decimal n) ≤ length (decimal m)
decimal_grows n m h = up_to (suc n) n m (omega arith) h
  where
    more : (n m : ℕ) → n ≤ m → 10 ≤ n → length (decimal (n / 10)) ≤ length (decimal (m / 10)) → length (decimal n) ≤ length (decimal m)
    more n m h g r = rw (decimal_more n g, decimal_more m (omega arith), length-append, length-append) (omega arith)

    up_to : (fuel n m : ℕ) → n < fuel → n ≤ m → length (decimal n) ≤ length (decimal m)
    up_to zero n m f h = absurd (not-suc-le-zero f)
    up_to (suc fuel) n m f h = by_test (ltb n 10) refl (λ g. up_to fuel (n / 10) (m / 10) (shorter n fuel f g) (omega arith))
      where
        by_test : (t : Bool) → ltb n 10 ≡ t → (10 ≤ n → length (decimal (n / 10)) ≤ length (decimal (m / 10)))
            → length (decimal n) ≤ length (decimal m)
        by_test true e r = rw (decimal_digit n (ltb-true n 10 e)) (some_digit m)
        by_test false e r = more n m h (ltb-false n 10 e) (r (ltb-false n 10 e))

length-hex_last : (k n : ℕ) → length (hex_last k n) ≡ k
unfolding hex_last
length-hex_last zero n = refl
length-hex_last (suc k) n = rw length-append (omega (arith, length-hex_last k (n / 16)))

pub length-hex8 : (n : ℕ) → length (hex8 n) ≡ 8
unfolding hex8
length-hex8 n = length-hex_last 8 n

pub hex_none : (k n : ℕ) → k ≤ 0 → hex_last k n ≡ []
unfolding hex_last
hex_none zero n h = refl
hex_none (suc k) n h = absurd (omega (arith, h))

pub hex_more : (k n : ℕ) → 0 < k → hex_last k n ≡ hex_last (k - 1) (n / 16) ++ (hex_digit (n % 16) ∷ [])
unfolding hex_last
hex_more zero n h = absurd (omega (arith, h))
hex_more (suc k) n h = let e : suc k - 1 ≡ k = omega arith in rw e refl

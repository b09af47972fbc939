-- `enough d s` is the least exponent k with s ≤ d ^ k, for every d from 2 on.
use mathlib.Core.Path.{◌≡◌, refl, ap, subst}
use Prim.Native.Nat.{ℕ, zero, suc, ◌+◌, ◌^◌, ◌≤◌, ◌<◌}
use native.Mathlib.Nat.{mul-le-mul_right, pow-zero, pow-succ', pow-le-pow_right}
use native.Mathlib.Decide.{dec_lt}
use native.Mathlib.Omega.{arith}
use mathlib.Core.Bool.{Bool, true, false, cond}
use lib.Dec.{leb}
use borrow.Author.Tests.{leb-true, leb-false}
use Rattle.regular_model.specs.InnerNeed.{enough_from, enough}

pub power_pos : (d n : ℕ) → 0 < d → 1 ≤ d ^ n
power_pos d n z = omega (arith, pow-zero d, pow-le-pow_right {n = d} z {i = 0} {j = n} (omega arith))

-- n is less than 2 to the n, and so is less than d to the n
pub power-above : (d n : ℕ) → 2 ≤ d → n < d ^ n
power-above d zero z = omega (arith, pow-zero d)
power-above d (suc n) z = omega (arith, power-above d n z, pow-succ' d n, mul-le-mul_right {m = 2} {n = d} (d ^ n) z)

pub power_rises : (d j k : ℕ) → 2 ≤ d → j < k → d ^ j < d ^ k
power_rises d j k z h =
    omega (arith, power_pos d j (omega arith), pow-succ' d j, mul-le-mul_right {m = 2} {n = d} (d ^ j) z, pow-le-pow_right {n = d} (omega arith) {i = suc j} {j = k} h)

from_holds : (fuel d s k : ℕ) → s ≤ d ^ (fuel + k) → s ≤ d ^ enough_from fuel d s k
from_holds zero d s k h = subst (λ (n : ℕ). s ≤ d ^ n) (omega arith) h
from_holds (suc fuel) d s k h = by_test (leb s (d ^ k)) refl (from_holds fuel d s (suc k) (subst (λ (n : ℕ). s ≤ d ^ n) (omega arith) h))
  where
    by_test : (b : Bool) → leb s (d ^ k) ≡ b → s ≤ d ^ enough_from fuel d s (suc k) → s ≤ d ^ cond b k (enough_from fuel d s (suc k))
    by_test true e r = leb-true s (d ^ k) e
    by_test false e r = r

from_least : (fuel d s k j : ℕ) → k ≤ j → s ≤ d ^ j → enough_from fuel d s k ≤ j
from_least zero d s k j l h = l
from_least (suc fuel) d s k j l h = by_test (leb s (d ^ k)) refl (λ g. from_least fuel d s (suc k) j g h)
  where
    other : leb s (d ^ k) ≡ false → k ≡ j → ⊥
    other e q = omega (arith, leb-false s (d ^ k) e, h, ap (λ (n : ℕ). d ^ n) q)

    by_test : (b : Bool) → leb s (d ^ k) ≡ b → (suc k ≤ j → enough_from fuel d s (suc k) ≤ j) → cond b k (enough_from fuel d s (suc k)) ≤ j
    by_test true e r = l
    by_test false e r = r (below (other e))
      where
        below : (k ≡ j → ⊥) → suc k ≤ j
        below n = omega arith

module _ (d : ℕ) (z : 2 ≤ d) (s : ℕ) where
  pub enough-holds : s ≤ d ^ enough d s
  unfolding enough
  enough-holds =
      let q : s + 0 ≡ s = omega arith in
      from_holds s d s 0 (rw q (omega (arith, power-above d s z)))

  pub enough-least : (j : ℕ) → s ≤ d ^ j → enough d s ≤ j
  unfolding enough
  enough-least j h = from_least s d s 0 j (omega arith) h

  -- the exponent is unique
  enough_is : (k : ℕ) → s ≤ d ^ k → ((j : ℕ) → j < k → d ^ j < s) → enough d s ≡ k
  enough_is k h g = by_order (dec_lt (enough d s) k)
    where
      by_order : Dec (enough d s < k) → enough d s ≡ k
      by_order (yes l) = absurd (omega (arith, g (enough d s) l, enough-holds))
      by_order (no l) = omega (arith, enough-least k h, l)

pub enough-power : (d : ℕ) → 2 ≤ d → (k : ℕ) → enough d (d ^ k) ≡ k
enough-power d z k = enough_is d z (d ^ k) k (omega arith) (λ j l. power_rises d j k z l)

-- The powers of d up to the least that is at least a number.
use Rattle.std.proofs.Common.{◌≡◌, ℕ, ◌+◌, ◌*◌, ◌^◌, ◌≤◌, ◌<◌, sym, ap, ◌∙◌, arith}
use Rattle.std.proofs.Math.Nat.{mul-le-mul_left, pow-zero, pow-succ'}
use native.Mathlib.Decide.{dec_le}
use native.Mathlib.Numerals.{add-one}
use native.Mathlib.Nat.{pow-suc}
use Rattle.regular_model.specs.InnerNeed.{enough}
use Rattle.regular_model.proofs.Enough.{enough-holds, enough-least, power-above}

-- `power` is d to the k, where k is at most the least exponent that is enough.
pub record Reached (d number power k : ℕ) : Type 0 where
  pub power-is : power ≡ d ^ k
  pub not_past : k ≤ enough d number

pub reached_none : (d number : ℕ) → Reached d number 1 0
reached_none d number = record { power-is = sym (pow-zero d); not_past = omega arith }

module _ (d number : ℕ) (z : 2 ≤ d) (power k : ℕ) (r : Reached d number power k) where
  pub reached-above : k < power
  reached-above = omega (arith, r.power-is, power-above d k z)

  pub reached-more : power < power * d
  reached-more = omega (arith, reached-above, mul-le-mul_left {m = 2} {n = d} power z)

  pub reached_next : power < number → Reached d number (power * d) (k + 1)
  reached_next h = record {
    power-is = ap (λ (p : ℕ). p * d) r.power-is ∙ sym (pow-suc d k) ∙ ap (λ (n : ℕ). d ^ n) (sym (add-one k));
    not_past = below (dec_le (k + 1) (enough d number));
  }
    where
      same : enough d number ≡ k → ⊥
      same e = omega (arith, enough-holds d z number, r.power-is, ap (λ (n : ℕ). d ^ n) e)

      below : Dec (k + 1 ≤ enough d number) → k + 1 ≤ enough d number
      below (yes l) = l
      below (no l) = absurd (same (omega (arith, r.not_past)))

  pub reached_end : number ≤ power → k ≡ enough d number
  reached_end h = omega (arith, r.not_past, enough-least d z number k (omega (arith, r.power-is)))

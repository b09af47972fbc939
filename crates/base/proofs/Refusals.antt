-- Two tests, one after the other: when neither refuses, which of two refusals is given, and bounds on the numbers.
use mathlib.Core.Path.{◌≡◌, refl}
use mathlib.Core.Logic.{◌≢◌}
use Prim.Native.Nat.{ℕ, zero, suc, ◌≤◌}
use native.Mathlib.Omega.{arith}
use mathlib.Core.Bool.{Bool, true, false, cond}
use Rattle.base.specs.Refusals.{or_else, unless_refused}

pub or_else_none : (f r : ℕ) → or_else f r ≡ 0 → (f ≡ 0) × (r ≡ 0)
or_else_none zero r e = (refl, e)
or_else_none (suc f) r e = absurd (omega arith)

-- a fault of the first test is the answer, whatever the second test says
pub or_else_first : (f r : ℕ) → f ≢ 0 → f ≡ or_else f r
or_else_first zero r z = absurd (z refl)
or_else_first (suc f) r z = refl

-- no test after it
pub or_else_last : (f : ℕ) → or_else f 0 ≡ f
or_else_last zero = refl
or_else_last (suc f) = refl

-- the second test matters only where the first gives 0
pub or_else_same : (f r s : ℕ) → (f ≡ 0 → r ≡ s) → or_else f r ≡ or_else f s
or_else_same zero r s h = h refl
or_else_same (suc f) r s h = refl

pub or_else_most : (k f r : ℕ) → f ≤ k → r ≤ k → or_else f r ≤ k
or_else_most k zero r h g = g
or_else_most k (suc f) r h g = h

pub cond_most : (k : ℕ) (b : Bool) (x y : ℕ) → x ≤ k → y ≤ k → cond b x y ≤ k
cond_most k true x y h g = h
cond_most k false x y h g = g

pub refused_other {ℓ} : {A : Type ℓ} (f : ℕ) (a b : A) → f ≢ 0 → b ≡ unless_refused f a b
refused_other zero a b n = absurd (n refl)
refused_other (suc f) a b n = refl

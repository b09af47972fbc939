use Rattle.std.proofs.Common.{◌-◌, ◌^◌, ℕ, ap, ◌∙◌, arith}
use Rattle.std.proofs.Math.Nat.{mul-le-mul_left}
use Rattle.regular_depth.proofs.Powers.{reached_none, reached-above, reached-more, reached_next, reached_end}
use Rattle.regular_depth.proofs.Degree.least_power.Goals as goal

pub loop-power-init : goal.loop-power-init
loop-power-init c = reached_none _ _

pub overflow_mul-power : goal.overflow_mul-power
overflow_mul-power c = omega (arith, mul-le-mul_left {m = c.args.self.d} {n = 8} c.loop-power.power (omega arith))

pub overflow_add-exponent : goal.overflow_add-exponent
overflow_add-exponent c = omega (arith, reached-above _ _ (omega arith) _ _ c.loop-power.invariant)

pub loop-power-smaller : goal.loop-power-smaller
loop-power-smaller c = omega (arith, reached-more _ _ (omega arith) _ _ c.loop-power.invariant)

pub loop-power-preserved : goal.loop-power-preserved
loop-power-preserved c = reached_next _ _ (omega arith) _ _ c.loop-power.invariant (omega arith)

pub returns-clause-power : goal.returns-clause-power
returns-clause-power c =
    let r = c.loop-power.invariant in
    r.power-is ∙ ap (λ (k : ℕ). c.args.self.d ^ k) (reached_end _ _ (omega arith) _ _ r (omega arith))

pub returns-clause-exponent : goal.returns-clause-exponent
returns-clause-exponent c = reached_end _ _ (omega arith) _ _ c.loop-power.invariant (omega arith)

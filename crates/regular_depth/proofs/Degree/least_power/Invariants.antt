-- `least_power` meets its contract. The power is that of the exponent, which is at most the least that is enough.
use Rattle.std.proofs.Common.{◌-◌}
use Rattle.regular_depth.proofs.Powers.{Reached}
use Rattle.regular_depth.proofs.Degree.least_power.Given as goal

abbrev pub invariant-loop-power : goal.invariant-loop-power
invariant-loop-power l = Reached l.self.d l.number l.power l.exponent

abbrev pub decreases-loop-power : goal.decreases-loop-power
decreases-loop-power l = l.number - l.power

-- A refusal that is tested after the state: 18 comes first.
use Rattle.std.proofs.Common.{◌≡◌, refl, Bool, true, false, cond}
use Rattle.std.specs.Prelude.{Result, unwrap_or}
use Rattle.std.specs.Result.{result_err}
use Rattle.refusal.specs.Numbers.{number}
use Rattle.refusal.specs.declared.Refusal.{Refusal}
use Rattle.queue_counts.specs.Amounts.{checked}

pub state_first : (o : Result Unit Refusal) (w : Bool) (e : Refusal) → o ≡ checked w → number (unwrap_or (result_err o) e) ≡ cond w (number e) 18
state_first o true e h = rw h refl
state_first o false e h = rw h refl

-- A call's own refusal after a test of something else: the test's refusal comes first.
use Rattle.std.proofs.Common.{◌≡◌, ℕ, refl}
use Rattle.std.specs.Prelude.{Result, Ok, Err, unwrap_or}
use Rattle.std.specs.Result.{result_err}
use Rattle.base.specs.Refusals.{or_else}
use Rattle.refusal.specs.Numbers.{number, number_of}
use Rattle.refusal.specs.declared.Refusal.{Refusal}
use Rattle.refusal.proofs.Numbers.{refused_first}

pub or_refused : (o : Result Unit Refusal) (f : ℕ) (e : Refusal) → number_of o ≡ f → number (unwrap_or (result_err o) e) ≡ or_else f (number e)
or_refused (Ok u) f e h = rw (← h) refl
or_refused (Err r) f e h = refused_first r f (number e) h

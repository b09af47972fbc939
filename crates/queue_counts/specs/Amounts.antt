-- The answer to a question for a count, and to the test of a state alone.
use Rattle.std.specs.Prelude.{ℕ, Bool, true, false, Result, Ok, Err}
use Rattle.refusal.specs.declared.Refusal.{Refusal}
use Rattle.refusal.specs.declared.Refusal.TheVariants as r

-- a count if the state is well formed, else the refusal 18
abbrev pub amount : Bool → ℕ → Result ℕ Refusal
amount true n = Ok n
amount false n = Err r.State

-- accepted if the state is well formed, else the refusal 18
abbrev pub checked : Bool → Result Unit Refusal
checked true = Ok tt
checked false = Err r.State

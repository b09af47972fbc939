-- Refusals (paper 01: the numbered errors that a call answers), by their numbers. The number 0 means that nothing is refused.
use Rattle.std.specs.Prelude.{ℕ, zero, suc}

-- two tests in order: the refusal of the first or, if that is 0, of the second
abbrev pub or_else : ℕ → ℕ → ℕ
or_else zero rest = rest
or_else (suc f) rest = suc f

-- the first value if nothing is refused, else the second
abbrev pub unless_refused {ℓ} : {A : Type ℓ} → ℕ → A → A → A
unless_refused zero a b = a
unless_refused (suc f) a b = b

-- The definitions in which proofs/Accepted and proofs/Debt state what paper 02, 2.4 asks of the debt.
use Rattle.std.specs.Prelude.{ℕ, ◌≤◌, List, [], ◌∷◌}
use Rattle.topology.specs.Reader.{owing, marking, fault}

-- the debt after some bytes, and the marks after them (`marking` in specs/Reader)
abbrev pub debt_after : ℕ → List ℕ → ℕ
debt_after debt [] = debt
debt_after debt (b ∷ bs) = debt_after (owing debt b) bs

abbrev pub marks_after : ℕ → List ℕ → List ℕ → List ℕ
marks_after debt marks [] = marks
marks_after debt marks (b ∷ bs) = marks_after (owing debt b) (marking debt marks b) bs

-- Each of the bytes is accepted: none has a fault from 2 to 5. Refusal 1 comes only after the last byte and says that bytes are missing.
abbrev pub Accepted : ℕ → List ℕ → Type 0
Accepted limit bytes = fault limit bytes ≤ 1

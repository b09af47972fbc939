-- What an answer about a drawing and a number of children means. For each such pair there is exactly one answer (`answers_some`, `answers_once` in
-- proofs/Answers).
use Rattle.std.specs.Prelude.{◌≡◌, ℕ, List, Result, IfOk}
use Rattle.refusal.specs.Numbers.{number_of}
use Rattle.refusal.specs.declared.Refusal.{Refusal}
use Rattle.topology.specs.Reader.{tree}
use Rattle.regular_model.specs.Depth.{LeastDepth, depth_fault}

abbrev pub Answers : List ℕ → ℕ → Result ℕ Refusal → Type 0
Answers source d r = (number_of r ≡ depth_fault source d) × IfOk r (λ k. LeastDepth (tree source) d k)

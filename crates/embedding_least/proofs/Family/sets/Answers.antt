use Rattle.std.proofs.Common.{◌≡◌, ◌∙◌, ℕ, ◌≤◌, ◌^◌, ◌%◌, ◌*◌, arith}
use Rattle.std.proofs.lemmas.Nat.{one_shl}
use Rattle.embedding_program.specs.InnerSets.{power}
use Rattle.embedding_program.proofs.Cells.{power-is}
use Rattle.embedding_least.proofs.Family.sets.Goals as goal

shifted : (k : ℕ) → k ≤ 8 → (1 * 2 ^ k) % 18446744073709551616 ≡ power k
shifted k few = one_shl k 64 (omega arith) ∙ power-is k

pub returns-clause-value : goal.returns-clause-value
returns-clause-value c = shifted _ c.args.self.now.few

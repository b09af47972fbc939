use Rattle.std.proofs.Common.{arith}
use Rattle.std.proofs.lemmas.Grind.{common_steps}
use Rattle.embedding_program.proofs.Nodes.{entry_shut, entry-leaf}
use Rattle.embedding_least.proofs.Scan.entry.Goals.{then-is_empty, else-is_empty}
use Rattle.embedding_least.proofs.Scan.entry.Goals as goal

pub returns-then-is_shut-clause-best : goal.returns-then-is_shut-clause-best
returns-then-is_shut-clause-best c =
    elim c.if-is_empty.branch [
      | then-is_empty w ↦ entry_shut _ _ _ _ _ (λ k. grind (arith, common_steps))
      | else-is_empty w ↦ entry-leaf _ _ _ _ _ (λ k. grind (arith, common_steps)) (grind (arith, common_steps))
    ]

-- The children before `kid` are tried at p.
use Rattle.embedding_program.proofs.Cells.{Trying}
use Rattle.embedding_least.proofs.Scan.fill_row.Given as goal

abbrev pub invariant-loop-kid : goal.invariant-loop-kid
invariant-loop-kid l =
    Trying l.family.best.now l.family.kids.now l.family.ends.now l.initial.self.rows l.p l.kid-index l.power l.weight l.self.rows

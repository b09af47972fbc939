-- The rows from p on are filled in.
use Rattle.embedding_program.proofs.Cells.{Filling}
use Rattle.embedding_least.proofs.Scan.place.Given as goal

abbrev pub invariant-loop-p : goal.invariant-loop-p
invariant-loop-p l = Filling l.family.best.now l.family.kids.now l.family.ends.now l.t l.p l.self.rows

-- The entries before `set` are copied.
use Rattle.embedding_program.specs.InnerTables.{RowCopied}
use Rattle.embedding_least.proofs.Scan.copy_row.Given as goal

abbrev pub invariant-loop-set : goal.invariant-loop-set
invariant-loop-set l = RowCopied l.initial.self.rows l.p l.set l.self.rows

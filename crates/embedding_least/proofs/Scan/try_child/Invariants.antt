-- The child is tried in the first n of the sets that contain it.
use Rattle.embedding_program.specs.InnerSets.{holding}
use Rattle.embedding_program.proofs.Cells.{Trial}
use Rattle.embedding_least.proofs.Scan.try_child.Given as goal

abbrev pub invariant-loop-n : goal.invariant-loop-n
invariant-loop-n l = Trial l.initial.self.rows l.p l.end l.power l.here (holding l.power l.n) l.self.rows

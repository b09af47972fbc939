-- The images of the children of the source nodes before s are read.
use Rattle.topology.specs.Reader.{tree}
use Rattle.embedding_program.specs.InnerTables.{best_by}
use Rattle.embedding_program.specs.InnerMeaning.{ReadTo}
use Rattle.embedding_least.proofs.read_off.Given as goal

abbrev pub invariant-loop-s : goal.invariant-loop-s
invariant-loop-s l = ReadTo (tree l.source) (best_by l.best) l.s l.images

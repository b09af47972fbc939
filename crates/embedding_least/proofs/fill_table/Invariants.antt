-- The table is right from source node s on.
use Rattle.topology.specs.Reader.{tree}
use Rattle.embedding_program.specs.InnerTables.{best_by}
use Rattle.embedding_program.specs.InnerMeaning.{Truth}
use Rattle.embedding_least.proofs.fill_table.Given as goal

abbrev pub invariant-loop-s : goal.invariant-loop-s
invariant-loop-s l = Truth (tree l.source) (tree l.target) (best_by l.best) l.s

-- The children from the first down to `place` are listed, and `next` is the one after them.
use Rattle.topology.specs.Reader.{tree}
use Rattle.embedding_program.proofs.Images.{Listing}
use Rattle.embedding_least.proofs.kids_of.Given as goal

abbrev pub invariant-loop-place : goal.invariant-loop-place
invariant-loop-place l = Listing (tree l.source) l.node l.place l.next l.kids

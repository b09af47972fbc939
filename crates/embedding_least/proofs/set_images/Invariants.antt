-- The images at the places before `place` are written.
use Rattle.embedding_program.specs.InnerMeaning.{Put}
use Rattle.embedding_least.proofs.set_images.Given as goal

abbrev pub invariant-loop-place : goal.invariant-loop-place
invariant-loop-place l = Put l.kids l.place l.number l.initial.images l.images

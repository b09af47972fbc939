use Rattle.std.proofs.Common.{arith}
use Rattle.embedding_least.proofs.Searches.{leaf-small, leaf-placed}
use Rattle.embedding_least.proofs.place_leaf.Goals as goal

pub overflow_cast-images : goal.overflow_cast-images
overflow_cast-images c = omega (arith, leaf-small c.args.target.now c.requires, c.first_leaf.ensures)

pub returns : goal.returns
returns c = leaf-placed c.args.target.now c.requires _ c.first_leaf.ensures

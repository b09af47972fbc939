-- The table is shut at the roots, or the images are read off it.
use Rattle.std.proofs.Common.{arith}
use Rattle.embedding_trees.proofs.BranchEnds.{is_table}
use Rattle.embedding_least.proofs.Searches.{solve_none, solve_found}
use Rattle.embedding_least.proofs.solve.Goals as goal

pub fill_table-requires : goal.fill_table-requires
fill_table-requires c =
    record {
      source_draws = c.requires.0;
      target_draws = c.requires.1;
      source_table = is_table c.args.source.now _ (omega (arith, c.requires.0.fits)) c.branch_ends-source_ends.ensures;
      target_table = is_table c.args.target.now _ c.requires.1.fits c.branch_ends-target_ends.ensures;
    }

pub returns-then-best-ge-NONE : goal.returns-then-best-ge-NONE
returns-then-best-ge-NONE c =
    solve_none c.args.source.now c.requires.0 c.args.target.now c.requires.1 _ c.fill_table.ensures c.requires.2 c.if-best-ge-NONE.true

pub read_off-requires : goal.read_off-requires
read_off-requires c =
    (c.requires.0, is_table c.args.source.now _ (omega (arith, c.requires.0.fits)) c.branch_ends-source_ends.ensures)

pub returns : goal.returns
returns c =
    solve_found c.args.source.now c.requires.0 c.args.target.now c.requires.1 _ c.fill_table.ensures c.requires.2 c.if-best-ge-NONE.false _
    c.read_off.ensures

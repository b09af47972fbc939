-- The accepted trees have no fault, so the target's nodes fit the table.
use Rattle.std.proofs.Common.{sym}
use Rattle.topology.specs.Reader.{fault}
use Rattle.base.proofs.Refusals.{or_else_none}
use Rattle.embedding_trees.proofs.TreesFault.{tree-fits}
use Rattle.embedding_check.proofs.check.Goals as goal

pub check_list-requires : goal.check_list-requires
check_list-requires c =
    let both = or_else_none (fault 32 c.args.source.now) (fault 64 c.args.target.now) (sym c.in_ok-read_both.ensures) in
    (both.0, (tree-fits 64 c.args.target.now both.1).1)

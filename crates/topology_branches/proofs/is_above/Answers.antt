-- `is_above` meets its contract: one law for each return.
use Rattle.std.proofs.Common.{◌∙◌}
use Rattle.topology.proofs.Cases.{above_test, above_not}
use borrow.Author.Tests.{lt-leb}
use Rattle.topology_branches.proofs.is_above.Goals as goal

pub returns-then-a-b : goal.returns-then-a-b
returns-then-a-b c = above_test _ _ _ _ c.if-a-b.true c.branch_end.ensures

pub returns-else-a-b : goal.returns-else-a-b
returns-else-a-b c = lt-leb _ _ c.if-a-b.false ∙ above_not _ _ _ c.if-a-b.false

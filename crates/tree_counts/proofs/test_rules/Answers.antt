-- `test_rules` meets its contract.
use Rattle.std.proofs.Common.{arith}
use Rattle.tree_counts.proofs.AreSound.{rules_pass}
use Rattle.tree_counts.proofs.test_rules.Goals as goal

pub returns : goal.returns
returns c = rules_pass _ _ c.bytes.ensures _ c.check_rules.ensures c.if-is_err.ensures.negation (omega arith)

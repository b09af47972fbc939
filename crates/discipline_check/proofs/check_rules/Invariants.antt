-- `check_rules` meets its contract. The rules of the nodes before `node` have no fault.
use Rattle.std.proofs.Common.{◌≡◌, true}
use Rattle.topology.specs.Reader.{fault, tree}
use Rattle.discipline_model.specs.Figure.{all_sound_below}
use Rattle.discipline_check.proofs.check_rules.Given as goal

abbrev pub invariant-loop-node : goal.invariant-loop-node
invariant-loop-node l = fault 64 l.bytes ≡ 0 → all_sound_below (tree l.bytes) l.rules l.node ≡ true

-- `can_share` meets its contract. The children before the counter have weights; `child` is the next one.
use Rattle.std.proofs.Common.{◌≡◌, true}
use Rattle.topology.specs.Reader.{fault, tree}
use Rattle.topology.specs.Branch.{start}
use Rattle.discipline_model.specs.Figure.{weighs}
use Rattle.discipline_check.proofs.can_share.Given as goal

abbrev pub invariant-loop : goal.invariant-loop
invariant-loop l =
    (l.child ≡ start l.bytes l.node l.counter) × (fault 64 l.bytes ≡ 0 → weighs (tree l.bytes) l.rules l.node l.counter ≡ true)

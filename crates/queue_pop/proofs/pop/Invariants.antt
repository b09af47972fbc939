-- `pop` meets its contract: the cases in the order of the tests, 18, 16, and a packet that leaves. The loop closes the gaps (`Closing` in
-- proofs/Gaps), and the state's other parts stay as they are.
use Rattle.std.proofs.Common.{◌≡◌}
use Rattle.queue_pop.proofs.Gaps.{Closing}
use Rattle.queue_pop.proofs.pop.Given as goal

abbrev pub invariant-loop-node : goal.invariant-loop-node
invariant-loop-node l =
    let old = l.fn.state in
    Closing old.frame.nodes old.lengths l.lengths old.entries l.after.entries l.kept l.end l.node
    × (l.after.frame ≡ old.frame) × (l.after.refused ≡ old.refused) × (l.after.lengths ≡ old.lengths)

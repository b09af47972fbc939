-- `push` meets its contract: the cases in the order of the tests, 18, 13 and 14, 15, and a packet that is accepted. The loop makes room (`Making` in
-- proofs/Insertion), and the state's other parts stay as they are.
use Rattle.std.proofs.Common.{◌≡◌}
use Rattle.queue_push.proofs.Insertion.{Making}
use Rattle.queue_push.proofs.push.Given as goal

abbrev pub invariant-loop-node : goal.invariant-loop-node
invariant-loop-node l =
    let old = l.fn.state in
    Making old.frame.nodes l.test.used l.added.count old.lengths l.added.entries old.entries
    l.left l.after.lengths l.after.entries l.node l.begin l.end
    × (l.after.frame ≡ old.frame) × (l.after.refused ≡ old.refused)

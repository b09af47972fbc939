-- `tally` meets its contract: a queue that does not fit, one at fault, one with other counts, and one more that is fine.
use Rattle.std.proofs.Common.{sym, ◌∙◌}
use Rattle.std.proofs.lemmas.Bool.{false≢true}
use Rattle.topology.proofs.Lookup.{valid_length, valid_byte}
use Rattle.queue_check.proofs.Tally.{over, fault, mismatch, leave}
use Rattle.queue_check.proofs.soundness.tally.Goals as goal

pub returns-in_err-queue : goal.returns-in_err-queue
returns-in_err-queue c =
    rw c.from_residual.ensures (over _ _ _ _ _ _ c.loop-node.invariant c.loop-node-test.true _ c.in_err-queue.ensures)

pub returns-in_err-counts : goal.returns-in_err-counts
returns-in_err-counts c =
    rw c.from_residual-in_err-counts.ensures
    (fault _ _ _ _ _ _ c.loop-node.invariant c.loop-node-test.true _ c.in_ok-queue.ensures.1 _ c.in_err-counts.ensures)

pub returns-then-not-children_match : goal.returns-then-not-children_match
returns-then-not-children_match c =
    mismatch _ _ _ _ _ _ c.loop-node.invariant c.loop-node-test.true _ c.in_ok-queue.ensures.1 _ c.in_ok-counts.ensures
    (valid_byte 64 _ c.requires _) _ (λ m. false≢true (sym c.if-not-children_match.true ∙ c.children_match.ensures.1 m))

pub loop-node-preserved : goal.loop-node-preserved
loop-node-preserved c =
    rw (c.copied.ensures ∙ c.first.ensures.value)
    (leave _ _ _ _ _ _ c.loop-node.invariant c.loop-node-test.true _ c.in_ok-queue.ensures.1 _ c.in_ok-counts.ensures
    (valid_byte 64 _ c.requires _) c.in_ok-queue.ensures.2 (c.children_match.ensures.0 c.if-not-children_match.false) c.in_ok-queue.ensures.0 (valid_length 64 _ c.requires))

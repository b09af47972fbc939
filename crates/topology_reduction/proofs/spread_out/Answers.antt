use Rattle.std.proofs.Common.{arith, ℕ, List, ◌<◌, length, take, ap, ◌∙◌}
use Rattle.topology_reduction.proofs.SpreadOut.{spread_out_kept, spread_out_passed, spread_out_end, first_32, length_first}
use Rattle.topology_reduction.specs.Reduced.{spread, in32}
use Rattle.topology_reduction.proofs.spread_out.Goals as goal
use Rattle.topology_reduction.proofs.spread_out.Goals.{then-children-eq1, else-children-eq1}

pub loop-n-preserved : goal.loop-n-preserved
loop-n-preserved c =
    let few : c.loop-n.n < 32 = omega (arith, length_first c.args.bytes.now, ap (λ (k : ℕ). length (take k c.args.bytes.now)) c.min.ensures) in
    let left : c.loop-n.next < length c.args.images.now = omega (arith, c.loop-n.invariant.few) in
    elim c.if-children-eq1.branch [
      | then-children-eq1 w ↦ spread_out_passed _ _ _ _ _ c.loop-n.invariant c.loop-n-test.true left few _ _ w.if-children-eq1.true w.map-is w.next-is
      | else-children-eq1 w ↦ spread_out_kept _ _ _ _ _ c.loop-n.invariant c.loop-n-test.true left few _ _ w.if-children-eq1.false w.map-is w.next-is
    ]

pub returns : goal.returns
returns c =
    spread_out_end _ _ _ _ _ c.loop-n.invariant c.loop-n-test.false
    ∙ ap (λ (b : List ℕ). in32 (spread b c.args.images.now)) (ap (λ (k : ℕ). take k c.args.bytes.now) c.min.ensures ∙ first_32 c.args.bytes.now)

use Rattle.std.proofs.Common.{◌≡◌, suc, ◌-◌, leb, arith, rules, refl}
use Rattle.std.proofs.lemmas.List.Sorted.{IsPartitionPoint-from_clause, IsPartitionedBy-leb}
use Rattle.queue_state.proofs.Arrays.{the_arrays}
use Rattle.queue_state.specs.declared.Entry.{Entry}
use Rattle.queue_push.proofs.Insertion.{rising, begin, own_rises, passed, entered, opened_all}
use Rattle.queue_push.proofs.PushCases.{valid, fault_served, full_served, ready, accepted_served}
use Rattle.queue_push.proofs.push.Goals as goal

pub walk-requires : goal.walk-requires
walk-requires c = valid _ _ c.in-Some.ensures _ c.bytes.ensures

pub returns-in-Err : goal.returns-in-Err
returns-in-Err c = fault_served _ _ c.in-Some.ensures _ c.bytes.ensures _ _ _ _ c.in-Err.ensures

pub returns-then-state-from : goal.returns-then-state-from
returns-then-state-from c = full_served _ _ c.in-Some.ensures _ c.bytes.ensures _ _ _ _ c.in-Ok.ensures (omega (arith, c.from.ensures)) _ (search rules)

pub loop-node-init : goal.loop-node-init
loop-node-init c = (
  begin _ _ _ _ _ _
      (ready _ _ c.in-Some.ensures _ c.bytes.ensures _ _ _ _ c.in-Ok.ensures (the_arrays c.args.state _ c.well_formed.0) (omega (arith, c.from.ensures))),
  refl,
  refl,
)

pub loop-node-preserved-in-Some-entries : goal.loop-node-preserved-in-Some-entries
loop-node-preserved-in-Some-entries c =
    let last : c.loop-node.node ≡ suc (c.loop-node.node - 1) = omega arith in
    let w = rw last at c.loop-node.invariant.0 in
    let x = c.in-Some-entries.entry in
    let rises = rising 0 _ (own_rises _ _ _ _ _ _ _ _ _ _ _ _ w _ c.from-begin.ensures) in
    let parted =
    IsPartitionPoint-from_clause (λ (old : Entry). leb old.rank x.rank) _ _ c.partition_point.ensures.partitioned
    (IsPartitionedBy-leb (λ (old : Entry). old.rank) _ x.rank rises) (λ a r f k. search rules) in (
      entered _ _ _ _ _ _ _ _ _ _ _ _ w _ c.from-begin.ensures x c.in-Some-entries.is _ c.partition_point.ensures.bound parted
          _ c.copy_within.ensures.len c.copy_within.ensures.after,
      c.loop-node.invariant.1,
      c.loop-node.invariant.2,
    )

pub loop-node-preserved : goal.loop-node-preserved
loop-node-preserved c =
    let last : c.loop-node.node ≡ suc (c.loop-node.node - 1) = omega arith in
    let w = rw last at c.loop-node.invariant.0 in
    (passed _ _ _ _ _ _ _ _ _ _ _ _ w _ c.from-begin.ensures c.in_default-entries.is, c.loop-node.invariant.1, c.loop-node.invariant.2)

pub returns : goal.returns
returns c =
    let none : c.loop-node.node ≡ 0 = omega arith in
    rw c.from-2.ensures
    (accepted_served _ _ c.in-Some.ensures _ c.bytes.ensures _ _ _ _ c.in-Ok.ensures (the_arrays c.args.state _ c.well_formed.0)
    (omega (arith, c.from.ensures)) _ c.loop-node.invariant.1 c.loop-node.invariant.2
    (opened_all _ _ _ _ _ _ _ _ _ _ _ (rw none at c.loop-node.invariant.0)))

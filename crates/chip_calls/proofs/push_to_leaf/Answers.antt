-- `push_to_leaf` meets its contract: one law for each answer (proofs/ChipServes).
use Rattle.std.proofs.Common.{refl}
use Rattle.refusal.proofs.Numbers.{number-ne0}
use Rattle.refusal.specs.declared.Refusal.TheVariants.{NoLeaf}
use Rattle.chip_calls.proofs.Refused.{or_refused}
use Rattle.chip_calls.proofs.ChipServes.{first_refused, not_a_leaf, leaf-refused, by_leaf}
use Rattle.chip_calls.proofs.push_to_leaf.Goals as goal

pub returns-in-Err : goal.returns-in-Err
returns-in-Err c = first_refused _ _ _ _ c.in-Err.ensures (number-ne0 _) _

pub returns-then-not-is_leaf : goal.returns-then-not-is_leaf
returns-then-not-is_leaf c =
    let map = rw c.bytes-target.ensures at c.check.ensures in
    rw (c.refuse.ensures, c.unwrap_or-refusal.ensures, c.err.ensures.value)
    (not_a_leaf _ _ _ _ c.in_default.ensures refl _ _ _ _ _ c.is_leaf.ensures c.if-not-is_leaf.true _ (or_refused _ _ NoLeaf map))

pub returns-in-Ok : goal.returns-in-Ok
returns-in-Ok c =
    let carried = rw c.bytes-target.ensures at c.in-Ok.ensures in
    by_leaf _ _ _ _ c.in_default.ensures refl _ _ _ _ _ c.is_leaf.ensures c.if-not-is_leaf.false _ c.plan_to-plan.ensures _ carried _ _ c.push_planned-answer.ensures

pub returns-in-Err-carry : goal.returns-in-Err-carry
returns-in-Err-carry c =
    let carried = rw c.bytes-target.ensures at c.in-Err-carry.ensures in
    rw c.refuse-answer.ensures (leaf-refused _ _ _ _ c.in_default.ensures refl _ _ _ _ _ c.is_leaf.ensures c.if-not-is_leaf.false _ c.plan_to-plan.ensures _ carried)

-- `push_to_leaf` meets its contract: one law for each answer (proofs/OwnServes).
use Rattle.std.proofs.Common.{refl}
use Rattle.refusal.specs.declared.Refusal.TheVariants.{NoLeaf}
use Rattle.queue_counts.proofs.StateFirst.{state_first}
use Rattle.tree_calls.proofs.OwnServes.{unsound, not_a_leaf, by_leaf}
use Rattle.tree_calls.proofs.push_to_leaf.Goals as goal

pub returns-in-Err : goal.returns-in-Err
returns-in-Err c = rw c.in-Err.ensures.refusal (unsound _ _ c.in-Err.ensures.passes refl _)

pub returns-in-Ok : goal.returns-in-Ok
returns-in-Ok c =
    let leaf = rw c.bytes.ensures at c.is_leaf.ensures in
    rw (c.unwrap_or.ensures, c.err.ensures.value, state_first _ _ NoLeaf c.check_state.ensures)
    (not_a_leaf _ _ c.in-Ok.ensures.passes refl _ _ _ _ _ leaf c.if-not-is_leaf.true)

pub returns-in-Ok-2 : goal.returns-in-Ok-2
returns-in-Ok-2 c =
    let leaf = rw c.bytes.ensures at c.is_leaf.ensures in
    let plan = rw c.bytes-in-Ok-2.ensures at c.plan_to-plan.ensures in
    by_leaf _ _ c.in-Ok.ensures.passes refl _ _ _ _ _ leaf c.if-not-is_leaf.false _ plan _ _ c.push_planned-answer.ensures

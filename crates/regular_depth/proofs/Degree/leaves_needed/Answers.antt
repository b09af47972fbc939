use Rattle.std.proofs.Common.{◌-◌, length, refl, ap, sym, ◌∙◌, arith}
use Rattle.std.proofs.lemmas.List.{take_rest, take_all}
use Rattle.regular_depth.proofs.LeavesNeeded.{last_read, stacked_none, children_most, stacked_next, stacked_end}
use Rattle.regular_depth.proofs.Degree.leaves_needed.Goals as goal

pub loop-children-init : goal.loop-children-init
loop-children-init c =
    let whole = ap (λ (s : _). s.iter) c.into_iter-children-iterator.ensures.into_iter_gives ∙ c.rev-children-items.ensures.source in
    let left = ap (λ (i : _). i.rest.now) whole ∙ c.iter.ensures.rest in
    rw (left, c.new-leaves.ensures) (stacked_none c.requires c.args.self.within, sym (take_all _ _ (omega arith)))

pub overflow_sub-others : goal.overflow_sub-others
overflow_sub-others c =
    let read = last_read _ _ _ _ c.loop-children.invariant.1 c.in-Some.ensures.steps in
    omega (arith, children_most c.requires c.args.self.within c.loop-children.invariant.0 read.more read.inside (c.from.ensures ∙ read.byte) _ refl)

pub node_leaves-node-requires : goal.node_leaves-node-requires
node_leaves-node-requires c =
    let others = c.len.result - c.from.result in
    let read = last_read _ _ _ _ c.loop-children.invariant.1 c.in-Some.ensures.steps in
    let most = children_most c.requires c.args.self.within c.loop-children.invariant.0 read.more read.inside (c.from.ensures ∙ read.byte) others (omega arith) in
    rw (take_rest, c.deref.ensures.0) most.1

pub loop-children-preserved : goal.loop-children-preserved
loop-children-preserved c =
    let others = c.len.result - c.from.result in
    let read = last_read _ _ _ _ c.loop-children.invariant.1 c.in-Some.ensures.steps in
    let next = stacked_next c.requires c.args.self.within c.loop-children.invariant.0 read.more read.inside (c.from.ensures ∙ read.byte) others (omega arith) in
    let node = rw (take_rest, c.deref.ensures.0) at c.node_leaves-node.ensures in
    (rw (c.push.ensures.items, c.truncate.ensures.items, node) (rw read.before at next), read.front)

pub bounds-deref-0 : goal.bounds-deref-0
bounds-deref-0 c =
    let e = stacked_end c.requires c.args.self.within c.loop-children.invariant.0 c.in-None.ensures.steps.0 in
    omega (arith, ap length e, ap length c.deref-2.ensures.0)

pub returns : goal.returns
returns c =
    let e = stacked_end c.requires c.args.self.within c.loop-children.invariant.0 c.in-None.ensures.steps.0 in
    rw (c.deref-2.ensures.0, e) refl

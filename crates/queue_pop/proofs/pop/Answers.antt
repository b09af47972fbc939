use Rattle.std.proofs.Common.{◌≡◌, arith, refl, sym, ◌∙◌, add-one}
use Rattle.queue_state.proofs.Arrays.{the_arrays}
use Rattle.queue_state.proofs.Serves.{ill_served}
use Rattle.queue_pop.proofs.Gaps.{closed_up, closed_all}
use Rattle.queue_pop.proofs.PopCases.{ill_way, valid, root, filled, none_served, none_way_of, closing, departed_way, departed_served}
use Rattle.queue_pop.proofs.pop.Goals as goal

pub returns-in_default : goal.returns-in_default
returns-in_default c = (ill_served _ _ (sym c.in_default.ensures.sound), c.no_way.ensures ∙ ill_way _ (sym c.in_default.ensures.sound))

pub pop_from-requires-clause-valid : goal.pop_from-requires-clause-valid
pop_from-requires-clause-valid c = valid _ (the_arrays c.args.state _ c.well_formed.0) _ c.in-Some.ensures _ c.bytes.ensures

pub pop_from-requires-clause-there : goal.pop_from-requires-clause-there
pop_from-requires-clause-there c = root _ (the_arrays c.args.state _ c.well_formed.0) _ c.in-Some.ensures _ c.bytes.ensures

pub pop_from-requires-clause-filled : goal.pop_from-requires-clause-filled
pop_from-requires-clause-filled c = filled _ (the_arrays c.args.state _ c.well_formed.0) _ c.in-Some.ensures _ c.bytes.ensures

pub returns-in_default-pop_from : goal.returns-in_default-pop_from
returns-in_default-pop_from c =
    let ar = the_arrays c.args.state _ c.well_formed.0 in
    let none = c.in_default-pop_from.ensures in (
      none_served _ ar _ c.in-Some.ensures _ c.bytes.ensures none,
      c.no_way-in_default-pop_from.ensures ∙ none_way_of _ ar _ c.in-Some.ensures _ c.bytes.ensures none,
    )

pub loop-node-init : goal.loop-node-init
loop-node-init c =
    (closing _ (the_arrays c.args.state _ c.well_formed.0) _ c.in-Some.ensures _ c.bytes.ensures _ c.in-Some-pop_from.ensures, refl, refl, refl)

pub loop-node-preserved : goal.loop-node-preserved
loop-node-preserved c =
    let w = c.loop-node.invariant in (
      rw add-one
          (closed_up _ _ _ _ _ _ _ _ w.0 c.loop-node-test.true _ _ (rw w.3 at c.from-end.ensures) c.from-length.ensures
          _ c.copy_within.ensures.len c.copy_within.ensures.after),
      w.1,
      w.2,
      w.3,
    )

pub returns : goal.returns
returns c =
    let ar = the_arrays c.args.state _ c.well_formed.0 in
    let way = c.in-Some-pop_from.ensures in
    let w = c.loop-node.invariant in
    let all : c.loop-node.node ≡ c.args.state.frame.nodes = omega arith in
    let closed = closed_all _ _ _ _ _ _ _ (rw all at w.0) ar.entries in (
      departed_served _ ar _ c.in-Some.ensures _ c.bytes.ensures _ way _ w.1 w.2 refl closed,
      departed_way _ ar _ c.in-Some.ensures _ c.bytes.ensures _ way,
    )

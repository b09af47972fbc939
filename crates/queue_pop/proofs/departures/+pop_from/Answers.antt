-- `pop_from` meets its contract, by recursion on the number of nodes left: the cases of the queue's head, as in proofs/PopFrom.antt.
use Rattle.std.proofs.Common.{arith, rules, sym, ◌∙◌}
use Rattle.topology.proofs.Lookup.{valid_length}
use Rattle.queue_pop.proofs.PopFrom.{a_packet, no_child, next_lt, none_below, found_below}
use Rattle.queue_pop.proofs.departures.+pop_from.Goals as goal
use Rattle.queue_pop.proofs.departures.+pop_from.Goals.{in-Packet, in-Child+in_ok-child-in-Child+in_ok-pop_from-in-Child}

pub offset_bounds-heads-node : goal.offset_bounds-heads-node
offset_bounds-heads-node t c = omega (arith, valid_length 64 _ c.requires.valid)

pub bounds-heads-node : goal.bounds-heads-node
bounds-heads-node t c = omega (arith, valid_length 64 _ c.requires.valid)

pub returns-in_err-child-in-Child : goal.returns-in_err-child-in-Child
returns-in_err-child-in-Child t c q g =
    rw c.from_residual-in_err-child-in-Child.ensures
    (no_child _ c.requires.valid _ (search rules) _ _ c.requires.there _ c.if-left-eq0.false c.requires.short _ c.in_ok-head.was q g _ c.in-Child.is
    (sym (rw c.from.ensures at c.child.ensures) ∙ c.in_err-child-in-Child.was))

pub pop_from-requires : goal.pop_from-requires
pop_from-requires t c =
    let next = next_lt _ c.requires.valid _ _ _ (sym (rw c.from.ensures at c.child.ensures) ∙ c.in_ok-child-in-Child.was) in
    (omega arith, (c.requires.valid, (next, (omega (arith, c.requires.short), c.requires.filled))))

pub returns-in_err-pop_from-in-Child : goal.returns-in_err-pop_from-in-Child
returns-in_err-pop_from-in-Child t c q g =
    rw c.from_residual-in_err-pop_from-in-Child.ensures
    (none_below _ c.requires.valid _ (search rules) _ _ c.requires.there _ c.if-left-eq0.false c.requires.short _ c.in_ok-head.was q g _ c.in-Child.is
    _ (sym (rw c.from.ensures at c.child.ensures) ∙ c.in_ok-child-in-Child.was) (rw c.in_err-pop_from-in-Child.was at (c.pop_from.ensures q g)))

pub returns : goal.returns
returns t c q g =
    elim c.match-head.branch [
      | in-Packet w ↦
          rw (w.child-is, w.no_way.ensures)
          (a_packet _ c.requires.valid _ (search rules) _ _ c.requires.there _ c.if-left-eq0.false c.requires.short _
          c.in_ok-head.was q g _ w.in-Packet.is)
      | in-Child+in_ok-child-in-Child+in_ok-pop_from-in-Child w ↦
          rw w.child-is
          (found_below _ c.requires.valid _ (search rules) _ _ c.requires.there _ c.if-left-eq0.false c.requires.short _
          c.in_ok-head.was q g _ w.in-Child.is
          _ (sym (rw w.from.ensures at w.child.ensures) ∙ w.in_ok-child-in-Child.was)
          _ (rw w.in_ok-pop_from-in-Child.was at (w.pop_from.ensures q g)))
    ]

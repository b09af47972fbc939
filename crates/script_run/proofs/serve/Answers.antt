use Rattle.std.proofs.Common.{◌≡◌, get_or, refl, sym, ◌∙◌, arith, rules}
use Rattle.script_commands.specs.declared.Call.{Call as TheCall}
use Rattle.script_commands.specs.declared.Call.TheVariants.{Step, Push, Pop}
use Rattle.script_commands.specs.declared.Command.TheVariants.{Call}
use Rattle.script_commands.specs.declared.Read.TheVariants.{End, Next}
use Rattle.queue_state.specs.Calls.{answer_of}
use Rattle.translator.proofs.PushesLand.{carried_serves, refused_serves}
use Rattle.script_run.proofs.ServeCases.{push_turned, pop_turned}
use Rattle.script_run.proofs.BatchLoop.{begins, at-end, at_fault, no_call, ninth, replied_last, replied_on, stepped, comes}
use Rattle.script_run.proofs.serve.Goals as goal
use Rattle.script_run.proofs.serve.Goals.{in-Step+else-path-ge-MOST_STEPS, in-Push+else-stops, in-Err, in-Ok, in-Pop+else-stops-2}

pub loop-read-init : goal.loop-read-init
loop-read-init c = begins _ _ (rw (c.as_slice-source_tree.ensures.items, c.as_slice-chip_tree.ensures.items) c.requires.served)

pub returns-then-path-ge-MOST_STEPS-clause-comes : goal.returns-then-path-ge-MOST_STEPS-clause-comes
returns-then-path-ge-MOST_STEPS-clause-comes c =
    let arm = c.in-Next-Call-default in
    let read : get_or c.args.batch c.loop-read.read-index End ≡ Next (Call (Step c.in-Step.child c.in-Step.rank)) arm.at = search rules in
    rw c.refuse.ensures.stops (ninth c.loop-read.invariant (omega arith) _ refl _ _ _ read c.if-path-ge-MOST_STEPS.true c.refuse.ensures.line)

pub returns-in-Next : goal.returns-in-Next
returns-in-Next c =
    let other : (call : TheCall) → c.in-Next.field-0 ≡ Call call → ⊥ = search rules in
    let refuse = c.refuse-in-Next.ensures in
    rw refuse.stops record { comes = no_call c.loop-read.invariant (omega arith) _ refl _ _ c.in-Next.is other refuse.line; commands = tt }

pub returns-in-Refused-clause-comes : goal.returns-in-Refused-clause-comes
returns-in-Refused-clause-comes c =
    let refuse = c.refuse-in-Refused.ensures in
    rw refuse.stops (at_fault c.loop-read.invariant (omega arith) _ refl _ _ c.in-Refused.is refuse.line)

pub returns-in-End-clause-comes : goal.returns-in-End-clause-comes
returns-in-End-clause-comes c = at-end c.loop-read.invariant (omega arith) _ refl c.in-End.is

pub returns-then-stops-clause-comes : goal.returns-then-stops-clause-comes
returns-then-stops-clause-comes c =
    let g = c.loop-read.invariant in
    let arm = c.in-Next-Call-default in
    let read : get_or c.args.batch c.loop-read.read-index End ≡ Next (Call (Push c.in-Push.packet c.in-Push.leaf_rank)) arm.at = search rules in
    let turned =
    push_turned _ _ _ _ _ _ g.served _ _ _ (answer_of c.match-carry.answer) _ c.match-carry.chip c.push.ensures
    (elim c.match-carry.branch [
      | in-Err w ↦ rw (w.chip-is, w.answer-is) (refused_serves _ _ _ _ _ (rw w.in-Err.is at c.carry.ensures) g.served.in_step.mapped _ _)
      | in-Ok w ↦ rw (w.chip-is, w.answer-is) (carried_serves _ _ _ _ _ (rw w.in-Ok.is at c.carry.ensures) _ _ _ _ w.push-sent.ensures)
    ]) in
    replied_last g (omega arith) _ refl read turned (sym c.stops.ensures ∙ c.if-stops.true) c.put_reply.ensures

pub loop-read-preserved : goal.loop-read-preserved
loop-read-preserved c =
    let g = c.loop-read.invariant in
    let arm = c.in-Next-Call-default in
    elim c.match-call.branch [
      | in-Step+else-path-ge-MOST_STEPS w ↦
          let read : get_or c.args.batch c.loop-read.read-index End ≡ Next (Call (Step w.in-Step.child w.in-Step.rank)) arm.at = search rules in
          let next = stepped g (omega arith) _ refl _ _ _ read w.if-path-ge-MOST_STEPS.false in
          rw (w.text-is, w.path-is, w.source-is, w.chip-is, w.extended-path.ensures) next
      | in-Push+else-stops w ↦
          let read : get_or c.args.batch c.loop-read.read-index End ≡ Next (Call (Push w.in-Push.packet w.in-Push.leaf_rank)) arm.at = search rules in
          let turned =
          push_turned _ _ _ _ _ _ g.served _ _ _ (answer_of w.match-carry.answer) _ w.match-carry.chip w.push.ensures
          (elim w.match-carry.branch [
            | in-Err v ↦ rw (v.chip-is, v.answer-is) (refused_serves _ _ _ _ _ (rw v.in-Err.is at w.carry.ensures) g.served.in_step.mapped _ _)
            | in-Ok v ↦ rw (v.chip-is, v.answer-is) (carried_serves _ _ _ _ _ (rw v.in-Ok.is at w.carry.ensures) _ _ _ _ v.push-sent.ensures)
          ]) in
          rw (w.text-is, w.path-is, w.new-path.ensures, w.source-is, w.chip-is)
          (replied_on g (omega arith) _ refl read turned (sym w.stops.ensures ∙ w.if-stops.false) w.put_reply.ensures)
      | in-Pop+else-stops-2 w ↦
          let read : get_or c.args.batch c.loop-read.read-index End ≡ Next (Call Pop) arm.at = search rules in
          let turned = pop_turned _ _ _ _ _ _ g.served _ _ _ _ w.pop-drawn.ensures.0 w.pop-taken.ensures.0 in
          rw (w.text-is, w.path-is, w.source-is, w.chip-is)
          (replied_on g (omega arith) _ refl read turned (sym w.stops-in-Pop.ensures ∙ w.if-stops-2.false) w.put_reply-in-Pop.ensures)
    ]

pub returns : goal.returns
returns c =
    let g = rw (c.as_slice-source_tree.ensures.items, c.as_slice-chip_tree.ensures.items) at c.loop-read.invariant in
    let all = comes c.args.session c.requires (omega arith) g in
    record { comes = all.0; commands = all.1 }

use Rattle.std.proofs.Common.{◌≡◌, length, refl, arith, rules}
use Rattle.queue_state.specs.Entries.{no_entry}
use Rattle.exports_plain_state.specs.Plain.{entry_of, plain_entry, state_of}
use Rattle.exports_plain_state.proofs.Entries.{fill_more, fill_all}
use Rattle.exports_plain_state.proofs.StateFromPlainState.from.Goals as goal

pub loop-i-init : goal.loop-i-init
loop-i-init c = record { long = search rules; front = λ j h. absurd (omega arith) }

pub loop-i-preserved : goal.loop-i-preserved
loop-i-preserved c =
    let long : length c.args.plain.entries ≡ 2304 = search rules in
    fill_more entry_of (plain_entry no_entry) no_entry _ _ _ _ c.loop-i.invariant (omega (arith, long, c.loop-i-test.true)) c.into.ensures

pub returns : goal.returns
unfolding state_of
returns c =
    let long : length c.args.plain.entries ≡ 2304 = search rules in
    rw (fill_all entry_of (plain_entry no_entry) no_entry _ _ _ c.loop-i.invariant (omega (arith, long, c.loop-i-test.false))) refl

use Rattle.std.proofs.Common.{refl}
use Rattle.queue_counts.proofs.StateFirst.{state_first}
use Rattle.chip_calls.proofs.refuse.Goals as goal

pub returns : goal.returns
returns c = rw (c.unwrap_or.ensures, c.err.ensures.value, state_first _ _ c.args.refusal c.check_state.ensures) refl

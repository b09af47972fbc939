-- `empty` meets its contract: the bytes are copied over zeros.
use Rattle.std.proofs.Common.{refl}
use Rattle.std.proofs.lemmas.List.{drop-replicate}
use Rattle.queue_state.specs.Opening.{opened_state}
use Rattle.queue_state.proofs.empty.Goals as goal

pub returns : goal.returns
unfolding opened_state
returns c = rw (c.copy_from_slice.ensures.after, drop-replicate) refl

-- What a call on a chip's tree as plain numbers promises.
use Rattle.std.specs.Prelude.{ℕ, List}
use Rattle.queue_state.specs.State.{Packet}
use Rattle.discipline_model.specs.Scheduler.{Request}
use Rattle.chip_state.specs.Calls.{chip_refusal, serve_mapped}
use Rattle.exports_plain_tree.specs.Answers.{SchedulesPlain}
use Rattle.exports_plain_tree.specs.declared.PlainTree.{PlainTree}
use Rattle.exports_plain_tree.specs.declared.PlainTreeAnswer.{PlainTreeAnswer}

abbrev pub ChipServesPlain : List ℕ → List ℕ → PlainTree → Request Packet → PlainTreeAnswer → Type 0
ChipServesPlain source m = SchedulesPlain (chip_refusal source m) (serve_mapped source m)

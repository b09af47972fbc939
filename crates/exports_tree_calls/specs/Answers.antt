-- What a call on a tree by itself, as plain numbers, promises.
use Rattle.queue_state.specs.State.{Packet}
use Rattle.discipline_model.specs.Scheduler.{Request, serve_own}
use Rattle.tree_state.specs.Calls.{own_refusal}
use Rattle.exports_plain_tree.specs.Answers.{SchedulesPlain}
use Rattle.exports_plain_tree.specs.declared.PlainTree.{PlainTree}
use Rattle.exports_plain_tree.specs.declared.PlainTreeAnswer.{PlainTreeAnswer}

abbrev pub OwnServesPlain : PlainTree → Request Packet → PlainTreeAnswer → Type 0
OwnServesPlain = SchedulesPlain own_refusal serve_own

-- The answers of a tree with disciplines as plain numbers, and what a call on a tree as plain numbers promises.
use Rattle.std.specs.Prelude.{◌≡◌, ℕ, Result}
use Rattle.base.specs.Refusals.{unless_refused}
use Rattle.refusal.specs.Numbers.{as_plain}
use Rattle.refusal.specs.declared.Refusal.{Refusal}
use Rattle.pifo_model.specs.Machine.{Answer, refused, number_of}
use Rattle.queue_state.specs.State.{Packet}
use Rattle.queue_state.specs.Calls.{answer_of}
use Rattle.discipline_model.specs.Scheduler.{Scheduler, Request}
use Rattle.tree_state.specs.Calls.{scheduler_of, Schedules}
use Rattle.tree_state.specs.Opening.{no_tree}
use Rattle.tree_state.specs.declared.Tree.{Tree}
use Rattle.tree_state.specs.declared.TreeServed.{TreeServed}
use Rattle.exports_plain_state.specs.Plain.{Written}
use Rattle.exports_plain_answers.specs.Answers.{value_of}
use Rattle.exports_plain_tree.specs.Trees.{tree_from, plain_tree}
use Rattle.exports_plain_tree.specs.declared.PlainTree.{PlainTree}
use Rattle.exports_plain_tree.specs.declared.PlainTreeOpened.{PlainTreeOpened}
use Rattle.exports_plain_tree.specs.declared.PlainTreeAnswer.{PlainTreeAnswer}

-- an opening's answer in C, from a number and a tree
abbrev pub opened_with : ℕ → Tree → PlainTreeOpened
opened_with n t = record { tree = plain_tree t; refusal = n }

-- The answer of the code to an opening, and to a call, as plain numbers.
abbrev pub plain_opening : Result Tree Refusal → PlainTreeOpened
plain_opening = as_plain opened_with no_tree

abbrev pub plain_served : TreeServed → PlainTreeAnswer
plain_served s =
    let a = answer_of s.answer in
    record { tree = plain_tree s.tree; refusal = number_of a; value = value_of a }

-- the answer to an opening with the fault n or 0: the tree t, or zeros
abbrev pub plain_opened : ℕ → Tree → PlainTreeOpened
plain_opened n t = opened_with n (unless_refused n t no_tree)

-- `refusal_of` is the number by which a tree is refused, and `server` answers a request, as in `Schedules`.
module _ (refusal_of : Tree → ℕ) (server : Scheduler Packet → Request Packet → Answer Packet × Scheduler Packet) where
  -- what a tree answers to a request
  unfoldable pub answered : Tree → Request Packet → Answer Packet
  answered t request = unless_refused (refusal_of t) (server (scheduler_of t) request).0 (refused (refusal_of t))

  -- A call on a tree as plain numbers: the answer, and the tree after it as `plain_tree` writes it.
  pub record SchedulesPlain (t : PlainTree) (request : Request Packet) (r : PlainTreeAnswer) : Type 0 where
    pub refusal : r.refusal ≡ number_of (answered (tree_from t) request)
    pub value : r.value ≡ value_of (answered (tree_from t) request)
    pub schedules : Schedules refusal_of server (tree_from t) request (answered (tree_from t) request) (tree_from r.tree)
    pub written : Written r.tree.state

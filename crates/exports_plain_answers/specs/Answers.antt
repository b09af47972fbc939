-- Answers as plain numbers: the value of a call's answer, and the answer to a question for a count.
use Rattle.std.specs.Prelude.{ℕ, Result}
use Rattle.base.specs.Refusals.{unless_refused}
use Rattle.refusal.specs.Numbers.{as_plain}
use Rattle.refusal.specs.declared.Refusal.{Refusal}
use Rattle.pifo_model.specs.Machine.{Answer, accepted, departed, refused, full}
use Rattle.queue_state.specs.State.{Packet}
use Rattle.exports_plain_answers.specs.declared.PlainAmount.{PlainAmount}
use Rattle.exports_plain_answers.specs.declared.PlainReply.{PlainReply}
use Rattle.exports_plain_answers.specs.declared.PlainReply.TheVariants.{Accepted, Departed, Refused, Full}

-- an answer as the machine gives it, from one in plain numbers
abbrev pub reply_of : PlainReply → Answer Packet
reply_of (Accepted h) = accepted h
reply_of (Departed p) = departed p
reply_of (Refused n) = refused n
reply_of (Full n c) = full n c

-- the packets then held, the packet that departs, or the new count of refusals, else 0
abbrev pub value_of : Answer Packet → ℕ
value_of (accepted h) = h
value_of (departed p) = p
value_of (refused n) = 0
value_of (full n c) = c

-- an answer in C to a question for a count, from a number and a count
abbrev pub amount_with : ℕ → ℕ → PlainAmount
amount_with n v = record { refusal = n; value = v }

-- the answer of the code to such a question
abbrev pub plain_amount : Result ℕ Refusal → PlainAmount
plain_amount = as_plain amount_with 0

-- the answer to such a question with the fault n or 0: the count v, or 0
abbrev pub plain_counted : ℕ → ℕ → PlainAmount
plain_counted n v = amount_with n (unless_refused n v 0)

-- The answer to an opening, as plain numbers, and the number of the layout that all plain structs have.
use Rattle.std.specs.Prelude.{ℕ, Result}
use Rattle.base.specs.Refusals.{unless_refused}
use Rattle.refusal.specs.Numbers.{as_plain}
use Rattle.refusal.specs.declared.Refusal.{Refusal}
use Rattle.queue_state.specs.Opening.{no_tree}
use Rattle.queue_state.specs.declared.State.{State}
use Rattle.exports_plain_state.specs.Plain.{plain_of}
use Rattle.exports_queue_state.specs.declared.PlainOpened.{PlainOpened}

-- an opening's answer in C, from a number and a state
abbrev pub opened_with : ℕ → State → PlainOpened
opened_with n s = record { state = plain_of s; refusal = n }

-- the answer of the code to an opening
abbrev pub plain_opening : Result State Refusal → PlainOpened
plain_opening = as_plain opened_with no_tree

-- the answer to an opening with the fault n or 0: the state s, or zeros
abbrev pub plain_opened : ℕ → State → PlainOpened
plain_opened n s = opened_with n (unless_refused n s no_tree)

-- 1 was the layout with ranks of 32 bits, before request 2.5.
abbrev pub layout : ℕ
layout = 2

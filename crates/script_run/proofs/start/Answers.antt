-- `start` meets its contract: the cases of how the setup ends.
use Rattle.std.proofs.Common.{[], refl}
use Rattle.text.proofs.Appending.{appends_none}
use Rattle.script_run.proofs.Opening.{stopped}
use Rattle.script_run.proofs.start.Goals as goal

pub returns-in-End : goal.returns-in-End
returns-in-End c = stopped [] (appends_none _) (λ rest. rw c.in-End.is refl)

pub returns-in-Refused : goal.returns-in-Refused
returns-in-Refused c = rw c.refuse.ensures.stops (stopped _ c.refuse.ensures.line (λ rest. rw c.in-Refused.is refl))

pub returns-in-Compile : goal.returns-in-Compile
returns-in-Compile c = rw c.in-Compile.is c.compile.ensures

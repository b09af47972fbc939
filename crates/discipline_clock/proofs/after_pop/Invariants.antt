-- `after_pop` meets its contract. The virtual times of the nodes before n are updated.
use Rattle.std.proofs.Common.{◌≡◌, take}
use Rattle.discipline_clock.specs.Clock.{clocked}
use Rattle.discipline_clock.proofs.after_pop.Given as goal

abbrev pub invariant-loop-n : goal.invariant-loop-n
invariant-loop-n l = l.disciplines ≡ clocked l.initial.disciplines (take l.n l.bytes) l.way l.images

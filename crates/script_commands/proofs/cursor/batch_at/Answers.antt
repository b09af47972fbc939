use Rattle.std.proofs.Common.{◌≡◌, suc, ◌+◌, ◌-◌, length-set, append_assoc, refl, arith}
use Rattle.std.proofs.lemmas.List.{take_more_set}
use Rattle.script_commands.proofs.cursor.batch_at.Goals as goal

pub loop-read-preserved : goal.loop-read-preserved
loop-read-preserved c =
    let l = c.loop-read in
    let read = c.read_at.ensures in
    let left : 256 - l.read-index ≡ suc (256 - (l.read-index + 1)) = omega arith in
    let reads = rw left at l.invariant.1 in
    let after = rw left at l.invariant.2 in
    let more = take_more_set l.read-items l.read-index c.read_at.result.0 (omega arith) in
    (rw (length-set, l.invariant.0) refl, rw (more, append_assoc, read.read, read.next) reads, rw read.next after)

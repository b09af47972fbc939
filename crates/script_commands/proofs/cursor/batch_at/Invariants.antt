-- `batch_at` meets its contract. The places before the index have the first reads, and the others are still to be read.
use Rattle.std.proofs.Common.{◌≡◌, ◌-◌, ◌++◌, length, take}
use Rattle.script_commands.specs.Batches.{first_reads, after}
use Rattle.script_commands.proofs.cursor.batch_at.Given as goal

abbrev pub invariant-loop-read : goal.invariant-loop-read
invariant-loop-read l =
    (length l.read-items ≡ 256)
    × (first_reads 256 l.script l.at ≡ take l.read-index l.read-items ++ first_reads (256 - l.read-index) l.script l.next)
    × (after 256 l.script l.at ≡ after (256 - l.read-index) l.script l.next)

-- How far the first n reads bring the reader.
use Rattle.std.proofs.Common.{◌≡◌, ℕ, zero, suc, ◌≤◌, ◌<◌, List, [], ◌∷◌, length, refl, arith}
use Rattle.script_commands.specs.declared.Read.{Read}
use Rattle.script_commands.specs.declared.Read.TheVariants.{End, Next, Refused}
use Rattle.script_commands.specs.Reading.{read_at, next_at}
use Rattle.script_commands.specs.Batches.{first_reads, after}
use Rattle.script_commands.proofs.ReadAt.{further}
use Rattle.script_commands.specs.InnerBatches.{AllCommands}

module _ (script : List ℕ) where
  -- n + 1 reads that are all commands bring the offset nearer to the script's end
  pub commands_further : (n at : ℕ) → AllCommands (first_reads (suc n) script at)
      → (at < after (suc n) script at) × (after (suc n) script at ≤ length script)
  commands_further zero at = by_read (read_at script at) refl
    where
      by_read : (r : Read) → read_at script at ≡ r → AllCommands (r ∷ []) → (at < next_at script at) × (next_at script at ≤ length script)
      by_read End e h = absurd h
      by_read (Refused m offset) e h = absurd h
      by_read (Next c offset) e h = further script at c offset e
  commands_further (suc n) at = by_read (read_at script at) refl (commands_further n (next_at script at))
    where
      by_read : (r : Read) → read_at script at ≡ r
          → (AllCommands (first_reads (suc n) script (next_at script at))
          → (next_at script at < after (suc n) script (next_at script at)) × (after (suc n) script (next_at script at) ≤ length script))
          → AllCommands (r ∷ first_reads (suc n) script (next_at script at))
          → (at < after (suc n) script (next_at script at)) × (after (suc n) script (next_at script at) ≤ length script)
      by_read End e more h = absurd h
      by_read (Refused m offset) e more h = absurd h
      by_read (Next c offset) e more h = let g = more h in (omega (arith, g.0, further script at c offset e), g.1)

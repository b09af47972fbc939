-- One turn of the loop of `gather`: what is read at the reader's offset, and the reads that follow it, complete the setup so far.
use Rattle.std.proofs.Common.{◌≡◌, ℕ, ◌-◌, ◌<◌, List, None, Some, length, refl, sym, ap, ◌∙◌, arith}
use Rattle.script_commands.specs.declared.Read.{Read}
use Rattle.script_commands.specs.declared.Read.TheVariants.{End, Next, Refused}
use Rattle.script_commands.specs.Reading.{read_at, next_at, reads_by, reads}
use Rattle.script_commands.proofs.ReadAt.{further, next-is}
use Rattle.script_commands.proofs.ReadsFrom.{reads_by_lem}
use Rattle.script_setup.specs.declared.Ending.{Ending}
use Rattle.script_setup.specs.declared.Drawing.{Drawing}
use Rattle.script_setup.specs.Gathering.{Given, gather_reads, Gathers}
use Rattle.script_setup.specs.InnerTurns.{GoesOn, left_by, Takes}

module _ (script : List ℕ) (at : ℕ) where
  left_there : reads script (next_at script at) ≡ left_by (read_at script at) (reads script (next_at script at))
  left_there = by_read (read_at script at) refl
    where
      by_read : (r : Read) → read_at script at ≡ r → reads script (next_at script at) ≡ left_by r (reads script (next_at script at))
      by_read End e = ap (reads script) (sym (next-is script at End e)) ∙ reads_by_lem script at ∙ rw e refl
      by_read (Refused r o) e = ap (reads script) (sym (next-is script at (Refused r o) e)) ∙ reads_by_lem script at ∙ rw e refl
      by_read (Next c o) e = refl

  module _ (total : Given) (d d' : Drawing) (g : GoesOn d (reads script at) total) where
    pub ended_there : (e : Ending) → Takes d (read_at script at) d' (Some e)
        → Gathers total (record { drawing = d'; ending = e }) × (reads script (next_at script at) ≡ total.left)
    ended_there e takes =
        let w = takes g.source g.target g.limit (reads script (next_at script at)) g.draws in
        let all : gather_reads (reads_by (read_at script at) (reads script (next_at script at))) g.source g.target g.limit ≡ total =
        ap (λ (l : List Read). gather_reads l g.source g.target g.limit) (sym (reads_by_lem script at)) ∙ g.rest in
        rw (sym all ∙ w.1) (record { draws = w.0; ending = refl }, left_there)

    pub goes_on : Takes d (read_at script at) d' None
        → GoesOn d' (reads script (next_at script at)) total × (length script - next_at script at < length script - at)
    goes_on takes = by_read (read_at script at) refl takes (rw (reads_by_lem script at) at g)
      where
        by_read : (r : Read) → read_at script at ≡ r → Takes d r d' None → GoesOn d (reads_by r (reads script (next_at script at))) total
            → GoesOn d' (reads script (next_at script at)) total × (length script - next_at script at < length script - at)
        by_read End e takes g = absurd takes
        by_read (Refused r o) e takes g = absurd takes
        by_read (Next c o) e takes g =
            (takes (reads script (next_at script at)) total g, omega (arith, further script at c o e))

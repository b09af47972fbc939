-- The promise of the private function that takes one read of the setup.
use Rattle.std.specs.Prelude.{◌≡◌, ℕ, List, [], ◌∷◌, Option, None, Some}
use Rattle.script_commands.specs.declared.Read.{Read}
use Rattle.script_commands.specs.declared.Read.TheVariants.{End, Next, Refused}
use Rattle.script_commands.specs.Reading.{reads_by}
use Rattle.script_setup.specs.declared.Ending.{Ending}
use Rattle.script_setup.specs.declared.Drawing.{Drawing}
use Rattle.script_setup.specs.Gathering.{Given, ended, gather_reads, Draws}

-- a setup that the code's struct has so far, and that is completed by the reads that follow
pub record GoesOn (d : Drawing) (more : List Read) (total : Given) : Type 0 where
  pub source : List ℕ
  pub target : List ℕ
  pub limit : Option ℕ
  pub draws : Draws d source target limit
  pub rest : gather_reads more source target limit ≡ total

-- what the reader reads after an end of the setup: only a command is passed
abbrev pub left_by : Read → List Read → List Read
left_by End more = End ∷ []
left_by (Next c at) more = more
left_by (Refused r at) more = Refused r at ∷ []

-- The setup d goes on as d' after a command, or ends as d'; `more` is what is read after the command.
abbrev pub Takes : Drawing → Read → Drawing → Option Ending → Type 0
Takes d r d' (Some e) =
    (s t : List ℕ) (l : Option ℕ) (more : List Read) → Draws d s t l
    → Draws d' s t l × (gather_reads (reads_by r more) s t l ≡ ended s t l e (left_by r more))
Takes d End d' None = ⊥
Takes d (Next c at) d' None = (more : List Read) (total : Given) → GoesOn d (Next c at ∷ more) total → GoesOn d' more total
Takes d (Refused r at) d' None = ⊥

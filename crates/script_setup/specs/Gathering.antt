-- The setup of a script, its commands before 04 (paper 01, "Scripts for gatewalk"): the bytes of the source and of the target, the limit, and how the
-- setup ends: with the script; with a refusal and its command's offset (20 or 21 of the reader, or 22 for a command out of turn); or with an 04 in
-- turn.
use Rattle.std.specs.Prelude.{◌≡◌, ℕ, List, [], ◌∷◌, ◌++◌, Option, None, Some, take}
use Rattle.refusal.specs.declared.Refusal.TheVariants.{OutOfTurn}
use Rattle.script_commands.specs.declared.Setup.TheVariants.{Source, Target, Limit}
use Rattle.script_commands.specs.declared.Command.{Command}
use Rattle.script_commands.specs.declared.Command.TheVariants.{Setup, Compile, Call}
use Rattle.script_commands.specs.declared.Read.{Read}
use Rattle.script_commands.specs.declared.Read.TheVariants.{End, Next, Refused}
use Rattle.script_setup.specs.declared.Ending.{Ending}
use Rattle.script_setup.specs.declared.Ending.TheVariants.{End as AtEnd, Refused as AtRefusal, Compile as AtCompile}
use Rattle.script_setup.specs.declared.Drawing.{Drawing}
use Rattle.script_setup.specs.declared.Gathered.{Gathered}
use Rattle.script_commands.specs.Reading.{reads}

-- the setup, how it ends, and what the reader reads from then on
pub record Given : Type 0 where
  pub source : List ℕ
  pub target : List ℕ
  pub limit : Option ℕ
  pub ending : Ending
  pub left : List Read

abbrev pub ended : List ℕ → List ℕ → Option ℕ → Ending → List Read → Given
ended s t l e rest = record { source = s; target = t; limit = l; ending = e; left = rest }

-- The setup from a command at an offset on; `rest` is what the reader reads after the command, and `more` is the setup from there on.
abbrev pub gather_by : Command → ℕ → List Read → List ℕ → List ℕ → Option ℕ → (List ℕ → List ℕ → Option ℕ → Given) → Given
gather_by (Setup (Source b)) at rest s t l more = more (s ++ (b ∷ [])) t l
gather_by (Setup (Target b)) at rest s t l more = more s (t ++ (b ∷ [])) l
gather_by (Setup (Limit n)) at rest s t None more = more s t (Some n)
gather_by (Setup (Limit n)) at rest s t (Some m) more = ended s t (Some m) (AtRefusal OutOfTurn at) rest
gather_by Compile at rest s t None more = ended s t None (AtRefusal OutOfTurn at) rest
gather_by Compile at rest s t (Some n) more = ended s t (Some n) (AtCompile at) rest
gather_by (Call c) at rest s t l more = ended s t l (AtRefusal OutOfTurn at) rest

-- The setup that a list of reads gives, after the bytes s and t and the limit l. The reader stays where it reads no command.
abbrev pub gather_reads : List Read → List ℕ → List ℕ → Option ℕ → Given
gather_reads [] s t l = ended s t l AtEnd []
gather_reads (End ∷ rest) s t l = ended s t l AtEnd (End ∷ rest)
gather_reads (Next c at ∷ rest) s t l = gather_by c at rest s t l (λ s t l. gather_reads rest s t l)
gather_reads (Refused r at ∷ rest) s t l = ended s t l (AtRefusal r at) (Refused r at ∷ rest)

unfoldable pub gathered : List ℕ → Given
gathered script = gather_reads (reads script 0) [] [] None

-- The code's struct for the bytes s and t and the limit l. A drawing keeps as many of its bytes as it has room for.
pub record Draws (d : Drawing) (s t : List ℕ) (l : Option ℕ) : Type 0 where
  pub source : d.source.items ≡ take 33 s
  pub target : d.target.items ≡ take 65 t
  pub limit : d.limit ≡ l

-- the code's struct for a whole setup
pub record Gathers (g : Given) (r : Gathered) : Type 0 where
  pub draws : Draws r.drawing g.source g.target g.limit
  pub ending : r.ending ≡ g.ending

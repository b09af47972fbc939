-- If the setup ends with an 04 in turn, the limit is given.
use Rattle.std.proofs.Common.{◌≡◌, ℕ, List, [], ◌∷◌, ◌++◌, Option, None, Some, refl}
use Rattle.script_commands.specs.declared.Setup.TheVariants.{Source, Target, Limit}
use Rattle.script_commands.specs.declared.Command.{Command}
use Rattle.script_commands.specs.declared.Command.TheVariants.{Setup, Compile, Call}
use Rattle.script_commands.specs.declared.Read.{Read}
use Rattle.script_commands.specs.declared.Read.TheVariants.{End, Next, Refused}
use Rattle.script_commands.specs.Reading.{reads}
use Rattle.script_setup.specs.declared.Ending.TheVariants.{Compile as AtCompile}
use Rattle.script_setup.specs.Gathering.{Given, gather_by, gather_reads, gathered}

abbrev Limited : Given → Type 0
Limited g = (at : ℕ) → g.ending ≡ AtCompile at → (n : ℕ) × (g.limit ≡ Some n)

by_command : (c : Command) (at : ℕ) (rest : List Read) (s t : List ℕ) (l : Option ℕ) (more : List ℕ → List ℕ → Option ℕ → Given)
    → ((s t : List ℕ) (l : Option ℕ) → Limited (more s t l)) → Limited (gather_by c at rest s t l more)
by_command (Setup (Source b)) at rest s t l more h a e = h (s ++ (b ∷ [])) t l a e
by_command (Setup (Target b)) at rest s t l more h a e = h s (t ++ (b ∷ [])) l a e
by_command (Setup (Limit n)) at rest s t None more h a e = h s t (Some n) a e
by_command (Setup (Limit n)) at rest s t (Some m) more h a e = absurd (cc)
by_command Compile at rest s t None more h a e = absurd (cc)
by_command Compile at rest s t (Some n) more h a e = (n, refl)
by_command (Call c) at rest s t l more h a e = absurd (cc)

limited_by : (rs : List Read) (s t : List ℕ) (l : Option ℕ) → Limited (gather_reads rs s t l)
limited_by [] s t l a e = absurd (cc)
limited_by (End ∷ rest) s t l a e = absurd (cc)
limited_by (Next c at ∷ rest) s t l a e =
    by_command c at rest s t l (λ s t l. gather_reads rest s t l) (λ s t l. limited_by rest s t l) a e
limited_by (Refused r at ∷ rest) s t l a e = absurd (cc)

pub limited : (script : List ℕ) → Limited (gathered script)
unfolding gathered
limited script = limited_by (reads script 0) [] [] None

-- The text of a script by how its setup ends: no text if it ends with the script; the line of the refusal with which it ends; or the text of 04 and
-- of what is read after it.
use Rattle.std.proofs.Common.{◌≡◌, ℕ, List, [], ◌∷◌, ◌++◌, Option, None, Some, refl, sym, ◌∙◌}
use Rattle.std.proofs.lemmas.List.{append-nil}
use Rattle.refusal.specs.Numbers.{number}
use Rattle.script_lines.specs.Lines.{no_line}
use Rattle.script_commands.specs.declared.Command.{Command}
use Rattle.script_commands.specs.declared.Command.TheVariants.{Setup, Compile, Call}
use Rattle.script_commands.specs.declared.Setup.TheVariants.{Source, Target, Limit}
use Rattle.script_commands.specs.declared.Read.{Read}
use Rattle.script_commands.specs.declared.Read.TheVariants.{End, Next, Refused}
use Rattle.script_commands.specs.Reading.{reads}
use Rattle.script_setup.specs.declared.Ending.{Ending}
use Rattle.script_setup.specs.declared.Ending.TheVariants.{End as AtEnd, Refused as AtRefusal, Compile as AtCompile}
use Rattle.script_setup.specs.declared.Gathered.{Gathered}
use Rattle.script_setup.specs.Gathering.{Given, gather_by, gather_reads, Gathers}
use Rattle.script_run.specs.Execute.{drawing, execute}
use Rattle.script_run.specs.Output.{text_of, output}
use Rattle.script_run.specs.InnerParts.{opening_text, start_by, start_text}
use Rattle.script_run.proofs.Opening.{kept-text}

-- the text of an 04 in turn, with the limit that was given
pub record Opening (g : Given) (at : ℕ) (text : List ℕ) : Type 0 where
  pub limit : ℕ
  pub given : g.limit ≡ Some limit
  pub is : text ≡ opening_text g.source g.target limit at g.left

abbrev SaidBy : Ending → Given → List ℕ → Type 0
SaidBy AtEnd g text = text ≡ []
SaidBy (AtRefusal r at) g text = text ≡ no_line (number r) at
SaidBy (AtCompile at) g text = Opening g at text

abbrev Said : Given → List ℕ → Type 0
Said g text = SaidBy g.ending g text

by_command : (c : Command) (at : ℕ) (rest : List Read) (s t : List ℕ) (l : Option ℕ)
    → ((s t : List ℕ) (l : Option ℕ) → Said (gather_reads rest s t l) (text_of rest (drawing s t l)))
    → Said (gather_by c at rest s t l (λ s t l. gather_reads rest s t l)) (text_of (Next c at ∷ rest) (drawing s t l))
unfolding execute opening_text
by_command (Setup (Source b)) at rest s t l h = h (s ++ (b ∷ [])) t l
by_command (Setup (Target b)) at rest s t l h = h s (t ++ (b ∷ [])) l
by_command (Setup (Limit n)) at rest s t None h = h s t (Some n)
by_command (Setup (Limit n)) at rest s t (Some m) h = append-nil (no_line 22 at)
by_command Compile at rest s t None h = append-nil (no_line 22 at)
by_command Compile at rest s t (Some n) h = record { limit = n; given = refl; is = refl }
by_command (Call c) at rest s t l h = append-nil (no_line 22 at)

said : (rs : List Read) (s t : List ℕ) (l : Option ℕ) → Said (gather_reads rs s t l) (text_of rs (drawing s t l))
said [] s t l = refl
said (End ∷ rest) s t l = refl
said (Refused r at ∷ rest) s t l = refl
said (Next c at ∷ rest) s t l = by_command c at rest s t l (λ s t l. said rest s t l)

-- what is gathered as the code has it
module _ (g : Given) (r : Gathered) (w : Gathers g r) where
  by_ending : (e : Ending) (text : List ℕ) → SaidBy e g text → text ≡ start_by e r.drawing g.left
  by_ending AtEnd text h = h
  by_ending (AtRefusal q at) text h = h
  by_ending (AtCompile at) text h =
      h.is ∙ sym (rw (w.draws.source, w.draws.target, w.draws.limit, h.given) (kept-text g.left g.source g.target h.limit at))

  starts : (text : List ℕ) → Said g text → text ≡ start_text r g.left
  starts text h = rw w.ending (by_ending g.ending text h)

pub output_starts : (script : List ℕ) (r : Gathered) → Gathers (gather_reads (reads script 0) [] [] None) r
    → output script ≡ start_text r (gather_reads (reads script 0) [] [] None).left
unfolding output
output_starts script r w =
    starts (gather_reads (reads script 0) [] [] None) r w (text_of (reads script 0) (drawing [] [] None)) (said (reads script 0) [] [] None)

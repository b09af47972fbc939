-- What request 2.5 promises about scripts.
use Rattle.std.specs.Prelude.{◌≡◌, ◌≢◌, ◌⊎◌, ℕ, ◌+◌, ◌≤◌, ◌<◌, List, [], ◌∷◌, Option, length, get_or}
use Rattle.pifo_model.specs.Machine.{Machine}
use Rattle.queue_state.specs.State.{Packet}
use Rattle.script_lines.specs.Lines.{no_line}
use Rattle.script_commands.specs.Reading.{number, size_by, command_of, reads}
use Rattle.script_commands.specs.Batches.{after}
use Rattle.script_run.specs.Execute.{drawing, serving}
use Rattle.script_run.specs.Output.{text_of, output}
use Rattle.script_widths.specs.Before.{output as output_before}
use Rattle.script_widths.specs.Reached.{reached}

-- ---- a script that reaches neither new command prints what it printed

-- none of the bytes is 09 or 0A
abbrev pub Neither : List ℕ → Type 0
Neither [] = Unit
Neither (code ∷ codes) = (code ≢ 9) × (code ≢ 10) × Neither codes

abbrev pub AsBefore : Type 0
AsBefore = (script : List ℕ) → Neither (reached script) → output script ≡ output_before script

-- ---- with a rank below 2^32 the command 09 is 05, and 0A is 06

abbrev pub StepsAlike : Type 0
StepsAlike =
    (child a b c d e f g h : ℕ) (rest : List ℕ) (at : ℕ) → number 0 (a ∷ b ∷ c ∷ d ∷ e ∷ f ∷ g ∷ h ∷ []) < 4294967296
    → command_of (9 ∷ child ∷ a ∷ b ∷ c ∷ d ∷ e ∷ f ∷ g ∷ h ∷ rest) at ≡ command_of (5 ∷ child ∷ e ∷ f ∷ g ∷ h ∷ rest) at

abbrev pub PushesAlike : Type 0
PushesAlike =
    (p q r s a b c d e f g h : ℕ) (rest : List ℕ) (at : ℕ) → number 0 (a ∷ b ∷ c ∷ d ∷ e ∷ f ∷ g ∷ h ∷ []) < 4294967296
    → command_of (10 ∷ p ∷ q ∷ r ∷ s ∷ a ∷ b ∷ c ∷ d ∷ e ∷ f ∷ g ∷ h ∷ rest) at ≡ command_of (6 ∷ p ∷ q ∷ r ∷ s ∷ e ∷ f ∷ g ∷ h ∷ rest) at

-- ---- both widths are out of turn at the same places

-- a whole command with one of two first bytes is at an offset
pub record WholeAt (script : List ℕ) (at one other : ℕ) : Type 0 where
  pub first : (get_or script at 0 ≡ one) ⊎ (get_or script at 0 ≡ other)
  pub whole : at + size_by (get_or script at 0) ≤ length script

abbrev pub StepAt : List ℕ → ℕ → Type 0
StepAt script at = WholeAt script at 5 9

abbrev pub PushAt : List ℕ → ℕ → Type 0
PushAt script at = WholeAt script at 6 10

-- before 04 each step and each push is 22
abbrev pub BeforeCompile : Type 0
BeforeCompile =
    (script : List ℕ) (at : ℕ) (source target : List ℕ) (limit : Option ℕ) → StepAt script at ⊎ PushAt script at
    → text_of (reads script at) (drawing source target limit) ≡ no_line 22 at

-- 05 and 09 count together: after eight steps of either kind, a ninth of either kind is 22
abbrev pub NinthStep : Type 0
NinthStep =
    (script : List ℕ) (at : ℕ) (m : Machine Packet) → ((i : ℕ) → i ≤ 8 → StepAt script (after i script at))
    → text_of (reads script at) (serving m []) ≡ no_line 22 (after 8 script at)

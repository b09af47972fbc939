-- Promises of the private functions that print a part of a script's text.
use Rattle.std.specs.Prelude.{◌≡◌, ℕ, ◌≤◌, List, [], ◌++◌, Option, None, Some, IfSome, length, take, unwrap_or}
use Rattle.refusal.specs.Numbers.{number}
use Rattle.queue_state.specs.State.{machine}
use Rattle.queue_state.specs.declared.State.{State}
use Rattle.queue_push.specs.Calls.{steps_of, Plain}
use Rattle.queue_push.specs.declared.Path.{Path}
use Rattle.pair_step.specs.InStep.{InStep}
use Rattle.pair_state.specs.Opening.{both_fault}
use Rattle.text.specs.declared.Text.{Text}
use Rattle.text.specs.Appending.{Appends}
use Rattle.script_lines.specs.Lines.{no_line}
use Rattle.script_commands.specs.declared.Read.{Read}
use Rattle.script_setup.specs.declared.Drawing.{Drawing}
use Rattle.script_setup.specs.declared.Ending.{Ending}
use Rattle.script_setup.specs.declared.Ending.TheVariants.{End, Refused, Compile}
use Rattle.script_setup.specs.declared.Gathered.{Gathered}
use Rattle.script_run.specs.declared.Session.{Session}
use Rattle.script_run.specs.Execute.{Stage, serving, compiled}
use Rattle.script_run.specs.Output.{printed, text_of}

-- the text of an 04 in turn at an offset, for these drawings and this limit, and of what is read after it
unfoldable pub opening_text : List ℕ → List ℕ → ℕ → ℕ → List Read → List ℕ
opening_text source target limit at rest =
    let r = compiled (both_fault source target limit) source target limit in
    let more = text_of rest r.1 in
    printed r.0 at more

-- the limit, or 0 if none is given
abbrev pub limit_in : Drawing → ℕ
limit_in d = unwrap_or d.limit 0

-- the text of a setup, by how it ends, and of what is read after it
abbrev pub start_by : Ending → Drawing → List Read → List ℕ
start_by End d rest = []
start_by (Refused r at) d rest = no_line (number r) at
start_by (Compile at) d rest = opening_text d.source.items d.target.items (limit_in d) at rest

abbrev pub start_text : Gathered → List Read → List ℕ
start_text g rest = start_by g.ending g.drawing rest

-- the stage that the code's values stand for
abbrev pub stage_of : State → Path → Stage
stage_of s p = serving (machine s) (steps_of p)

abbrev pub stage_in : Session → Stage
stage_in p = stage_of p.pair.source p.path

-- the text of a batch of reads, and of what is read after it
abbrev pub batch_text : List Read → Session → List Read → List ℕ
batch_text batch p rest = text_of (batch ++ rest) (stage_in p)

-- the text of what is read from a stage on; none if the script has stopped
abbrev pub text_from : Option Session → List Read → List ℕ
text_from None rest = []
text_from (Some p) rest = text_of rest (stage_in p)

-- both trees are in step, for a drawing, a chip and the images of a map, and at most 8 steps are gathered
pub record Served (source target images : List ℕ) (s t : State) (p : Path) : Type 0 where
  pub in_step : InStep source target images s t
  pub few : p.count ≤ 8
  pub plain : Plain p

-- both trees are open and in step
pub record Ready (p : Session) : Type 0 where
  pub images : length p.drawing.source.items ≤ length p.pair.map
  pub served :
      Served p.drawing.source.items p.drawing.target.items (take (length p.drawing.source.items) p.pair.map) p.pair.source p.pair.chip p.path

-- What a part of a script prints, if `whole` is its text with that of what is read after it: its own text is put behind `before`, and `after` is the
-- text then; if the script goes on, the text of what is read after it follows.
pub record Comes (whole : List Read → List ℕ) (before : Text) (r : Option Session) (after : Text) : Type 0 where
  pub text : List ℕ
  pub appends : Appends before text after
  pub ready : IfSome r Ready
  pub follows : (rest : List Read) → whole rest ≡ text ++ text_from r rest

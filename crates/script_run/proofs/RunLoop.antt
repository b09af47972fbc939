-- The invariant of the loop of `run`: the text put so far comes before the text of the remaining reads, and what the code has. `turn` is one batch
-- after which the script goes on; `over` is one that stops it. With the text of the setup and 04 this is the output (`whole`).
use Rattle.std.proofs.Common.{◌≡◌, ℕ, zero, suc, ◌-◌, ◌<◌, List, [], ◌∷◌, ◌++◌, Option, None, Some, length, refl, sym, ap, ◌∙◌, arith, append_assoc}
use Rattle.std.proofs.lemmas.List.{append-nil}
use Rattle.text.specs.declared.Text.{Text}
use Rattle.text.specs.Appending.{Appends}
use Rattle.text.proofs.Appending.{appends_none, appends_as, appends_then}
use Rattle.script_commands.specs.declared.Read.{Read}
use Rattle.script_commands.specs.declared.Read.TheVariants.{End, Next, Refused}
use Rattle.script_commands.specs.Reading.{read_at, next_at, reads_by, reads}
use Rattle.script_commands.specs.Batches.{first_reads, after}
use Rattle.script_commands.specs.InnerBatches.{AllCommands}
use Rattle.script_commands.proofs.ReadsFrom.{reads_by_lem}
use Rattle.script_commands.proofs.Batches.{commands_further}
use Rattle.script_setup.specs.declared.Gathered.{Gathered}
use Rattle.script_setup.specs.Gathering.{gather_reads, Gathers}
use Rattle.script_run.specs.declared.Session.{Session}
use Rattle.script_run.specs.Execute.{Stage, execute}
use Rattle.script_run.specs.Output.{printed, text_of, output}
use Rattle.script_run.specs.InnerParts.{start_text, stage_in, batch_text, text_from, Ready, Comes}
use Rattle.script_run.proofs.BeforeCompile.{output_starts}

module _ (script : List ℕ) where
  -- The text of all reads is that of the next n reads and of the reads after them.
  batch_text_lem : (n at : ℕ) (stage : Stage)
      → text_of (reads script at) stage ≡ text_of (first_reads n script at ++ reads script (after n script at)) stage
  batch_text_lem zero at stage = refl
  batch_text_lem (suc n) at stage =
      ap (λ (l : List Read). text_of l stage) (reads_by_lem script at) ∙ by_read (read_at script at) (λ s. batch_text_lem n (next_at script at) s)
    where
      by_read : (r : Read)
          → ((s : Stage) → text_of (reads script (next_at script at)) s
          ≡ text_of (first_reads n script (next_at script at) ++ reads script (after n script (next_at script at))) s)
          → text_of (reads_by r (reads script (next_at script at))) stage
          ≡ text_of (r ∷ (first_reads n script (next_at script at) ++ reads script (after n script (next_at script at)))) stage
      by_read End more = refl
      by_read (Refused m offset) more = refl
      by_read (Next c offset) more = ap (printed (execute stage c).0 offset) (more (execute stage c).1)

  -- the text from an offset and a stage on
  abbrev text_at : ℕ → Session → List ℕ
  text_at at p = text_of (reads script at) (stage_in p)

  -- the loop's invariant: it began with the text `first`, the reader at `from`, and the stage `begun`
  pub record Inv (first : Text) (from : ℕ) (begun : Session) (at : ℕ) (p : Session) (last : Text) : Type 0 where
    pub text : List ℕ
    pub appends : Appends first text last
    pub ready : Ready p
    pub rest : text_at from begun ≡ text ++ text_at at p

  pub begins : (text : Text) (at : ℕ) (p : Session) → Ready p → Inv text at p at p text
  begins text at p r = record { text = []; appends = appends_none text; ready = r; rest = refl }

  -- one batch, from the contracts of `next_batch` and `serve`
  module _ {first last next : Text} {from at : ℕ} {begun p : Session} (i : Inv first from begun at p last) {batch : List Read}
      (e : batch ≡ first_reads 256 script at) (r : Option Session) (c : Comes (batch_text batch p) last r next) where
    all : text_at from begun ≡ i.text ++ (c.text ++ text_from r (reads script (after 256 script at)))
    all =
        i.rest
        ∙ ap (λ (l : List ℕ). i.text ++ l)
        (batch_text_lem 256 at (stage_in p)
        ∙ ap (λ (l : List Read). text_of (l ++ reads script (after 256 script at)) (stage_in p)) (sym e)
        ∙ c.follows (reads script (after 256 script at)))

    pub turn : (p' : Session) → r ≡ Some p' → AllCommands batch
        → Inv first from begun (after 256 script at) p' next × (length script - after 256 script at < length script - at)
    turn p' f commands = (
      record {
        text = i.text ++ c.text;
        appends = appends_then i.appends c.appends;
        ready = rw f at c.ready;
        rest = rw f at (all ∙ sym (append_assoc i.text c.text (text_from r (reads script (after 256 script at)))));
      },
      omega (arith, commands_further script 255 at (rw (← e) commands)),
    )

    pub over : r ≡ None → Appends first (text_at from begun) next
    over f = appends_as (sym (all ∙ rw f (ap (λ (l : List ℕ). i.text ++ l) (append-nil c.text)))) (appends_then i.appends c.appends)

  -- the whole output: what the setup and 04 put, and what is put after them, with the reader at an offset then
  module _ (g : Gathered) (at : ℕ) (w : Gathers (gather_reads (reads script 0) [] [] None) g)
      (l : reads script at ≡ (gather_reads (reads script 0) [] [] None).left) (r : Option Session) {first text last : Text}
      (c : Comes (start_text g) first r text) where
    pub whole : Appends text (text_from r (reads script at)) last → Appends first (output script) last
    whole p = appends_as (sym (output_starts script g w ∙ ap (start_text g) (sym l) ∙ c.follows (reads script at))) (appends_then c.appends p)

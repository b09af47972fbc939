-- The invariant of the loop over a batch: the text put so far comes before the text of the remaining reads, and what the code has. A call after which
-- the script goes on adds its line; a call that stops it, the end, or a refusal completes the text.
use Rattle.std.proofs.Common.{◌≡◌, ℕ, ◌+◌, ◌≤◌, ◌<◌, List, [], ◌∷◌, ◌++◌, None, Some, true, false, length, take, drop, get_or}
use Rattle.std.proofs.Common.{refl, sym, ap, ◌∙◌, arith, append_assoc}
use Rattle.std.proofs.lemmas.List.{append-nil, drop_more, drop_all}
use borrow.Author.Tests.{le-ltb}
use Rattle.refusal.specs.Numbers.{number}
use Rattle.refusal.specs.declared.Refusal.{Refusal}
use Rattle.queue_push.specs.declared.Path.{Path}
use Rattle.queue_push.specs.Calls.{steps_of, extended_by}
use Rattle.queue_state.specs.declared.State.{State}
use Rattle.text.specs.declared.Text.{Text}
use Rattle.text.specs.Appending.{Appends}
use Rattle.text.proofs.Appending.{appends_none, appends_then}
use Rattle.script_lines.specs.Lines.{no_line}
use Rattle.script_commands.specs.InnerBatches.{AllCommands}
use Rattle.script_commands.specs.declared.Call.{Call as CallCommand}
use Rattle.script_commands.specs.declared.Call.TheVariants.{Step as StepTo}
use Rattle.script_commands.specs.declared.Command.{Command}
use Rattle.script_commands.specs.declared.Command.TheVariants.{Setup, Compile, Call as Calling}
use Rattle.script_commands.specs.declared.Read.{Read}
use Rattle.script_commands.specs.declared.Read.TheVariants.{End, Next, Refused}
use Rattle.script_run.specs.declared.Session.{Session}
use Rattle.script_run.specs.Execute.{Reply, refused_by, stops, execute}
use Rattle.script_run.specs.Output.{line_of, printed, text_of}
use Rattle.script_run.specs.InnerParts.{stage_of, batch_text, Served, Ready, Comes}
use Rattle.script_run.proofs.Opening.{stopped}
use Rattle.script_run.proofs.ServeCases.{Turned, count, step_turned}

-- the loop's invariant
pub record Going (source target images : List ℕ) (reads : List Read) (s₀ : State) (p₀ : Path) (before : Text) (i : ℕ) (s t : State) (p : Path)
    (after : Text) : Type 0 where
  pub text : List ℕ
  pub appends : Appends before text after
  pub served : Served source target images s t p
  pub commands : AllCommands (drop i reads) → AllCommands reads
  pub follows : (rest : List Read) → text_of (reads ++ rest) (stage_of s₀ p₀) ≡ text ++ text_of (drop i reads ++ rest) (stage_of s p)

pub begins : {source target images : List ℕ} (reads : List Read) (before : Text) {s t : State} {p : Path} → Served source target images s t p
    → Going source target images reads s p before 0 s t p before
begins reads before h = record { text = []; appends = appends_none before; served = h; commands = λ c. c; follows = λ rest. refl }

-- One read. `Stops` and `Next'` are what follows if the script stops there, and if it goes on.
module _ {source target images : List ℕ} {reads : List Read} {s₀ : State} {p₀ : Path} {before : Text} {i : ℕ} {s t : State} {p : Path} {after : Text}
    (g : Going source target images reads s₀ p₀ before i s t p after) (h : i < length reads) (r : Read) (e : r ≡ get_or reads i End) where
  abbrev Stops : Text → Type 0
  Stops out = Comes (λ rest. text_of (reads ++ rest) (stage_of s₀ p₀)) before None out

  abbrev GoesOn : State → State → Path → Text → Type 0
  GoesOn s' t' p' out = Going source target images reads s₀ p₀ before (i + 1) s' t' p' out

  left : drop i reads ≡ r ∷ drop (i + 1) reads
  left = rw e (drop_more reads i End h)

  split : (rest : List Read) → text_of (reads ++ rest) (stage_of s₀ p₀) ≡ g.text ++ text_of (r ∷ (drop (i + 1) reads ++ rest)) (stage_of s p)
  split rest = g.follows rest ∙ ap (λ (l : List Read). g.text ++ text_of (l ++ rest) (stage_of s p)) left

  -- `line` is the last text
  stops_here : {out : Text} (line : List ℕ) → Appends after line out → ((rest : List Read) → text_of (r ∷ rest) (stage_of s p) ≡ line) → Stops out
  stops_here line q w =
      stopped (g.text ++ line) (appends_then g.appends q)
      (λ rest. split rest ∙ ap (λ (l : List ℕ). g.text ++ l) (w (drop (i + 1) reads ++ rest)))

  pub at-end : r ≡ End → Stops after
  at-end f = stops_here [] (appends_none after) (λ rest. rw f refl)

  pub at_fault : {out : Text} (q : Refusal) (at : ℕ) → r ≡ Refused q at → Appends after (no_line (number q) at) out → Stops out
  at_fault q at f w = stops_here (no_line (number q) at) w (λ rest. rw f refl)

  -- a command out of turn
  out_of_turn : {out : Text} (c : Command) (at : ℕ) → r ≡ Next c at → execute (stage_of s p) c ≡ (refused_by 22, stage_of s p)
      → Appends after (no_line 22 at) out → Stops out
  out_of_turn c at f w q = stops_here (no_line 22 at) q (λ rest. rw (f, w) (append-nil (no_line 22 at)))

  pub no_call : {out : Text} (c : Command) (at : ℕ) → r ≡ Next c at → ((call : CallCommand) → c ≡ Calling call → ⊥)
      → Appends after (no_line 22 at) out → Stops out
  unfolding execute
  no_call (Setup c) at f other q = out_of_turn (Setup c) at f refl q
  no_call Compile at f other q = out_of_turn Compile at f refl q
  no_call (Calling c) at f other q = absurd (other c refl)

  pub ninth : {out : Text} (x n at : ℕ) → r ≡ Next (Calling (StepTo x n)) at → 8 ≤ p.count → Appends after (no_line 22 at) out → Stops out
  unfolding execute
  ninth x n at f full q =
      let many : 8 ≤ length (steps_of p) = omega (arith, full, count source target images s t p g.served) in
      out_of_turn (Calling (StepTo x n)) at f (rw (le-ltb (length (steps_of p)) 8 many) refl) q

  module _ {c : CallCommand} {at : ℕ} {y : Reply} {s' t' : State} {p' : Path} (f : r ≡ Next (Calling c) at)
      (u : Turned source target images s p c y s' t' p') where
    called : (rest : List Read) → text_of (r ∷ rest) (stage_of s p) ≡ printed y at (text_of rest (stage_of s' p'))
    called rest = rw (f, u.is) refl

    pub replied_last : {out : Text} → stops y ≡ true → Appends after (line_of y at) out → Stops out
    replied_last b q = stops_here (line_of y at) q (λ rest. called rest ∙ rw b (append-nil (line_of y at)))

    pub replied_on : {out : Text} → stops y ≡ false → Appends after (line_of y at) out → GoesOn s' t' p' out
    replied_on b q = record {
      text = g.text ++ line_of y at;
      appends = appends_then g.appends q;
      served = u.served;
      commands = λ all. g.commands (rw (left, f) all);
      follows = λ rest.
          split rest
          ∙ ap (λ (l : List ℕ). g.text ++ l) (called (drop (i + 1) reads ++ rest) ∙ rw b refl)
          ∙ sym (append_assoc g.text (line_of y at) (text_of (drop (i + 1) reads ++ rest) (stage_of s' p')));
    }

  pub stepped : (x n at : ℕ) → r ≡ Next (Calling (StepTo x n)) at → p.count < 8 → GoesOn s t (extended_by p x n) after
  stepped x n at f few = replied_on f (step_turned source target images s t p g.served x n few) refl (appends_none after)

-- after the loop no read is left, and all of them are commands
pub comes : (session : Session) → Ready session → {reads : List Read} {before : Text} {i : ℕ} {s t : State} {p : Path} {after : Text}
    → length reads ≤ i
    → Going session.drawing.source.items session.drawing.target.items (take (length session.drawing.source.items) session.pair.map) reads
    session.pair.source session.path before i s t p after
    → Comes (batch_text reads session) before
    (Some (record { drawing = session.drawing; pair = record { source = s; chip = t; map = session.pair.map }; path = p })) after
    × AllCommands reads
comes session ready {reads} {before} {i} l g =
    let left = drop_all i reads l in (
      record {
        text = g.text;
        appends = g.appends;
        ready = record { images = ready.images; served = g.served };
        follows = λ rest. g.follows rest ∙ rw left refl;
      },
      g.commands (rw left tt),
    )

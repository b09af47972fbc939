-- Commands of both widths. A rank of eight bytes that is below 2^32 begins with four zeros, and the other four are the rank of 05 or 06. Either kind of
-- step is read as a step, and either kind of push as a push, so that they are out of turn together and counted together.
use Rattle.std.proofs.Common.{◌≡◌, ◌⊎◌, inl, inr, ℕ, zero, suc, ◌+◌, ◌≤◌, ◌<◌, List, [], ◌∷◌, ◌++◌, Option, length, drop, get_or}
use Rattle.std.proofs.Common.{refl, sym, subst, ◌∙◌, arith, length-append, length-drop, drop-cons}
use Rattle.std.proofs.lemmas.List.{append-nil}
use borrow.Author.Tests.{lt-ltb, le-ltb}
use Rattle.pifo_model.specs.Tree.{Step, step}
use Rattle.pifo_model.specs.Machine.{Machine}
use Rattle.queue_state.specs.State.{Packet}
use Rattle.script_lines.specs.Lines.{no_line}
use Rattle.script_commands.specs.declared.Command.TheVariants.{Call}
use Rattle.script_commands.specs.declared.Call.{Call as CallCommand}
use Rattle.script_commands.specs.declared.Call.TheVariants.{Step as StepTo, Push}
use Rattle.script_commands.specs.declared.Read.{Read}
use Rattle.script_commands.specs.declared.Read.TheVariants.{Next}
use Rattle.script_commands.specs.Batches.{after}
use Rattle.script_commands.specs.Reading.{number, operand, size_by, command_by, command_of, read_at, next_at, reads}
use Rattle.script_commands.proofs.FirstByte.{complete}
use Rattle.script_commands.proofs.ReadsFrom.{reads_by_lem}
use Rattle.script_run.specs.Execute.{drawing, serving, execute}
use Rattle.script_run.specs.Output.{text_of}
use Rattle.script_widths.specs.Widths.{StepsAlike, PushesAlike, WholeAt, StepAt, PushAt, BeforeCompile, NinthStep}

-- four bytes before others are 0, if the number is below 2^32
zeros : (a b c d e f g h : ℕ) → number 0 (a ∷ b ∷ c ∷ d ∷ e ∷ f ∷ g ∷ h ∷ []) < 4294967296 → (a ≡ 0) × (b ≡ 0) × (c ≡ 0) × (d ≡ 0)
zeros a b c d e f g h l = (omega arith, omega arith, omega arith, omega arith)

pub steps_alike : StepsAlike
unfolding command_by operand
steps_alike child a b c d e f g h rest at l =
    let z = zeros a b c d e f g h l in
    rw (z.0, z.1, z.2, z.3)
    (sym (complete 9 (9 ∷ child ∷ 0 ∷ 0 ∷ 0 ∷ 0 ∷ e ∷ f ∷ g ∷ h ∷ rest) at _ (omega arith)) ∙ complete 5 (5 ∷ child ∷ e ∷ f ∷ g ∷ h ∷ rest) at _ (omega arith))

pub pushes_alike : PushesAlike
unfolding command_by operand
pushes_alike p q r s a b c d e f g h rest at l =
    let z = zeros a b c d e f g h l in
    rw (z.0, z.1, z.2, z.3)
    (sym (complete 10 (10 ∷ p ∷ q ∷ r ∷ s ∷ 0 ∷ 0 ∷ 0 ∷ 0 ∷ e ∷ f ∷ g ∷ h ∷ rest) at _ (omega arith)) ∙ complete 6 (6 ∷ p ∷ q ∷ r ∷ s ∷ e ∷ f ∷ g ∷ h ∷ rest) at _ (omega arith))

-- ---- what is read where a whole command stands: a step by either byte, and a push by either

record IsStep (at : ℕ) (r : Read) : Type 0 where
  child : ℕ
  rank : ℕ
  is : r ≡ Next (Call (StepTo child rank)) at

record IsPush (at : ℕ) (r : Read) : Type 0 where
  packet : ℕ
  rank : ℕ
  is : r ≡ Next (Call (Push packet rank)) at

module _ (rest : List ℕ) (at : ℕ) where
  abbrev Reading : (ℕ → Read → Type 0) → ℕ → Type 0
  Reading P code = size_by code ≤ length (code ∷ rest) → P at (command_of (code ∷ rest) at)

  step_5 : Reading IsStep 5
  unfolding command_by
  step_5 h = record { child = _; rank = _; is = sym (complete 5 (5 ∷ rest) at _ h) }

  step_9 : Reading IsStep 9
  unfolding command_by
  step_9 h = record { child = _; rank = _; is = sym (complete 9 (9 ∷ rest) at _ h) }

  push_6 : Reading IsPush 6
  unfolding command_by
  push_6 h = record { packet = _; rank = _; is = sym (complete 6 (6 ∷ rest) at _ h) }

  push_10 : Reading IsPush 10
  unfolding command_by
  push_10 h = record { packet = _; rank = _; is = sym (complete 10 (10 ∷ rest) at _ h) }

  either : (P : ℕ → Read → Type 0) (code one other : ℕ) → (code ≡ one) ⊎ (code ≡ other) → Reading P one → Reading P other → Reading P code
  either P code one other (inl e) f g = subst (Reading P) (sym e) f
  either P code one other (inr e) f g = subst (Reading P) (sym e) g

some_bytes : (code one other : ℕ) → (code ≡ one) ⊎ (code ≡ other) → 0 < size_by one → 0 < size_by other → 0 < size_by code
some_bytes code one other (inl e) f g = rw e f
some_bytes code one other (inr e) f g = rw e g

module _ (script : List ℕ) where
  read_whole : (P : ℕ → Read → Type 0) (at one other : ℕ) → WholeAt script at one other → 0 < size_by one → 0 < size_by other
      → ((rest : List ℕ) → Reading rest at P one) → ((rest : List ℕ) → Reading rest at P other) → P at (read_at script at)
  unfolding read_at
  read_whole P at one other w z y f g =
      let rest = drop (suc at) script in
      let inside : at < length script = omega (arith, w.whole, some_bytes (get_or script at 0) one other w.first z y) in
      rw (drop-cons script at 0 inside)
      (either rest at P (get_or script at 0) one other w.first (f rest) (g rest) (omega (arith, w.whole, length-drop (suc at) script)))

  step_read : (at : ℕ) → StepAt script at → IsStep at (read_at script at)
  step_read at s = read_whole IsStep at 5 9 s (omega arith) (omega arith) (λ rest. step_5 rest at) (λ rest. step_9 rest at)

  push-read : (at : ℕ) → PushAt script at → IsPush at (read_at script at)
  push-read at p = read_whole IsPush at 6 10 p (omega arith) (omega arith) (λ rest. push_6 rest at) (λ rest. push_10 rest at)

  -- ---- out of turn

  call_first : (at : ℕ) (source target : List ℕ) (limit : Option ℕ) (c : CallCommand) → read_at script at ≡ Next (Call c) at
      → text_of (reads script at) (drawing source target limit) ≡ no_line 22 at
  unfolding execute
  call_first at source target limit c e = rw (reads_by_lem script at, e) (append-nil (no_line 22 at))

  -- n steps and one more, after as many as make eight
  ninth : (n at : ℕ) (m : Machine Packet) (steps : List Step) → n + length steps ≡ 8 → ((i : ℕ) → i ≤ n → StepAt script (after i script at))
      → text_of (reads script at) (serving m steps) ≡ no_line 22 (after n script at)
  unfolding execute
  ninth zero at m steps e all =
      let s = step_read at (all 0 (omega arith)) in
      rw (reads_by_lem script at, s.is, le-ltb (length steps) 8 (omega (arith, e))) (append-nil (no_line 22 at))
  ninth (suc n) at m steps e all =
      let s = step_read at (all 0 (omega arith)) in
      rw (reads_by_lem script at, s.is, lt-ltb (length steps) 8 (omega (arith, e)))
      (ninth n (next_at script at) m (steps ++ (step s.child s.rank ∷ [])) (omega (arith, e, length-append steps (step s.child s.rank ∷ []))) (λ i h. all (suc i) (omega (arith, h))))

pub before_compile : BeforeCompile
before_compile script at source target limit (inl s) = call_first script at source target limit _ (step_read script at s).is
before_compile script at source target limit (inr p) = call_first script at source target limit _ (push-read script at p).is

pub ninth_step : NinthStep
ninth_step script at m all = ninth script 8 at m [] refl all

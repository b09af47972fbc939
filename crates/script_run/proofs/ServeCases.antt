-- Each call in turn after 04: the reply is the definition's, and the code then has what corresponds to the stage after it.
use Rattle.std.proofs.Common.{◌≡◌, ℕ, ◌<◌, List, [], ◌∷◌, ◌++◌, true, length, refl, sym, ap, ◌∙◌, arith, length-append}
use borrow.Author.Tests.{lt-ltb}
use Rattle.topology.specs.Reader.{tree}
use Rattle.pifo_model.specs.Tree.{Step, step}
use Rattle.pifo_model.specs.Machine.{Machine, Call, pushing, popping, Answer, serve}
use Rattle.queue_state.specs.State.{Packet, machine, well_formed}
use Rattle.queue_state.specs.Calls.{Serves}
use Rattle.queue_state.specs.declared.State.{State}
use Rattle.queue_push.specs.Calls.{steps_of, path_of, extended_by}
use Rattle.queue_push.specs.declared.Path.{Path}
use Rattle.queue_push.proofs.PathSteps.{steps_path, path_plain, path_more}
use Rattle.pair_step.specs.InStep.{ServesCarried, InStep}
use Rattle.pair_step.proofs.InStep.{next}
use Rattle.script_commands.specs.declared.Call.{Call as CallCommand}
use Rattle.script_commands.specs.declared.Call.TheVariants.{Step as StepTo, Push, Pop}
use Rattle.script_commands.specs.declared.Command.TheVariants.{Call as Calling}
use Rattle.script_run.specs.Execute.{serving, Reply, silent, replied, execute}
use Rattle.script_run.specs.InnerParts.{stage_of, Served}

-- a call in turn: its reply, and what the code has then
pub record Turned (source target images : List ℕ) (s : State) (p : Path) (c : CallCommand) (r : Reply) (s' t' : State) (p' : Path) : Type 0 where
  pub is : execute (stage_of s p) (Calling c) ≡ (r, stage_of s' p')
  pub served : Served source target images s' t' p'

step_in : (m : Machine Packet) (ss : List Step) (i r : ℕ) → length ss < 8
    → execute (serving m ss) (Calling (StepTo i r)) ≡ (silent, serving m (ss ++ (step i r ∷ [])))
unfolding execute
step_in m ss i r h = rw (lt-ltb (length ss) 8 h) refl

module _ (source target images : List ℕ) (s t : State) (p : Path) (h : Served source target images s t p) where
  pub count : length (steps_of p) ≡ p.count
  count = sym (ap (λ (q : Path). q.count) h.plain)

  pub step_turned : (i r : ℕ) → p.count < 8 → Turned source target images s p (StepTo i r) silent s t (extended_by p i r)
  step_turned i r less =
      let ss : List Step = steps_of p ++ (step i r ∷ []) in
      let l : ℕ = p.leaf_rank in
      rw (path_more p i r h.plain (omega arith))
      record {
        is =
            step_in (machine s) (steps_of p) i r (omega (arith, count, less))
            ∙ ap (λ (f : List Step). (silent, serving (machine s) f)) (sym (steps_path ss l));
        served =
            record {
              in_step = h.in_step;
              few = omega (arith, less, count, length-append (steps_of p) (step i r ∷ []));
              plain = path_plain ss l;
            };
      }

  -- a call on each tree: the chip's answer is that of the source's machine
  module _ (c : Call Packet) (a b : Answer Packet) (s' t' : State) (v : Serves s c a s')
      (u : ServesCarried (tree source) (tree target) images t c b t') where
    abbrev both : (a ≡ b) × InStep source target images s' t'
    both = next source target images s t h.in_step c a b s' t' v u

    formed : well_formed s ≡ true
    formed = h.in_step.source_formed

    answer : (serve (machine s) c).0 ≡ b
    answer = sym (v.answer formed) ∙ both.0

    after : (serve (machine s) c).1 ≡ machine s'
    after = sym (v.machine formed)

  pub push_turned : (x l : ℕ) (a b : Answer Packet) (s' t' : State) → Serves s (pushing (steps_of p) l x) a s'
      → ServesCarried (tree source) (tree target) images t (pushing (steps_of p) l x) b t'
      → Turned source target images s p (Push x l) (replied b) s' t' (path_of [] 0)
  unfolding execute
  push_turned x l a b s' t' v u =
      let call = pushing (steps_of p) l x in
      record {
        is = rw (answer call a b s' t' v u, after call a b s' t' v u) refl;
        served = record { in_step = (both call a b s' t' v u).1; few = omega arith; plain = refl };
      }

  pub pop_turned : (a b : Answer Packet) (s' t' : State) → Serves s popping a s' → Serves t popping b t'
      → Turned source target images s p Pop (replied b) s' t' p
  unfolding execute
  pop_turned a b s' t' v u =
      record {
        is = rw (answer popping a b s' t' v u, after popping a b s' t' v u);
        served = record { in_step = (both popping a b s' t' v u).1; few = h.few; plain = h.plain };
      }

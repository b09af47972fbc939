-- The proof of demand 2. From an opening on, an execution follows the machine, to which the laws about lists of calls apply (`run`, `drained` in the
-- crate `pifo_model`). The numbers of the refusals and the counts in the answers follow from the machine's answer to one call.
use Rattle.std.specs.Prelude.{Ok}
use mathlib.Core.Path.{◌≡◌, refl, sym, ap, ◌∙◌, subst}
use Prim.Native.Nat.{ℕ}
use native.Mathlib.Omega.{arith}
use mathlib.Core.List.{List, [], ◌∷◌, map}
use mathlib.Core.Bool.{true}
use lib.ListN.{replicate}
use Rattle.topology.specs.Reader.{tree}
use Rattle.pifo_model.specs.Tree.{packets, held}
use Rattle.pifo_model.specs.Machine.{Machine, Call, popping, Answer, accepted, departed, refused, full, number_of, opened, serve, answers, after}
use Rattle.pifo_model.specs.Runs.{departures, fulls, times, Run, Drained}
use Rattle.pifo_model.proofs.Well.{is_other}
use Rattle.pifo_model.proofs.Answers.{pop-refused, accepted-held, never_18, full_15}
use Rattle.pifo_model.proofs.Runs.{Unmoved, unmoved, run}
use Rattle.pifo_model.proofs.Times.{times-part}
use Rattle.pifo_model.proofs.Drained.{drained}
use Rattle.queue_state.specs.State.{Packet, tree_of, machine, well_formed}
use Rattle.queue_state.specs.Opening.{open_fault, opened_state}
use Rattle.queue_state.specs.Calls.{Serves}
use Rattle.queue_state.specs.Demand.{History, Execution, answers_in, last_state, Tells, EachSound, Conserves, Drains, Demand2}
use Rattle.queue_state.specs.declared.State.{State}
use Rattle.queue_state.proofs.WellFormed.{formed}
use Rattle.queue_state.proofs.OpenedState.{opens}
use Rattle.queue_state.proofs.Satisfiable.{serves_some, execution_some}
use Rattle.queue_state.proofs.Execution.{Follows, serves_follows, answers_follow, last_follows}

-- ---- the numbers of the machine's refusals

module _ {P : Type 0} where
  fulls_15 : (m : Machine P) (calls : List (Call P)) → fulls (answers m calls) ≡ times 15 (map number_of (answers m calls))
  fulls_15 m [] = refl
  fulls_15 m (c ∷ cs) = omega (arith, full_15 m c, fulls_15 (serve m c).1 cs)

  none_18 : (m : Machine P) (calls : List (Call P)) → times 18 (map number_of (answers m calls)) ≡ 0
  none_18 m [] = refl
  none_18 m (c ∷ cs) =
      omega (arith, is_other 18 (number_of (serve m c).0) (λ e. never_18 m c (sym e)), none_18 (serve m c).1 cs)

-- ---- one call

tells : (s : State) (call : Call Packet) (a : Answer Packet) (r : State) → Follows serve s call a r → Tells a r
unfolding machine
tells s call (accepted h) r f = accepted-held (machine s) call h (sym f.answer) ∙ ap (λ (q : Machine Packet). held q.tree) (sym f.machine)
tells s call (departed p) r f = tt
tells s call (refused n) r f = tt
tells s call (full n c) r f =
    let u = subst (λ (a : Answer Packet). Unmoved (machine s) a (serve (machine s) call).1) (sym f.answer) (unmoved (machine s) call) in
    sym (ap (λ (q : Machine Packet). q.refusals) (f.machine ∙ u.1))

each-sound : (calls : List (Call Packet)) (s : State) (vs : History State) → well_formed s ≡ true → Execution Serves s calls vs → EachSound vs
each-sound [] s [] t _ = tt
each-sound [] s (v ∷ vs) t e = absurd e
each-sound (c ∷ cs) s [] t e = absurd e
each-sound (c ∷ cs) s ((a, r) ∷ vs) t (call, rest) =
    let f = serves_follows s c a r t call in
    (f.formed, tells s c a r f, each-sound cs r vs f.formed rest)

-- ---- from an opening on

conserves : (bytes : List ℕ) (limit : ℕ) → open_fault bytes limit ≡ 0 → let s = opened_state bytes limit in
    (calls : List (Call Packet)) (vs : History State) → Execution Serves s calls vs → Conserves s calls vs
unfolding machine
conserves bytes limit e calls vs v =
    let s = opened_state bytes limit in
    let o = opens bytes limit (Ok s) (sym e) refl in
    let start : Machine Packet = opened (tree bytes) limit in
    let given : answers_in vs ≡ answers start calls =
    answers_follow serve Serves serves_follows calls s vs o.formed v ∙ ap (λ (q : Machine Packet). answers q calls) o.machine in
    let last : machine (last_state s vs) ≡ after start calls =
    (last_follows serve Serves serves_follows calls s vs o.formed v).1 ∙ ap (λ (q : Machine Packet). after q calls) o.machine in
    let r : Run (tree bytes) limit calls (answers_in vs) (machine (last_state s vs)) = rw (given, last) (run (tree bytes) limit calls) in
    let number : fulls (answers_in vs) ≡ times 15 (map number_of (answers_in vs)) = rw given (fulls_15 start calls) in
    record {
      opened = o.formed;
      each = each-sound calls s vs o.formed v;
      never_18 = rw given (none_18 start calls);
      contents = r.contents;
      number = r.number;
      once = λ p. times-part p (departures (answers_in vs)) (packets (tree_of (last_state s vs))) r.contents;
      refusals = omega (arith, r.count, number);
    }

-- ---- as many pops as packets

drains : (s : State) → well_formed s ≡ true → (vs : History State)
    → Execution Serves s (replicate (held (tree_of s)) popping) vs → Drains s vs
unfolding machine
drains s t vs v =
    let calls : List (Call Packet) = replicate (held (tree_of s)) popping in
    let last = last_follows serve Serves serves_follows calls s vs t v in
    let d : Drained (machine s) (answers_in vs) (machine (last_state s vs)) =
    rw (answers_follow serve Serves serves_follows calls s vs t v, last.1) (drained (held (tree_of s)) (machine s) (formed s t).tree refl) in
    record {
      each = d.each;
      contents = d.contents;
      empty = d.empty;
      next = λ a r w.
          w.answer last.0
          ∙ ap (λ (x : Answer Packet × Machine Packet). x.0)
          (pop-refused (machine (last_state s vs)) (formed (last_state s vs) last.0).tree d.empty);
    }

pub demand_2 : Demand2
demand_2 = record { conserves = conserves; drains = drains; executes = execution_some Serves serves_some }

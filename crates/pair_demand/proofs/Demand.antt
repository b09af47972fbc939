-- The proof of demand 3. From an opening on, each call answers and leaves what the definition gives for the tree's scheduler, so what is observed of
-- an execution is what is observed of the scheduler (`observed_over_lem`). The source's and the chip's schedulers are observed alike (`schedulers_alike`
-- of the crate `pair_schedule`). What the observations count follows from the machine's laws, since each request is at most one call of the machine
-- (`tallied`). Executions exist, since for every call there are an answer and a tree after it (`own_some` and `chip_some` of the crates `tree_state`
-- and `chip_state`).
use mathlib.Core.Path.{◌≡◌, refl, sym, ap, ◌∙◌, subst}
use mathlib.Core.Logic.{◌↔◌, ⊎_elim}
use Prim.Native.Nat.{ℕ, zero, suc, ◌+◌, ◌≤◌, min}
use native.Mathlib.Omega.{arith}
use mathlib.Core.List.{List, [], ◌∷◌, map}
use mathlib.Core.Bool.{true}
use lib.ListN.{length, length-append}
use borrow.Author.Tests.{le-leb}
use Rattle.base.proofs.Permutation.{length_perm}
use Rattle.std.specs.Prelude.{Result, Ok, Err}
use Rattle.refusal.specs.Numbers.{number_of}
use Rattle.refusal.specs.declared.Refusal.{Refusal}
use Rattle.refusal.proofs.Numbers.{numbered}
use Rattle.topology.specs.Tree.{Topo}
use Rattle.topology.specs.Reader.{fault, tree}
use Rattle.topology.proofs.Reader.{fault_wider}
use Rattle.pifo_model.specs.Tree.{held, packets}
use Rattle.pifo_model.specs.Machine.{Machine, Call, Answer, number_of as answer_number, most, opened, serve}
use Rattle.pifo_model.specs.Runs.{Sound, accepted_by, departed_by, times, taken_by}
use Rattle.pifo_model.proofs.Answers.{full_15}
use Rattle.pifo_model.proofs.Runs.{served, opened-sound}
use Rattle.pifo_model.proofs.Well.{packets_empty, is_other}
use Rattle.topology_reduction.specs.Reduced.{kept_bytes}
use Rattle.topology_reduction.proofs.Limits.{kept-fault, kept-tree}
use Rattle.embedding_model.specs.Rules.{Passes}
use Rattle.embedding_model.specs.Least.{search_fault, search_map}
use Rattle.embedding_model.proofs.Passes.{maps_reduced}
use Rattle.embedding_model.proofs.Search.{search-twelve, search_most}
use Rattle.pair_model.specs.Simulation.{serve_carried}
use Rattle.pair_model.proofs.ReducedAlike.{places_pass}
use Rattle.regular_model.proofs.SearchRegular.{search_regular}
use Rattle.regular_depth.proofs.Answers.{depth-drawn, answers_some}
use Rattle.embedding_least.specs.Answers.{Searches}
use Rattle.embedding_search.proofs.FoundSimulated.{found_passes}
use Rattle.queue_state.specs.State.{Packet, machine}
use Rattle.queue_limit.specs.Limit.{limit_fault}
use Rattle.queue_state.specs.Demand.{History, Execution}
use Rattle.queue_state.proofs.Satisfiable.{execution_some}
use Rattle.queue_state.proofs.Execution.{execution_as}
use Rattle.discipline_model.specs.Figure.{rule_fault, fresh}
use Rattle.discipline_model.specs.Scheduler.{Scheduler, Request, rank_at, with, serve_own, observation_of, observed_over}
use Rattle.discipline_model.specs.declared.Rule.{Rule}
use Rattle.discipline_model.proofs.OneCall.{OneCall, NoCall, one_call, request_topology}
use Rattle.tree_state.specs.Opening.{opened_tree}
use Rattle.tree_state.specs.Calls.{scheduler_of, well_formed_by, Schedules, drawing, own_refusal, OwnServes}
use Rattle.tree_state.specs.declared.Tree.{Tree}
use Rattle.tree_state.proofs.Satisfiable.{own_well, own_some}
use Rattle.pair_schedule.specs.Chip.{image_rank, serve_chip}
use Rattle.pair_schedule.proofs.SchedulersAlike.{schedulers_alike}
use Rattle.chip_state.specs.Calls.{chip_refusal, serve_mapped, ChipServes}
use Rattle.chip_state.proofs.ChipServes.{known_chip, carried_topology}
use Rattle.chip_state.proofs.Satisfiable.{chip_some}
use Rattle.pair_demand.specs.Demand.{CodeRequest, request_of, SourceCall, ChipCall, Observation, observe, observe_own, as_observation, observed, Tallied, as_observations, Alike, Demand3}
use Rattle.pair_demand.proofs.Openings.{own_opens, own_passes, chip-opens, chip_passes}

-- ---- what is observed of a tree is what is observed of its scheduler

observe-kept : (S : Topo) (t : Tree) → well_formed_by S t ≡ true → observe S t ≡ as_observation (observation_of (scheduler_of t))
unfolding machine
observe-kept S t e = rw e

observe_own_lem : (t : Tree) → own_refusal t ≡ 0 → observe_own t ≡ as_observation (observation_of (scheduler_of t))
observe_own_lem t e = observe-kept (drawing t) t (own_well t e)

observe-chip : (source m : List ℕ) (t : Tree) → chip_refusal source m t ≡ 0 → observe (tree source) t ≡ as_observation (observation_of (scheduler_of t))
observe-chip source m t e = observe-kept (tree source) t (known_chip source m t e).formed

module _ (refusal : Tree → ℕ) (server : Scheduler Packet → Request Packet → Answer Packet × Scheduler Packet) (observes : Tree → Observation)
    (sees : (t : Tree) → refusal t ≡ 0 → observes t ≡ as_observation (observation_of (scheduler_of t))) where
  observed_over_lem : (requests : List (Request Packet)) (t : Tree) (vs : History Tree) → refusal t ≡ 0
      → Execution (Schedules refusal server) t requests vs → observed observes vs ≡ as_observations (observed_over server (scheduler_of t) requests)
  observed_over_lem [] t [] ok run = refl
  observed_over_lem [] t (v ∷ vs) ok run = absurd run
  observed_over_lem (q ∷ qs) t [] ok run = absurd run
  observed_over_lem (q ∷ qs) t ((a, r) ∷ vs) ok (call, rest) =
      let answer = call.answer ok in
      let first = sees r (call.formed ok) ∙ ap (λ (s : Scheduler Packet). as_observation (observation_of s)) (call.scheduler ok) in
      let others = observed_over_lem qs r vs (call.formed ok) rest ∙ ap (λ (s : Scheduler Packet). as_observations (observed_over server s qs)) (call.scheduler ok) in
      λ k. (answer k, first k) ∷ others k

-- A chip's scheduler uses its own topology, and no request changes that.
module _ (source m : List ℕ) (T : Topo) where
  mapped_over : (requests : List (Request Packet)) (s : Scheduler Packet) → s.core.topology ≡ T
      → observed_over (serve_mapped source m) s requests ≡ observed_over (serve_chip (tree source) T m) s requests
  mapped_over [] s e = refl
  mapped_over (q ∷ qs) s e =
      let S = tree source in
      let same : serve_mapped source m s q ≡ serve_chip S T m s q = ap (λ (t : Topo). serve_chip S t m s q) e in
      let keeps = request_topology S (serve_carried S T m) (image_rank m) s (carried_topology S T m s.core) q in
      let others = mapped_over qs (serve_chip S T m s q).1 (keeps ∙ e) in
      ap (λ (r : Answer Packet × Scheduler Packet). (r.0, observation_of r.1) ∷ observed_over (serve_mapped source m) r.1 qs) same
      ∙ (λ k. ((serve_chip S T m s q).0, observation_of (serve_chip S T m s q).1) ∷ others k)

-- ---- what the observations count

-- the relation between a machine and the numbers of packets accepted so far, of packets departed, and of pushes refused by 15
record Counted (q : Machine Packet) (i o f : ℕ) : Type 0 where
  sound : Sound q
  holds : held q.tree + o ≡ i
  refusals : q.refusals ≡ min f most

abbrev After : Machine Packet → ℕ → ℕ → ℕ → Answer Packet → Type 0
After q i o f a = Counted q (i + accepted_by a) (o + length (departed_by a)) (f + times 15 (answer_number a ∷ []))

counted_call : (q : Machine Packet) (i o f : ℕ) (c : Call Packet) → Counted q i o f → After (serve q c).1 i o f (serve q c).0
counted_call q i o f c h =
    let a = (serve q c).0 in
    let n = (serve q c).1 in
    let y = served q c h.sound in
    record {
      sound = y.sound;
      holds =
          omega (
            arith,
            h.holds,
            length_perm y.contents,
            length-append (taken_by c a) (packets q.tree),
            length-append (departed_by a) (packets n.tree),
            y.accepts,
          );
      refusals = omega (arith, y.count, h.refusals, full_15 q c);
    }

counted_request : (s : Scheduler Packet) (i o f : ℕ) (q : Request Packet) → Counted s.core i o f
    → After (serve_own s q).1.core i o f (serve_own s q).0
counted_request s i o f q h =
    ⊎_elim
    (λ (z : OneCall s.core.topology serve rank_at s (serve_own s q)). rw (z.1, z.2) (counted_call s.core i o f z.0 h))
    (λ (z : NoCall s.core.topology serve rank_at s (serve_own s q)).
    rw (z.1, z.3) record {
      sound = h.sound;
      holds = omega (arith, h.holds);
      refusals = omega (arith, h.refusals, is_other 15 z.0 (λ e. z.2 (sym e)));
    })
    (one_call s.core.topology serve rank_at s q)

tallied : (requests : List (Request Packet)) (s : Scheduler Packet) (i o f : ℕ) → Counted s.core i o f
    → Tallied i o f (as_observations (observed_over serve_own s requests))
tallied [] s i o f h = tt
tallied (q ∷ qs) s i o f h =
    let a = (serve_own s q).0 in
    let n = (serve_own s q).1 in
    let z = counted_request s i o f q h in
    let count = z.refusals in (
      (held n.core.tree, z.holds, (λ k. (Ok (held n.core.tree), Ok (count k)))),
      tallied qs n (i + accepted_by a) (o + length (departed_by a)) (f + times 15 (answer_number a ∷ [])) z,
    )

-- ---- both trees are alike

module _ (source target m : List ℕ) (limit : ℕ) (rules : List Rule) (f : fault 32 source ≡ 0) (g : fault 64 target ≡ 0)
    (E : Passes (tree source) (tree target) m) (fits : limit_fault limit ≡ 0) (e : rule_fault (tree source) rules ≡ 0) where
  abbrev x : Tree
  x = opened_tree source limit rules

  abbrev y : Tree
  y = opened_tree target limit rules

  alike : (calls : List CodeRequest) (vs ws : History Tree) → Execution SourceCall x calls vs → Execution (ChipCall source m) y calls ws
      → Alike (tree source) (tree target) m limit rules calls x y vs ws
  alike calls vs ws v w =
      let S = tree source in
      let T = tree target in
      let requests = map request_of calls in
      let both = schedulers_alike Packet S T m E limit rules requests in
      let o = (own_opens source f limit fits rules e).scheduler in
      let u = (chip-opens source f limit fits rules e target g).scheduler in
      let x_passes = own_passes source f limit fits rules e in
      let y_passes = chip_passes source f limit fits rules e target g m E in
      let start : Scheduler Packet = with (opened S limit) (fresh rules) in
      let chip-start : Scheduler Packet = with (opened T limit) (fresh rules) in
      let drawn : observed observe_own vs ≡ as_observations (observed_over serve_own start requests) =
      observed_over_lem own_refusal serve_own observe_own observe_own_lem requests x vs x_passes
      (execution_as request_of SourceCall OwnServes (λ t q a r call. call) calls x vs v)
      ∙ ap (λ (s : Scheduler Packet). as_observations (observed_over serve_own s requests)) o in
      let chip : observed (observe S) ws ≡ as_observations (observed_over (serve_chip S T m) chip-start requests) =
      observed_over_lem (chip_refusal source m) (serve_mapped source m) (observe S) (observe-chip source m) requests y ws y_passes
      (execution_as request_of (ChipCall source m) (ChipServes source m) (λ t q a r call. call) calls y ws w)
      ∙ ap (λ (s : Scheduler Packet). as_observations (observed_over (serve_mapped source m) s requests)) u
      ∙ ap as_observations (mapped_over source m T requests chip-start refl) in
      let first : observe_own x ≡ as_observation (observation_of start) = observe_own_lem x x_passes ∙ ap (λ (s : Scheduler Packet). as_observation (observation_of s)) o in
      let chip_first : observe S y ≡ as_observation (observation_of chip-start) =
      observe-chip source m y y_passes ∙ ap (λ (s : Scheduler Packet). as_observation (observation_of s)) u in
      let none : held (opened {P = Packet} S limit).tree ≡ 0 = ap length (packets_empty Packet S) in
      record {
        before = first ∙ ap as_observation both.before ∙ sym chip_first;
        every = drawn ∙ ap as_observations both.every ∙ sym chip;
        empty = (0, refl, ap (λ (l : Observation). l.0) first ∙ (λ k. (Ok (none k), Ok 0)));
        tallied =
            subst (Tallied 0 0 0) (sym drawn)
            (tallied requests start 0 0 0 record { sound = opened-sound Packet S limit; holds = omega (arith, none); refusals = refl });
        source = drawn;
        chip = chip;
      }

-- ---- the whole statement

limit_fits : (limit : ℕ) → 1 ≤ limit → limit ≤ 256 → limit_fault limit ≡ 0
limit_fits limit low high = rw (le-leb 1 limit low, le-leb limit 256 high)

twelve : (source target : List ℕ) → fault 32 source ≡ 0 → fault 64 target ≡ 0 → (r : Result (List ℕ) Refusal) → Searches source target r
    → (number_of r ≡ 12) ↔ ((l : List ℕ) → Passes (tree source) (tree target) l → ⊥)
twelve source target f g r s =
    let exact = search-twelve source target f g in
    (λ e. exact.0 (sym s.number ∙ e), λ none. s.number ∙ exact.1 none)

-- the search has an answer for all arguments
searches : (source target : List ℕ) → (r : Result (List ℕ) Refusal) × Searches source target r
searches source target = by_fault (search_fault source target) refl (search_most source target)
  where
    by_fault : (f : ℕ) → search_fault source target ≡ f → f ≤ 12 → (r : Result (List ℕ) Refusal) × Searches source target r
    by_fault zero e most = (Ok (search_map source target), record { number = sym e; map = refl })
    by_fault (suc f) e most = let n = numbered f (omega arith) in (Err n.0, record { number = n.1 ∙ sym e; map = tt })

pub demand_3 : Demand3
demand_3 =
    record {
      alike = λ source target m limit rules f g E low high. alike source target m limit rules f g E (limit_fits limit low high);
      opens = λ source target limit rules f g low high e.
          let fits = limit_fits limit low high in
          ((own_opens source f limit fits rules e).number, (chip-opens source f limit fits rules e target g).number);
      source_executes = execution_some SourceCall (λ t q. own_some t (request_of q));
      chip_executes = λ source m. execution_some (ChipCall source m) (λ t q. chip_some source m t (request_of q));
      searches = searches;
      depths = answers_some;
      twelve = twelve;
      twelve_reduced = λ source target f g r s.
          let exact = twelve source target f g r s in
          let same = maps_reduced (tree source) (tree target) in
          (λ e. same.0 (exact.0 e), λ none. exact.1 (same.1 none));
      zero_passes = found_passes;
      loads_reduced = λ source f. (
        fault_wider 32 64 (kept_bytes source) (omega arith) (kept-fault 32 source f),
        kept-tree 32 source f,
        places_pass (tree source),
      );
      zero_regular = λ source d k a w r s.
          s.number ∙ (search_regular source d k (depth-drawn source d (sym a.0)) a.1 w).0;
      twelve_regular = λ source d k a w j l r s.
          s.number ∙ (search_regular source d k (depth-drawn source d (sym a.0)) a.1 w).1 j l;
    }

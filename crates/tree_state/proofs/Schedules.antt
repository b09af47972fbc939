-- How a call on a tree with disciplines meets its contract (`Schedules`), for any first tests and any server: it is refused (`ill_scheduled`); or the
-- call below gives the answer, and a departure sets virtual times (`called`); or a push to a leaf is refused by 25 or 23, or gets the answer of the
-- push below (`no_leaf`, `late`, `taken`, `not_taken`).
use mathlib.Core.Path.{◌≡◌, refl, sym, ap, ◌∙◌}
use mathlib.Core.Logic.{◌≢◌}
use Prim.Native.Nat.{ℕ}
use mathlib.Core.Bool.{Bool, true, false}
use mathlib.Core.Option.{Option}
use Rattle.base.proofs.Tests.{clash}
use Rattle.topology.specs.Tree.{Topo}
use Rattle.topology.specs.Address.{addr}
use Rattle.pifo_model.specs.Queue.{Rank}
use Rattle.pifo_model.specs.Machine.{Machine, Call, pushing, Answer, accepted, departed, refused, full, Server}
use Rattle.queue_state.specs.State.{Packet, machine}
use Rattle.queue_state.specs.Calls.{counting as counting_state}
use Rattle.queue_state.specs.declared.State.{State}
use Rattle.queue_state.proofs.Serves.{apart}
use Rattle.discipline_model.specs.Figure.{kind_at, rank_by, steps_down, finishes_down, fits_down, with_finishes, after_pop}
use Rattle.discipline_model.specs.Scheduler.{Scheduler, Request, calling, pushing_to, is_leaf, with, pushed_by, called_by, serve_by}
use Rattle.discipline_model.specs.declared.Disciplines.{Disciplines}
use Rattle.tree_state.specs.Calls.{tree_with, scheduler_of, counting, Schedules}
use Rattle.tree_state.specs.declared.Tree.{Tree}

-- A call below from the state s: the call c, the answer a and the state r after it.
pub record Below (server : Server Packet) (s : State) (c : Call Packet) (a : Answer Packet) (r : State) : Type 0 where
  pub answer : a ≡ (server (machine s) c).0
  pub machine : machine r ≡ (server (machine s) c).1
  pub unaltered : (n : ℕ) → a ≡ refused n → r ≡ s
  pub counted : (n k : ℕ) → a ≡ full n k → r ≡ counting_state s k

-- the disciplines after an answer: a departure sets virtual times
abbrev pub learnt : Topo → Disciplines → (ℕ → Option Rank) → Answer Packet → Disciplines
learnt S d at (accepted h) = d
learnt S d at (departed p) = after_pop S d at
learnt S d at (refused n) = d
learnt S d at (full n k) = d

called_by_lem : (S : Topo) (s : Scheduler Packet) (at : ℕ → Option Rank) (a : Answer Packet) (m : Machine Packet)
    → called_by S s at (a, m) ≡ (a, with m (learnt S s.disciplines at a))
called_by_lem S s at (accepted h) m = refl
called_by_lem S s at (departed p) m = refl
called_by_lem S s at (refused n) m = refl
called_by_lem S s at (full n k) m = refl

accepted-refused : {h n : ℕ} → ◌≡◌ {A = Answer Packet} (accepted h) (refused n) → ⊥
accepted-refused e = clash (cc)

accepted-full : {h n k : ℕ} → ◌≡◌ {A = Answer Packet} (accepted h) (full n k) → ⊥
accepted-full e = clash (cc)

module _ (refusal : Tree → ℕ) (server : Scheduler Packet → Request Packet → Answer Packet × Scheduler Packet) (t : Tree) where
  pub ill_scheduled : (q : Request Packet) (n : ℕ) → refusal t ≡ n → n ≢ 0 → Schedules refusal server t q (refused n) t
  ill_scheduled q n e z =
      record {
        ill = λ _. ap refused (sym e);
        answer = λ o. absurd (z (sym e ∙ o));
        scheduler = λ o. absurd (z (sym e ∙ o));
        formed = λ o. absurd (z (sym e ∙ o));
        unaltered = λ _ _. refl;
        counted = λ _ _ f. absurd (apart f);
      }

-- The tree has passed the first tests, and its calls are served by the drawing S over a server of calls below.
module _ (S : Topo) (server : Server Packet) (at : Machine Packet → ℕ → Option Rank) (refusal : Tree → ℕ)
    (serving : Scheduler Packet → Request Packet → Answer Packet × Scheduler Packet) (t : Tree) (ok : refusal t ≡ 0)
    (is : (q : Request Packet) → serving (scheduler_of t) q ≡ serve_by S server at (scheduler_of t) q) where
  abbrev d : Disciplines
  d = t.disciplines

  -- from the answer and the scheduler that the definition gives
  scheduled : (q : Request Packet) (a : Answer Packet) (r : Tree) → serve_by S server at (scheduler_of t) q ≡ (a, scheduler_of r) → refusal r ≡ 0
      → ((n : ℕ) → a ≡ refused n → r ≡ t) → ((n k : ℕ) → a ≡ full n k → r ≡ counting t k) → Schedules refusal serving t q a r
  scheduled q a r e f k c =
      let whole = is q ∙ e in
      record {
        ill = λ z. absurd (z ok);
        answer = λ _. sym (ap (λ (x : Answer Packet × Scheduler Packet). x.0) whole);
        scheduler = λ _. sym (ap (λ (x : Answer Packet × Scheduler Packet). x.1) whole);
        formed = λ _. f;
        unaltered = k;
        counted = c;
      }

  -- a refusal by the scheduler itself
  refusing : (q : Request Packet) (n : ℕ) → serve_by S server at (scheduler_of t) q ≡ (refused n, scheduler_of t)
      → Schedules refusal serving t q (refused n) t
  refusing q n e = scheduled q (refused n) t e ok (λ _ _. refl) (λ _ _ f. absurd (apart f))

  -- the call below as one equation
  below : (c : Call Packet) (a : Answer Packet) (r : State) → Below server t.state c a r → server (machine t.state) c ≡ (a, machine r)
  below c a r b = λ i. (sym b.answer i, sym b.machine i)

  -- a push by path or a pop
  pub called : (c : Call Packet) (a : Answer Packet) (r : State) (after : Disciplines) → Below server t.state c a r
      → after ≡ learnt S d (at (machine t.state)) a → refusal (tree_with r after) ≡ 0
      → Schedules refusal serving t (calling c) a (tree_with r after)
  called c a r after b e f =
      let served = ap (called_by S (scheduler_of t) (at (machine t.state))) (below c a r b) ∙ called_by_lem S (scheduler_of t) (at (machine t.state)) a (machine r) in
      let known : serve_by S server at (scheduler_of t) (calling c) ≡ (a, scheduler_of (tree_with r after)) = served ∙ (λ i. (a, with (machine r) (sym e i))) in
      let same : (n : ℕ) → a ≡ refused n → after ≡ d = λ n q. e ∙ ap (learnt S d (at (machine t.state))) q in
      let stays : (n k : ℕ) → a ≡ full n k → after ≡ d = λ n k q. e ∙ ap (learnt S d (at (machine t.state))) q in
      scheduled (calling c) a (tree_with r after) known f
      (λ n q i. tree_with (b.unaltered n q i) (same n q i))
      (λ n k q i. tree_with (b.counted n k q i) (stays n k q i))

  module _ (leaf class len : ℕ) (p : Packet) where
    abbrev request : Request Packet
    request = pushing_to leaf class len p

    -- the push below, the disciplines after it, and whether its finishes fit
    abbrev pub push_to : Call Packet
    push_to = pushing (steps_down S d class 0 (addr S leaf)) (rank_by (kind_at d.rules leaf) 0 class) p

    abbrev pub kept_after : Disciplines
    kept_after = with_finishes d (finishes_down S d len 0 (addr S leaf) d.finish)

    abbrev pub fits : Bool
    fits = fits_down S d len 0 (addr S leaf)

    pub no_leaf : is_leaf S leaf ≡ false → Schedules refusal serving t request (refused 25) t
    no_leaf e = refusing request 25 (rw e refl)

    module _ (e : is_leaf S leaf ≡ true) (a : Answer Packet) (r : State) (b : Below server t.state push_to a r) where
      pushed : serve_by S server at (scheduler_of t) request ≡ pushed_by (scheduler_of t) kept_after fits (a, machine r)
      pushed = rw e (ap (pushed_by (scheduler_of t) kept_after fits) (below push_to a r b))

      pub late : (h : ℕ) → a ≡ accepted h → fits ≡ false → Schedules refusal serving t request (refused 23) t
      late h q f = refusing request 23 (pushed ∙ (λ i. pushed_by (scheduler_of t) kept_after (f i) (q i, machine r)))

      pub taken : (h : ℕ) → a ≡ accepted h → fits ≡ true → (after : Disciplines) → after ≡ kept_after → refusal (tree_with r after) ≡ 0
          → Schedules refusal serving t request a (tree_with r after)
      taken h q f after k z =
          let known = pushed ∙ (λ i. pushed_by (scheduler_of t) kept_after (f i) (q i, machine r)) ∙ (λ i. (sym q i, with (machine r) (sym k i))) in
          scheduled request a (tree_with r after) known z
          (λ n x. absurd (accepted-refused (sym q ∙ x)))
          (λ n c x. absurd (accepted-full (sym q ∙ x)))

      pub not_taken : ((h : ℕ) → a ≡ accepted h → ⊥) → refusal (tree_with r d) ≡ 0 → Schedules refusal serving t request a (tree_with r d)
      not_taken no_h z =
          scheduled request a (tree_with r d) (pushed ∙ by_answer a no_h) z
          (λ n q i. tree_with (b.unaltered n q i) d)
          (λ n k q i. tree_with (b.counted n k q i) d)
        where
          by_answer : (a : Answer Packet) → ((h : ℕ) → a ≡ accepted h → ⊥)
              → pushed_by (scheduler_of t) kept_after fits (a, machine r) ≡ (a, with (machine r) d)
          by_answer (accepted h) n = absurd (n h refl)
          by_answer (departed x) n = refl
          by_answer (refused x) n = refl
          by_answer (full x k) n = refl

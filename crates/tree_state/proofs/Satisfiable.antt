-- The contract of a call on a tree with disciplines can be met: for every request there are an answer and a tree after it. If the tree passes the
-- first tests, and for each call below there are an answer and a state, the disciplines after it can be computed (`scheduled_some`). This holds for a
-- tree by itself (`own_some`).
use mathlib.Core.Path.{◌≡◌, refl}
use Prim.Native.Nat.{ℕ, zero, suc}
use native.Mathlib.Omega.{arith}
use mathlib.Core.Bool.{Bool, true, false, cond}
use mathlib.Core.Option.{Option}
use lib.Dec.{eqb}
use Rattle.std.proofs.lemmas.Bool.{and_parts}
use Rattle.base.proofs.Tests.{clash}
use Rattle.topology.specs.Tree.{Topo}
use Rattle.pifo_model.specs.Queue.{Rank}
use Rattle.pifo_model.specs.Machine.{Machine, Call, Answer, accepted, departed, refused, full, Server, serve}
use Rattle.queue_state.specs.State.{Packet, machine, well_formed}
use Rattle.queue_state.specs.declared.State.{State}
use Rattle.queue_state.proofs.Satisfiable.{serves_some}
use Rattle.discipline_model.specs.Figure.{rule_fault}
use Rattle.discipline_model.specs.Scheduler.{Scheduler, Request, calling, pushing_to, is_leaf, rank_at, serve_by, serve_own}
use Rattle.discipline_model.specs.declared.Disciplines.{Disciplines}
use Rattle.tree_state.specs.Calls.{tree_with, scheduler_of, well_formed_by, Schedules, drawing, own_refusal, OwnServes}
use Rattle.tree_state.specs.declared.Tree.{Tree}
use Rattle.tree_state.proofs.Schedules.{Below, learnt, ill_scheduled, called, push_to, kept_after, fits, no_leaf, late, taken, not_taken}
use Rattle.tree_state.proofs.Below.{below_of}
use Rattle.tree_state.proofs.Own.{own_is, own_after}

module _ (S : Topo) (server : Server Packet) (at : Machine Packet → ℕ → Option Rank) (refusal : Tree → ℕ)
    (serving : Scheduler Packet → Request Packet → Answer Packet × Scheduler Packet) (t : Tree) where
  abbrev Scheduled : Request Packet → Type 0
  Scheduled q = (a : Answer Packet) × (r : Tree) × Schedules refusal serving t q a r

  -- a call below, after which the tree with the new state and the rules that it had passes the first tests
  abbrev pub CallsBelow : Call Packet → Type 0
  CallsBelow c =
      (a : Answer Packet) × (r : State) × Below server t.state c a r
      × ((after : Disciplines) → after.rules ≡ t.disciplines.rules → refusal (tree_with r after) ≡ 0)

  learnt_rules : (d : Disciplines) (f : ℕ → Option Rank) (a : Answer Packet) → (learnt S d f a).rules ≡ d.rules
  learnt_rules d f (accepted h) = refl
  learnt_rules d f (departed p) = refl
  learnt_rules d f (refused n) = refl
  learnt_rules d f (full n k) = refl

  module _ (ok : refusal t ≡ 0) (is : (q : Request Packet) → serving (scheduler_of t) q ≡ serve_by S server at (scheduler_of t) q)
      (below : (c : Call Packet) → CallsBelow c) where
    -- a push to a leaf, from the push below
    module _ (leaf class len : ℕ) (p : Packet) (here : is_leaf S leaf ≡ true) where
      abbrev c : Call Packet
      c = push_to S server at refusal serving t ok is leaf class len p

      abbrev after : Disciplines
      after = kept_after S server at refusal serving t ok is leaf class len p

      abbrev fit : Bool
      fit = fits S server at refusal serving t ok is leaf class len p

      module _ (a : Answer Packet) (r : State) (did : Below server t.state c a r)
          (passes : (k : Disciplines) → k.rules ≡ t.disciplines.rules → refusal (tree_with r k) ≡ 0) where
        in_time : (h : ℕ) → a ≡ accepted h → (b : Bool) → fit ≡ b → Scheduled (pushing_to leaf class len p)
        in_time h e true f =
            (a, tree_with r after, taken S server at refusal serving t ok is leaf class len p here a r did h e f after refl (passes after refl))
        in_time h e false f = (refused 23, t, late S server at refusal serving t ok is leaf class len p here a r did h e f)

        others : ((h : ℕ) → a ≡ accepted h → ⊥) → Scheduled (pushing_to leaf class len p)
        others n =
            (a, tree_with r t.disciplines, not_taken S server at refusal serving t ok is leaf class len p here a r did n (passes t.disciplines refl))

      by_answer : CallsBelow c → Scheduled (pushing_to leaf class len p)
      by_answer (accepted h, r, did, passes) = in_time (accepted h) r did passes h refl fit refl
      by_answer (departed x, r, did, passes) = others (departed x) r did passes (λ h e. clash (cc))
      by_answer (refused n, r, did, passes) = others (refused n) r did passes (λ h e. clash (cc))
      by_answer (full n k, r, did, passes) = others (full n k) r did passes (λ h e. clash (cc))

    pub scheduled_some : (q : Request Packet) → (a : Answer Packet) × (r : Tree) × Schedules refusal serving t q a r
    scheduled_some (calling c) =
        let (a, r, did, passes) = below c in
        let learns = learnt S t.disciplines (at (machine t.state)) a in
        let kept = passes learns (learnt_rules t.disciplines (at (machine t.state)) a) in
        (a, tree_with r learns, called S server at refusal serving t ok is c a r learns did refl kept)
    scheduled_some (pushing_to leaf class len p) = by_leaf (is_leaf S leaf) refl
      where
        by_leaf : (b : Bool) → is_leaf S leaf ≡ b → Scheduled (pushing_to leaf class len p)
        by_leaf true here = by_answer leaf class len p here (below (c leaf class len p here))
        by_leaf false none = (refused 25, t, no_leaf S server at refusal serving t ok is leaf class len p none)

-- ---- a tree by itself

pub own_well : (t : Tree) → own_refusal t ≡ 0 → well_formed_by (drawing t) t ≡ true
unfolding own_refusal
own_well t = by_test (well_formed_by (drawing t) t)
  where
    by_test : (b : Bool) → ◌≡◌ {A = ℕ} (cond b 0 18) 0 → b ≡ true
    by_test true z = refl
    by_test false z = absurd (omega arith)

own_known : (t : Tree) → own_refusal t ≡ 0
    → (well_formed t.state ≡ true) × (eqb (rule_fault (drawing t) t.disciplines.rules) 0 ≡ true)
unfolding well_formed_by
own_known t e = and_parts (well_formed t.state) (eqb (rule_fault (drawing t) t.disciplines.rules) 0) (own_well t e)

pub own_some : (t : Tree) (q : Request Packet) → (a : Answer Packet) × (r : Tree) × OwnServes t q a r
own_some t q = by_refusal (own_refusal t) refl
  where
    below : own_refusal t ≡ 0 → (c : Call Packet) → CallsBelow (drawing t) serve rank_at own_refusal serve_own t c
    below ok c =
        let (w, e) = own_known t ok in
        let (a, r, v) = serves_some t.state c in
        (a, r, below_of t.state c a r w v, λ after k. own_after t c a r after w v e k)

    by_refusal : (n : ℕ) → own_refusal t ≡ n → (a : Answer Packet) × (r : Tree) × OwnServes t q a r
    by_refusal zero ok = scheduled_some (drawing t) serve rank_at own_refusal serve_own t ok (own_is t) (below ok) q
    by_refusal (suc n) e = (refused (suc n), t, ill_scheduled own_refusal serve_own t q (suc n) e (λ z. omega arith))

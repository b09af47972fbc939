-- What a request does to the machine below: at most one call (`one_call`). If there is no call, the answer is 25 or 23, and the scheduler stays as it
-- was. So a push that finds no room, 15, is a call of the machine below and is counted there. A request leaves the topology that the calls below
-- leave (`request_topology`).
use mathlib.Core.Path.{◌≡◌, refl, ◌∙◌, ap}
use mathlib.Core.Logic.{◌≢◌, ◌⊎◌, inl, inr, ⊎_elim}
use Prim.Native.Nat.{ℕ}
use native.Mathlib.Omega.{arith}
use mathlib.Core.Bool.{Bool, true, false, cond}
use mathlib.Core.Option.{Option}
use Rattle.topology.specs.Tree.{Topo}
use Rattle.topology.specs.Address.{Addr, addr}
use Rattle.pifo_model.specs.Queue.{Rank}
use Rattle.pifo_model.specs.Machine.{Machine, Call, pushing, Answer, accepted, departed, refused, full, Server}
use Rattle.discipline_model.specs.Figure.{kind_at, rank_by, steps_down, finishes_down, fits_down, with_finishes}
use Rattle.discipline_model.specs.Scheduler.{Scheduler, Request, calling, pushing_to, is_leaf, pushed_by, called_by, serve_by}
use Rattle.discipline_model.specs.declared.Disciplines.{Disciplines}

module _ {P : Type 0} (S : Topo) (server : Server P) (at : Machine P → ℕ → Option Rank) (s : Scheduler P) where
  -- the answer and the machine are those of a call below
  abbrev pub OneCall : Answer P × Scheduler P → Type 0
  OneCall r = (c : Call P) × (r.0 ≡ (server s.core c).0) × (r.1.core ≡ (server s.core c).1)

  -- there is no call: the answer is a refusal by another number than 15
  abbrev pub NoCall : Answer P × Scheduler P → Type 0
  NoCall r = (n : ℕ) × (r.0 ≡ refused n) × (n ≢ 15) × (r.1 ≡ s)

  by_call : (f : ℕ → Option Rank) (a : Answer P) (m : Machine P) → let r = called_by S s f (a, m) in (r.0 ≡ a) × (r.1.core ≡ m)
  by_call f (accepted h) m = (refl, refl)
  by_call f (departed p) m = (refl, refl)
  by_call f (refused n) m = (refl, refl)
  by_call f (full n c) m = (refl, refl)

  by_push : (d : Disciplines) (c : Call P) (fits : Bool) (a : Answer P) (m : Machine P) → a ≡ (server s.core c).0 → m ≡ (server s.core c).1
      → let r = pushed_by s d fits (a, m) in OneCall r ⊎ NoCall r
  by_push d c true (accepted h) m e f = inl (c, e, f)
  by_push d c false (accepted h) m e f = inr (23, refl, (λ q. omega arith), refl)
  by_push d c fits (departed p) m e f = inl (c, e, f)
  by_push d c fits (refused n) m e f = inl (c, e, f)
  by_push d c fits (full n k) m e f = inl (c, e, f)

  pub one_call : (q : Request P) → let r = serve_by S server at s q in OneCall r ⊎ NoCall r
  one_call (calling c) =
      let z = by_call (at s.core) (server s.core c).0 (server s.core c).1 in
      inl (c, z.0, z.1)
  one_call (pushing_to leaf class length p) = by_leaf (is_leaf S leaf)
    where
      d : Disciplines
      d = s.disciplines

      down : Addr
      down = addr S leaf

      push : Call P
      push = pushing (steps_down S d class 0 down) (rank_by (kind_at d.rules leaf) 0 class) p

      after : Disciplines
      after = with_finishes d (finishes_down S d length 0 down d.finish)

      by_leaf : (b : Bool) → let r = cond b (pushed_by s after (fits_down S d length 0 down) (server s.core push)) (refused 25, s) in
          OneCall r ⊎ NoCall r
      by_leaf true = by_push after push (fits_down S d length 0 down) (server s.core push).0 (server s.core push).1 refl refl
      by_leaf false = inr (25, refl, (λ q. omega arith), refl)

  pub request_topology : ((c : Call P) → (server s.core c).1.topology ≡ s.core.topology) → (q : Request P)
      → (serve_by S server at s q).1.core.topology ≡ s.core.topology
  request_topology keeps q =
      ⊎_elim
      (λ o. ap (λ (m : Machine P). m.topology) o.2 ∙ keeps o.0)
      (λ o. ap (λ (r : Scheduler P). r.core.topology) o.3)
      (one_call q)

-- Requests, case by case. A push by path changes no finish and no virtual time (`path_leaves`); a pop that departs sets virtual times (`pop-times`).
-- A push to a leaf is the push by the path that the disciplines give, and if it is accepted, the finishes are those of its way (`leaf-accepted`). 23
-- is the answer only where that push by path would be accepted, so after 13 to 15 (`finish-refused`), and 25 comes before them all (`no_leaf`). A
-- refusal leaves everything as it was, except for the count after `full` (`stays`).
use mathlib.Core.Path.{◌≡◌, refl, ap}
use Prim.Native.Nat.{ℕ, ◌≤◌}
use native.Mathlib.Omega.{arith}
use mathlib.Core.List.{List}
use mathlib.Core.Bool.{Bool, true, false, cond}
use Rattle.topology.specs.Tree.{Topo}
use Rattle.topology.specs.Address.{Addr, addr}
use Rattle.pifo_model.specs.Queue.{Rank}
use Rattle.pifo_model.specs.Tree.{Step}
use Rattle.pifo_model.specs.Machine.{Machine, Call, pushing, popping, Answer, accepted, departed, refused, full, number_of, counting, serve}
use Rattle.pifo_model.proofs.Answers.{departed_pop, serve_most}
use Rattle.pifo_model.proofs.Runs.{Unmoved, unmoved}
use Rattle.discipline_model.specs.Figure.{kind_at, rank_by, steps_down, finishes_down, fits_down, with_finishes, after_pop}
use Rattle.discipline_model.specs.Scheduler.{Scheduler, Request, calling, pushing_to, is_leaf, rank_at, with, pushed_by, called_by, serve_own}
use Rattle.discipline_model.specs.declared.Disciplines.{Disciplines}

module _ {P : Type 0} (s : Scheduler P) where
  abbrev drawing : Topo
  drawing = s.core.topology

  -- what a refusal leaves
  abbrev pub Stays : Answer P × Scheduler P → Type 0
  Stays (accepted h, r) = Unit
  Stays (departed p, r) = Unit
  Stays (refused n, r) = r ≡ s
  Stays (full n c, r) = r ≡ with (counting s.core c) s.disciplines

  pub path_leaves : (ss : List Step) (l : Rank) (p : P) → (serve_own s (calling (pushing ss l p))).1.disciplines ≡ s.disciplines
  path_leaves ss l p =
      let c = pushing ss l p in
      by_answer (serve s.core c).0 (serve s.core c).1 (λ q e. let z = (departed_pop s.core c q e).0 in cc)
    where
      by_answer : (a : Answer P) (m : Machine P) → ((q : P) → a ≡ departed q → ⊥)
          → (called_by drawing s (rank_at s.core) (a, m)).1.disciplines ≡ s.disciplines
      by_answer (accepted h) m never = refl
      by_answer (departed q) m never = absurd (never q refl)
      by_answer (refused n) m never = refl
      by_answer (full n c) m never = refl

  pub pop-times : (p : P) → (serve_own s (calling popping)).0 ≡ departed p
      → (serve_own s (calling popping)).1.disciplines ≡ after_pop drawing s.disciplines (rank_at s.core)
  pop-times p = by_answer (serve s.core popping).0 (serve s.core popping).1
    where
      by_answer : (a : Answer P) (m : Machine P) → let r = called_by drawing s (rank_at s.core) (a, m) in
          r.0 ≡ departed p → r.1.disciplines ≡ after_pop drawing s.disciplines (rank_at s.core)
      by_answer (accepted h) m e = cc
      by_answer (departed q) m e = refl
      by_answer (refused n) m e = cc
      by_answer (full n c) m e = cc

  -- a push to a leaf: its push by path, the disciplines after it, and whether its finishes fit
  module _ (leaf class length : ℕ) (p : P) where
    abbrev d : Disciplines
    d = s.disciplines

    abbrev down : Addr
    down = addr drawing leaf

    abbrev push : Call P
    push = pushing (steps_down drawing d class 0 down) (rank_by (kind_at d.rules leaf) 0 class) p

    abbrev after : Disciplines
    after = with_finishes d (finishes_down drawing d length 0 down d.finish)

    abbrev fits : Bool
    fits = fits_down drawing d length 0 down

    pub leaf-accepted : (h : ℕ) → (serve_own s (pushing_to leaf class length p)).0 ≡ accepted h
        → ((serve s.core push).0 ≡ accepted h) × ((serve_own s (pushing_to leaf class length p)).1 ≡ with (serve s.core push).1 after)
    leaf-accepted h = by_leaf (is_leaf drawing leaf)
      where
        by_answer : (b : Bool) (a : Answer P) (m : Machine P) → let r = pushed_by s after b (a, m) in
            r.0 ≡ accepted h → (a ≡ accepted h) × (r.1 ≡ with m after)
        by_answer true (accepted n) m e = (e, refl)
        by_answer false (accepted n) m e = cc
        by_answer b (departed q) m e = cc
        by_answer b (refused n) m e = cc
        by_answer b (full n c) m e = cc

        by_leaf : (b : Bool) → let r = cond b (pushed_by s after fits (serve s.core push)) (refused 25, s) in
            r.0 ≡ accepted h → ((serve s.core push).0 ≡ accepted h) × (r.1 ≡ with (serve s.core push).1 after)
        by_leaf true e = by_answer fits (serve s.core push).0 (serve s.core push).1 e
        by_leaf false e = cc

    pub finish-refused : (serve_own s (pushing_to leaf class length p)).0 ≡ refused 23
        → (fits ≡ false) × ((h : ℕ) × ((serve s.core push).0 ≡ accepted h))
    finish-refused = by_leaf (is_leaf drawing leaf)
      where
        by_answer : (b : Bool) (a : Answer P) (m : Machine P) → number_of a ≤ 16 → (pushed_by s after b (a, m)).0 ≡ refused 23
            → (b ≡ false) × ((h : ℕ) × (a ≡ accepted h))
        by_answer true (accepted n) m l e = cc
        by_answer false (accepted n) m l e = (refl, (n, refl))
        by_answer b (departed q) m l e = cc
        by_answer b (refused n) m l e = absurd (omega (arith, l, ap number_of e))
        by_answer b (full n c) m l e = cc

        by_leaf : (b : Bool) → (cond b (pushed_by s after fits (serve s.core push)) (refused 25, s)).0 ≡ refused 23
            → (fits ≡ false) × ((h : ℕ) × ((serve s.core push).0 ≡ accepted h))
        by_leaf true e = by_answer fits (serve s.core push).0 (serve s.core push).1 (serve_most s.core push) e
        by_leaf false e = absurd (omega (arith, ap number_of e))

    pub no_leaf : is_leaf drawing leaf ≡ false → serve_own s (pushing_to leaf class length p) ≡ (refused 25, s)
    no_leaf e = rw e

    leaf_stays : Stays (serve_own s (pushing_to leaf class length p))
    leaf_stays = by_leaf (is_leaf drawing leaf)
      where
        by_answer : (b : Bool) (a : Answer P) (m : Machine P) → Unmoved s.core a m → Stays (pushed_by s after b (a, m))
        by_answer true (accepted h) m u = tt
        by_answer false (accepted h) m u = refl
        by_answer b (departed q) m u = tt
        by_answer b (refused n) m u = ap (λ (k : Machine P). with k d) u
        by_answer b (full n c) m u = ap (λ (k : Machine P). with k d) u.1

        by_leaf : (b : Bool) → Stays (cond b (pushed_by s after fits (serve s.core push)) (refused 25, s))
        by_leaf true = by_answer fits (serve s.core push).0 (serve s.core push).1 (unmoved s.core push)
        by_leaf false = refl

  pub stays : (request : Request P) → Stays (serve_own s request)
  stays (calling c) = by_answer (serve s.core c).0 (serve s.core c).1 (unmoved s.core c)
    where
      by_answer : (a : Answer P) (m : Machine P) → Unmoved s.core a m → Stays (called_by drawing s (rank_at s.core) (a, m))
      by_answer (accepted h) m u = tt
      by_answer (departed p) m u = tt
      by_answer (refused n) m u = ap (λ (k : Machine P). with k s.disciplines) u
      by_answer (full n c) m u = ap (λ (k : Machine P). with k s.disciplines) u.1
  stays (pushing_to leaf class length p) = leaf_stays leaf class length p

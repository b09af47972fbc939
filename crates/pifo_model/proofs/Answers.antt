-- The answer to a call, case by case. A push is refused by its path's fault, if it has one; else it is refused as full exactly where the tree holds as
-- many packets as the limit allows; else it is accepted. A pop is refused exactly where no packet is held, and only a pop answers with a packet.
use mathlib.Core.Path.{◌≡◌, refl, ap}
use mathlib.Core.Logic.{◌≢◌, ◌⊎◌, inl, inr}
use Prim.Native.Nat.{ℕ, zero, suc, ◌≤◌, ◌<◌, min}
use native.Mathlib.Omega.{arith}
use mathlib.Core.List.{List, [], ◌∷◌}
use mathlib.Core.Bool.{Bool, true, false, cond}
use mathlib.Core.Option.{Option, none, some}
use lib.Dec.{leb}
use borrow.Author.Tests.{le-leb, lt-leb, leb-false}
use Rattle.base.proofs.Tests.{clash}
use Rattle.pifo_model.specs.Tree.{Step, path_fault, PTree, push, pop, held, well}
use Rattle.pifo_model.specs.Machine.{Machine, Call, pushing, popping, Answer, accepted, departed, refused, full, most, holding, counting, room, serve_room, serve_path, serve_pop, serve, number_of}
use Rattle.pifo_model.specs.Runs.{full_by, times}
use Rattle.pifo_model.proofs.PathFault.{fault-number}
use Rattle.pifo_model.proofs.Pop.{pop_none, none_pop}

-- the test for room, case by case
pub room_none : (limit holds : ℕ) → limit ≤ holds → room limit holds ≡ 15
room_none limit holds h = rw (le-leb limit holds h)

pub room_some : (limit holds : ℕ) → holds < limit → room limit holds ≡ 0
room_some limit holds h = rw (lt-leb limit holds h)

pub has_room : (limit holds : ℕ) → room limit holds ≡ 0 → holds < limit
has_room limit holds e = by_test (leb limit holds) refl e
  where
    by_test : (b : Bool) → leb limit holds ≡ b → ◌≡◌ {A = ℕ} (cond b 15 0) 0 → holds < limit
    by_test true t z = absurd (omega arith)
    by_test false t z = leb-false limit holds t

module _ {P : Type 0} (m : Machine P) where
  pub push-fault : (ss : List Step) (l : ℕ) (p : P) (f : ℕ) → path_fault m.topology ss ≡ suc f → serve m (pushing ss l p) ≡ (refused (suc f), m)
  push-fault ss l p f e = rw e

  -- a push whose path has no fault, where the machine's room has a given value
  by_room : (ss : List Step) (l : ℕ) (p : P) (n : ℕ) → path_fault m.topology ss ≡ 0 → room m.limit (held m.tree) ≡ n → serve m (pushing ss l p) ≡ serve_room n m ss l p
  by_room ss l p n e t = rw e (ap (λ (x : ℕ). serve_room x m ss l p) t)

  pub push-full : (ss : List Step) (l : ℕ) (p : P) (n : ℕ) → path_fault m.topology ss ≡ 0 → room m.limit (held m.tree) ≡ suc n
      → let c = min (suc m.refusals) most in serve m (pushing ss l p) ≡ (full (suc n) c, counting m c)
  push-full ss l p n e h = by_room ss l p (suc n) e h

  pub push-accepted : (ss : List Step) (l : ℕ) (p : P) → path_fault m.topology ss ≡ 0 → room m.limit (held m.tree) ≡ 0
      → serve m (pushing ss l p) ≡ (accepted (held (push m.tree ss l p)), holding m (push m.tree ss l p))
  push-accepted ss l p e h = by_room ss l p 0 e h

  pub pop-refused : well m.tree ≡ true → held m.tree ≡ 0 → serve m popping ≡ (refused 16, m)
  pop-refused w h = ap (serve_pop m) (none_pop m.tree w h)

  pub pop_departed : well m.tree ≡ true → 0 < held m.tree
      → (p : P) × (u : PTree P) × (pop m.tree ≡ some (p, u)) × (serve m popping ≡ (departed p, holding m u))
  pop_departed w h = by_pop (pop m.tree) refl
    where
      by_pop : (o : Option (P × PTree P)) → pop m.tree ≡ o
          → (p : P) × (u : PTree P) × (pop m.tree ≡ some (p, u)) × (serve m popping ≡ (departed p, holding m u))
      by_pop none e = absurd (omega (arith, pop_none m.tree w e))
      by_pop (some (p, u)) e = (p, u, e, ap (serve_pop m) e)

  -- An accepted push answers the number of packets that the machine then holds.
  pub accepted-held : (c : Call P) (h : ℕ) → (serve m c).0 ≡ accepted h → h ≡ held (serve m c).1.tree
  accepted-held (pushing ss l p) h = by_fault (path_fault m.topology ss)
    where
      in_room : (n : ℕ) → (serve_room n m ss l p).0 ≡ accepted h → h ≡ held (serve_room n m ss l p).1.tree
      in_room zero e = cc
      in_room (suc n) e = absurd (clash (cc))

      by_fault : (f : ℕ) → (serve_path f m ss l p).0 ≡ accepted h → h ≡ held (serve_path f m ss l p).1.tree
      by_fault zero e = in_room (room m.limit (held m.tree)) e
      by_fault (suc f) e = absurd (clash (cc))
  accepted-held popping h = by_pop (pop m.tree)
    where
      by_pop : (o : Option (P × PTree P)) → (serve_pop m o).0 ≡ accepted h → h ≡ held (serve_pop m o).1.tree
      by_pop none e = absurd (clash (cc))
      by_pop (some (p, u)) e = absurd (clash (cc))

  -- Only a pop answers with a packet, the one that the tree's pop gives.
  pub departed_pop : (c : Call P) (p : P) → (serve m c).0 ≡ departed p → (c ≡ popping) × ((u : PTree P) × (pop m.tree ≡ some (p, u)))
  departed_pop (pushing ss l q) p e = by_fault (path_fault m.topology ss) e
    where
      Answers : Type 0
      Answers = (pushing ss l q ≡ popping) × ((u : PTree P) × (pop m.tree ≡ some (p, u)))

      in_room : (n : ℕ) → (serve_room n m ss l q).0 ≡ departed p → Answers
      in_room zero e = absurd (clash (cc))
      in_room (suc n) e = absurd (clash (cc))

      by_fault : (f : ℕ) → (serve_path f m ss l q).0 ≡ departed p → Answers
      by_fault zero e = in_room (room m.limit (held m.tree)) e
      by_fault (suc f) e = absurd (clash (cc))
  departed_pop popping p e = (refl, by_pop (pop m.tree) e)
    where
      by_pop : (o : Option (P × PTree P)) → (serve_pop m o).0 ≡ departed p → (u : PTree P) × (o ≡ some (p, u))
      by_pop none e = absurd (clash (cc))
      by_pop (some (q, u)) e = (u, ap (λ (x : P). some (x, u)) (cc))

  -- A call is refused by no number above 16, and by 15 exactly where the answer is `full`.
  abbrev Numbered : Answer P → Type 0
  Numbered a = (number_of a ≤ 16) × (full_by a ≡ times 15 (number_of a ∷ []))

  numbered : (c : Call P) → Numbered (serve m c).0
  numbered (pushing ss l p) = by_fault (path_fault m.topology ss) (fault-number m.topology ss)
    where
      in_room : (b : Bool) → Numbered (serve_room (cond b 15 0) m ss l p).0
      in_room true = (omega arith, refl)
      in_room false = (omega arith, refl)

      at_fault : (f : ℕ) → (f ≡ 13) ⊎ (f ≡ 14) → (f ≤ 16) × (0 ≡ times 15 (f ∷ []))
      at_fault f (inl e) = rw e (omega arith, refl)
      at_fault f (inr e) = rw e (omega arith, refl)

      by_fault : (f : ℕ) → (f ≡ 0) ⊎ ((f ≡ 13) ⊎ (f ≡ 14)) → Numbered (serve_path f m ss l p).0
      by_fault zero h = in_room (leb m.limit (held m.tree))
      by_fault (suc f) (inl h) = absurd (omega arith)
      by_fault (suc f) (inr h) = at_fault (suc f) h
  numbered popping = by_pop (pop m.tree)
    where
      by_pop : (o : Option (P × PTree P)) → Numbered (serve_pop m o).0
      by_pop none = (omega arith, refl)
      by_pop (some (p, u)) = (omega arith, refl)

  pub serve_most : (c : Call P) → number_of (serve m c).0 ≤ 16
  serve_most c = (numbered c).0

  -- The number has at most two digits, and is never 18.
  pub serve-number : (c : Call P) → number_of (serve m c).0 ≤ 99
  serve-number c = omega (arith, serve_most c)

  pub never_18 : (c : Call P) → number_of (serve m c).0 ≢ 18
  never_18 c e = omega (arith, serve_most c)

  pub full_15 : (c : Call P) → full_by (serve m c).0 ≡ times 15 (number_of (serve m c).0 ∷ [])
  full_15 c = (numbered c).1

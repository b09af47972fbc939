-- Virtual times after a pop. At a node that acts as weighted and at which the pop took a rank, the time is that rank (`time_taken`). It stays at a
-- node where the pop took none (`time_untaken`), at a node that does not act as weighted (`time_unweighted`), and so at a passed node
-- (`passed_time`). Only ranks at kept nodes of the drawing matter (`times_same`).
use mathlib.Core.Path.{◌≡◌, refl, ap, ap₂, ◌∙◌}
use mathlib.Core.Logic.{◌≢◌}
use Prim.Native.Nat.{ℕ, zero, suc, ◌+◌, ◌<◌}
use native.Mathlib.Nat.{add-zero, zero-add, not-suc-le-zero, le_of_suc-le-suc}
use native.Mathlib.Omega.{arith}
use mathlib.Core.List.{List, [], ◌∷◌}
use mathlib.Core.Bool.{Bool, true, false, ◌&&◌, cond}
use mathlib.Core.Option.{Option, none, some}
use lib.ListN.{length, get_or}
use lib.Dec.{eqb, ltb}
use borrow.Author.Tests.{eqb-true, ltb-true, lt-ltb, ne_eqb}
use Rattle.std.proofs.lemmas.Bool.{and_parts}
use Rattle.topology.specs.Tree.{Topo, width, size}
use Rattle.topology.specs.Address.{subtree}
use Rattle.pifo_model.specs.Queue.{Rank}
use Rattle.discipline_model.specs.Figure.{weighted, kind_at, acts_at, virtual_at, keeps_time, last_of, times_after, after_pop}
use Rattle.discipline_model.specs.declared.Rule.{Rule}
use Rattle.discipline_model.specs.declared.Disciplines.{Disciplines}
use Rattle.discipline_model.proofs.ActsAt.{acts_passed}

-- the time at place i of the list of times from node n on
time_from : (t : Topo) (rules : List Rule) (at : ℕ → Option Rank) (n i : ℕ) (vs : List Rank) → i < length vs
    → let v = get_or vs i 0 in get_or (times_after t rules at n vs) i 0 ≡ cond (keeps_time t rules (n + i)) (last_of (at (n + i)) v) v
time_from t rules at n i [] l = absurd (not-suc-le-zero l)
time_from t rules at n zero (v ∷ vs) l = rw (add-zero n)
time_from t rules at n (suc i) (v ∷ vs) l =
    let e : suc n + i ≡ n + suc i = omega arith in
    rw e at (time_from t rules at (suc n) i vs (le_of_suc-le-suc l))

module _ (t : Topo) (d : Disciplines) (at : ℕ → Option Rank) (n : ℕ) (l : n < length d.virtual_time) where
  time_at : virtual_at (after_pop t d at) n ≡ cond (keeps_time t d.rules n) (last_of (at n) (virtual_at d n)) (virtual_at d n)
  time_at = rw (zero-add n) at (time_from t d.rules at 0 n d.virtual_time l)

  pub time_taken : n < size t → acts_at t d.rules n ≡ weighted → (r : Rank) → at n ≡ some r → virtual_at (after_pop t d at) n ≡ r
  time_taken h w r e = time_at ∙ rw (lt-ltb n (size t) h, w, e)

  pub time_untaken : at n ≡ none → virtual_at (after_pop t d at) n ≡ virtual_at d n
  time_untaken e = time_at ∙ rw e (by_test (keeps_time t d.rules n))
    where
      by_test : (b : Bool) → cond b (virtual_at d n) (virtual_at d n) ≡ virtual_at d n
      by_test true = refl
      by_test false = refl

  pub time_unweighted : acts_at t d.rules n ≢ weighted → virtual_at (after_pop t d at) n ≡ virtual_at d n
  time_unweighted w = time_at ∙ by_node (ltb n (size t))
    where
      by_node : (b : Bool) → cond (b && eqb (acts_at t d.rules n) weighted) (last_of (at n) (virtual_at d n)) (virtual_at d n) ≡ virtual_at d n
      by_node true = rw (ne_eqb (acts_at t d.rules n) weighted w)
      by_node false = refl

  pub passed_time : width (subtree t n) ≡ 1 → virtual_at (after_pop t d at) n ≡ virtual_at d n
  passed_time one =
      let idle = acts_passed (width (subtree t n)) (kind_at d.rules n) one in
      time_unweighted (λ w. omega (arith, w, idle))

module _ (t : Topo) (rules : List Rule) where
  -- a node that keeps a virtual time is a kept node of the drawing
  pub keeps_kept : (n : ℕ) → keeps_time t rules n ≡ true → (n < size t) × (width (subtree t n) ≢ 1)
  keeps_kept n e =
      let b = and_parts (ltb n (size t)) (eqb (acts_at t rules n) weighted) e in
      let acts = eqb-true (acts_at t rules n) weighted b.1 in
      (ltb-true n (size t) b.0, λ one. omega (arith, acts, acts_passed (width (subtree t n)) (kind_at rules n) one))

  pub times_same : (f g : ℕ → Option Rank) → ((n : ℕ) → n < size t → width (subtree t n) ≢ 1 → f n ≡ g n) → (n : ℕ) (vs : List Rank)
      → times_after t rules f n vs ≡ times_after t rules g n vs
  times_same f g h n [] = refl
  times_same f g h n (v ∷ vs) =
      ap₂ (λ (x : Rank) (xs : List Rank). x ∷ xs) (by_node (keeps_time t rules n) refl) (times_same f g h (suc n) vs)
    where
      by_node : (b : Bool) → keeps_time t rules n ≡ b → cond b (last_of (f n) v) v ≡ cond b (last_of (g n) v) v
      by_node true e = let k = keeps_kept n e in ap (λ (r : Option Rank). last_of r v) (h n k.0 k.1)
      by_node false e = refl

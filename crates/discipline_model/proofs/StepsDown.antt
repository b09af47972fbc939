-- The path that disciplines give to a leaf is the way to it and has no fault (`steps_valid`). At a node on the way it enters the node's rank: Figure
-- 1's start if the node acts as weighted (`rank_start`), the packet's class if it acts as strict (`rank_class`), 0 if it acts by arrival
-- (`rank_arrival`). At a passed node the rank is 0, whatever the rule (`passed_rank`).
use mathlib.Core.Path.{◌≡◌, refl}
use Prim.Native.Nat.{ℕ, ◌<◌}
use mathlib.Core.List.{[], ◌∷◌, ◌++◌}
use mathlib.Core.Bool.{true}
use mathlib.Core.Option.{some}
use lib.Dec.{eqb, ltb}
use borrow.Author.Tests.{ltb-true, eqb-true, eq-eqb}
use Rattle.std.proofs.lemmas.Bool.{and_parts}
use Rattle.topology.specs.Tree.{Topo, width, size}
use Rattle.topology.specs.Address.{Addr, child, In, sub, addr, subtree, child_of}
use Rattle.topology.proofs.Numbering.{addr_in}
use Rattle.pifo_model.specs.Queue.{Rank, entry, child as child_item}
use Rattle.pifo_model.specs.Tree.{path_fault}
use Rattle.pifo_model.specs.Addressed.{along}
use Rattle.pifo_model.proofs.PathFault.{end_fault, step_fault}
use Rattle.discipline_model.specs.Figure.{arrival, strict, weighted, kind_at, acts_at, rank_by, start, steps_down}
use Rattle.discipline_model.specs.Scheduler.{is_leaf}
use Rattle.discipline_model.specs.declared.Disciplines.{Disciplines}
use Rattle.discipline_model.proofs.ActsAt.{acts_passed}
use Rattle.discipline_model.proofs.Route.{OnWay, way_on, way_ind}

module _ (t : Topo) where
  pub leaf_there : (n : ℕ) → is_leaf t n ≡ true → (n < size t) × (width (subtree t n) ≡ 0)
  leaf_there n h =
      let b = and_parts (ltb n (size t)) (eqb (width (subtree t n)) 0) h in
      (ltb-true n (size t) b.0, eqb-true (width (subtree t n)) 0 b.1)

  module _ (d : Disciplines) (class : ℕ) where
    -- down to a leaf of any tree u: the children that the steps name are those of the address
    down_valid : (u : Topo) (n : ℕ) (a : Addr) → In u a → width (sub u a) ≡ 0 → path_fault u (steps_down t d class n a) ≡ 0
    down_valid u n [] h e = end_fault u e
    down_valid u n (i ∷ a) (p, q, h) e =
        let c = child_of t n i in
        step_fault u i (rank_by (acts_at t d.rules n) (start d n c) class) (steps_down t d class c a)
        record { low = p; high = q; rest = down_valid (child u i) c a h e }

    pub steps_valid : (leaf : ℕ) → is_leaf t leaf ≡ true → path_fault t (steps_down t d class 0 (addr t leaf)) ≡ 0
    steps_valid leaf h =
        let l = leaf_there leaf h in
        down_valid t 0 (addr t leaf) (addr_in t leaf l.0) l.1

    -- what the path enters at a node on the way
    module _ {P : Type 0} (last : Rank) (p : P) (leaf n i : ℕ) (w : OnWay t leaf n i) where
      abbrev Enters : Rank → Type 0
      Enters r = along (steps_down t d class 0 (addr t leaf)) last p (addr t n) ≡ some (entry r (child_item i))

      rank_entered : Enters (rank_by (acts_at t d.rules n) (start d n (child_of t n i)) class)
      rank_entered =
          rw (way_on t leaf n i w)
          (way_ind t n w.has.0
          (λ (m : ℕ) (b : Addr). along (steps_down t d class m (b ++ (i ∷ w.above.0))) last p b
          ≡ some (entry (rank_by (acts_at t d.rules n) (start d n (child_of t n i)) class) (child_item i)))
          refl (λ m j b on below. rw (eq-eqb j j refl) below))

      pub rank_start : acts_at t d.rules n ≡ weighted → Enters (start d n (child_of t n i))
      rank_start k = rw k at rank_entered

      pub rank_class : acts_at t d.rules n ≡ strict → Enters class
      rank_class k = rw k at rank_entered

      pub rank_arrival : acts_at t d.rules n ≡ arrival → Enters 0
      rank_arrival k = rw k at rank_entered

      pub passed_rank : width (subtree t n) ≡ 1 → Enters 0
      passed_rank one = rank_arrival (acts_passed (width (subtree t n)) (kind_at d.rules n) one)

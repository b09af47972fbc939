-- PIFO trees by node number: the queues as a function of the node's number in preorder, and what push and pop do to each of them.
-- `proofs/Numbered.antt` shows that these agree with push and pop in `Tree.antt`.
use Rattle.std.specs.Prelude.{ℕ, zero, suc, ◌+◌, List, [], ◌∷◌, cond, eqb, ltb}
use Rattle.std.proofs.Math.Option.{Option, none, some}
use Rattle.base.specs.Tests.{is_in}
use Rattle.topology.specs.Tree.{Topo, kids, width}
use Rattle.topology.specs.Address.{nth, ahead}
use Rattle.pifo_model.specs.Queue.{Entry, child, packet, entry, insert_some}
use Rattle.pifo_model.specs.Tree.{Step, step}
use Rattle.pifo_model.specs.Assembled.{Queues}

-- the number of child i + 1 of the root of t, if that root is node k
abbrev pub kid_at : Topo → ℕ → ℕ → ℕ
kid_at t k i = suc (k + ahead (kids t) i)

module _ {P : Type 0} where
  -- the entry that a push along the path enters at node m, if any
  abbrev pub entered : Topo → ℕ → List Step → ℕ → P → ℕ → Option (Entry P)
  entered t k [] l p m = cond (eqb k m) (some (entry l (packet p))) none
  entered t k (step zero r ∷ ss) l p m = none
  entered t k (step (suc i) r ∷ ss) l p m =
      cond (eqb k m) (some (entry r (child (suc i)))) (entered (nth (kids t) i) (kid_at t k i) ss l p m)

  abbrev pub pushed : Topo → ℕ → List Step → ℕ → P → Queues P → Queues P
  pushed t k ss l p q m = insert_some (entered t k ss l p m) (q m)

  -- The way of a pop from node k down, through at most `left` nodes: the packet that departs, and the nodes on the way.
  abbrev pub through : ℕ → Option (P × List ℕ) → Option (P × List ℕ)
  through k none = none
  through k (some (p, ns)) = some (p, k ∷ ns)

  abbrev pub descent_by : List (Entry P) → ℕ → ℕ → (ℕ → Option (P × List ℕ)) → Option (P × List ℕ)
  descent_by [] w k below = none
  descent_by (entry r (packet p) ∷ q) w k below = some (p, k ∷ [])
  descent_by (entry r (child zero) ∷ q) w k below = none
  descent_by (entry r (child (suc i)) ∷ q) w k below = cond (ltb i w) (through k (below i)) none

  abbrev pub descent : ℕ → Topo → ℕ → Queues P → Option (P × List ℕ)
  descent zero t k q = none
  descent (suc left) t k q = descent_by (q k) (width t) k (λ i. descent left (nth (kids t) i) (kid_at t k i) q)

  -- a queue without its head; and the queues after a pop has taken the heads at the given nodes
  abbrev pub rest : List (Entry P) → List (Entry P)
  rest [] = []
  rest (e ∷ q) = q

  abbrev pub popped : List ℕ → Queues P → Queues P
  popped ns q m = cond (is_in m ns) (rest (q m)) (q m)

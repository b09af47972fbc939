-- PIFO trees by address: the queue at each address, and the entry that a push along a path enters there.
use Rattle.std.specs.Prelude.{ℕ, zero, suc, List, [], ◌∷◌, cond, eqb}
use Rattle.std.proofs.Math.Option.{Option, none, some}
use Rattle.topology.specs.Address.{Addr}
use Rattle.pifo_model.specs.Queue.{Entry, child, packet, entry}
use Rattle.pifo_model.specs.Tree.{Step, step, PTree, PForest, pnode, pnil, pcons}

module _ {P : Type 0} where
  -- the queue of the node at an address; empty if there is no node
  abbrev mutual
    pub queue_at : PTree P → Addr → List (Entry P)
    queue_at (pnode q ts) [] = q
    queue_at (pnode q ts) (zero ∷ a) = []
    queue_at (pnode q ts) (suc i ∷ a) = queue_in ts i a

    pub queue_in : PForest P → ℕ → Addr → List (Entry P)
    queue_in pnil i a = []
    queue_in (pcons t ts) zero a = queue_at t a
    queue_in (pcons t ts) (suc i) a = queue_in ts i a

  -- the entry that a push along a path enters at an address, if the path leads there
  abbrev pub along : List Step → ℕ → P → Addr → Option (Entry P)
  along [] l p [] = some (entry l (packet p))
  along [] l p (j ∷ a) = none
  along (step i r ∷ ss) l p [] = some (entry r (child i))
  along (step i r ∷ ss) l p (j ∷ a) = cond (eqb i j) (along ss l p a) none

  -- an entry, if there is one, at the head of a queue
  abbrev pub atop : Option (Entry P) → List (Entry P) → List (Entry P)
  atop none q = q
  atop (some e) q = e ∷ q

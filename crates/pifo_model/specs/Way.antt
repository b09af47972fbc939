-- The way of a pop: for each node that it visits, from the root down, the child and the rank of the entry that it takes there.
use Rattle.std.specs.Prelude.{ℕ, zero, suc, ◌+◌, List, [], ◌∷◌, cond, eqb}
use Rattle.std.proofs.Math.Option.{Option, none, some}
use Rattle.topology.specs.Tree.{size}
use Rattle.topology.specs.Address.{Addr}
use Rattle.pifo_model.specs.Queue.{Rank, Entry, child, packet, entry}
use Rattle.pifo_model.specs.Tree.{PTree, PForest, pnode, pnil, pcons, shape}
use Rattle.pifo_model.specs.Assembled.{Queues}

-- a node, the child that the entry taken there names (0 at a leaf), and the rank of that entry
pub data Taken : Type 0 where
  taken : ℕ → ℕ → Rank → Taken

module _ {P : Type 0} where
  -- the heads that a pop takes by Definition 3.4; the root is node k, and the nodes below it follow in preorder
  abbrev mutual
    pub way : PTree P → ℕ → List Taken
    way (pnode [] ts) k = []
    way (pnode (entry r (packet p) ∷ q) ts) k = taken k 0 r ∷ []
    way (pnode (entry r (child i) ∷ q) ts) k = taken k i r ∷ way_within ts i (suc k)

    pub way_within : PForest P → ℕ → ℕ → List Taken
    way_within pnil i k = []
    way_within (pcons t ts) zero k = []
    way_within (pcons t ts) (suc zero) k = way t k
    way_within (pcons t ts) (suc (suc i)) k = way_within ts (suc i) (k + size (shape t))

  -- the entry that a pop takes at an address, if its way leads there
  abbrev mutual
    pub takes : PTree P → Addr → Option (Entry P)
    takes (pnode [] ts) a = none
    takes (pnode (e ∷ q) ts) [] = some e
    takes (pnode (entry r (packet p) ∷ q) ts) (j ∷ a) = none
    takes (pnode (entry r (child i) ∷ q) ts) (j ∷ a) = cond (eqb i j) (takes_in ts i a) none

    pub takes_in : PForest P → ℕ → Addr → Option (Entry P)
    takes_in pnil i a = none
    takes_in (pcons t ts) zero a = none
    takes_in (pcons t ts) (suc zero) a = takes t a
    takes_in (pcons t ts) (suc (suc i)) a = takes_in ts (suc i) a

  -- an entry that is taken at node n
  abbrev pub taken_at : ℕ → Entry P → Taken
  taken_at n (entry r (packet p)) = taken n 0 r
  taken_at n (entry r (child i)) = taken n i r

  -- the head of a queue, taken at node n; and the head of the queue of node n
  abbrev pub head_taken : ℕ → List (Entry P) → Taken
  head_taken n [] = taken n 0 0
  head_taken n (e ∷ es) = taken_at n e

  abbrev pub head_at : Queues P → ℕ → Taken
  head_at q n = head_taken n (q n)

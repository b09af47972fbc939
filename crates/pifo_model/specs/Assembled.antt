-- A PIFO tree put together from its queues, one for each node number.
use Rattle.std.specs.Prelude.{ℕ, suc, ◌+◌, List}
use Rattle.topology.specs.Tree.{Topo, Forest, node, fnil, fcons, size}
use Rattle.pifo_model.specs.Queue.{Entry}
use Rattle.pifo_model.specs.Tree.{PTree, PForest, pnode, pnil, pcons}

-- a queue for each node number
abbrev pub Queues : Type 0 → Type 0
Queues P = ℕ → List (Entry P)

module _ {P : Type 0} where
  -- the tree with the given queues, its root being node k
  abbrev mutual
    pub assemble : Topo → Queues P → ℕ → PTree P
    assemble (node ts) q k = pnode (q k) (assemble_all ts q (suc k))

    pub assemble_all : Forest → Queues P → ℕ → PForest P
    assemble_all fnil q k = pnil
    assemble_all (fcons t ts) q k = pcons (assemble t q k) (assemble_all ts q (k + size t))

-- PIFO trees: Definitions 3.3 to 3.6 and 3.8 of document 001, over any type of packets.
use Rattle.std.specs.Prelude.{ℕ, zero, suc, List, [], ◌∷◌, ◌++◌, Bool, true, ◌&&◌, cond, length, eqb, leb}
use Rattle.std.proofs.Math.Option.{Option, none, some}
use Rattle.topology.specs.Tree.{Topo, Forest, node, fnil, fcons, count, width}
use Rattle.topology.specs.Address.{child as child_tree}
use Rattle.pifo_model.specs.Queue.{Rank, Entry, child, packet, entry, insert, rises_from, allowed, every, occurs}

-- one step of a path: a child number and a rank
pub data Step : Type 0 where
  step : ℕ → Rank → Step

-- The fault of a path's steps in a tree: 13 if a step names a child that the node lacks, 14 if they end above a leaf, else 0.
abbrev pub path_fault : Topo → List Step → ℕ
path_fault t [] = cond (eqb (width t) 0) 0 14
path_fault t (step i r ∷ ss) =
    let rest = path_fault (child_tree t i) ss in cond (leb 1 i && leb i (width t)) rest 13

mutual
  pub data PTree (P : Type 0) : Type 0 where
    pnode : List (Entry P) → PForest P → PTree P

  pub data PForest (P : Type 0) : Type 0 where
    pnil : PForest P
    pcons : PTree P → PForest P → PForest P

module _ {P : Type 0} where
  -- the topology of a tree
  abbrev mutual
    pub shape : PTree P → Topo
    shape (pnode q ts) = node (shapes ts)

    pub shapes : PForest P → Forest
    shapes pnil = fnil
    shapes (pcons t ts) = fcons (shape t) (shapes ts)

  -- the tree with all queues empty
  abbrev mutual
    pub empty : Topo → PTree P
    empty (node ts) = pnode [] (empties ts)

    pub empties : Forest → PForest P
    empties fnil = pnil
    empties (fcons t ts) = pcons (empty t) (empties ts)

  -- Definition 3.6: a push enters, at each node on the path, the step's child with its rank, and at the leaf the packet with the leaf rank
  abbrev mutual
    pub push : PTree P → List Step → ℕ → P → PTree P
    push (pnode q ts) [] l p = pnode (insert (entry l (packet p)) q) ts
    push (pnode q ts) (step i r ∷ ss) l p = pnode (insert (entry r (child i)) q) (push_at ts i ss l p)

    pub push_at : PForest P → ℕ → List Step → ℕ → P → PForest P
    push_at pnil i ss l p = pnil
    push_at (pcons t ts) zero ss l p = pcons t ts
    push_at (pcons t ts) (suc zero) ss l p = pcons (push t ss l p) ts
    push_at (pcons t ts) (suc (suc i)) ss l p = pcons t (push_at ts (suc i) ss l p)

  -- Definition 3.4: a pop takes the head of the root's queue and goes on at the child that it names, until the head is a packet, at a leaf
  abbrev pub with_queue : List (Entry P) → Option (P × PForest P) → Option (P × PTree P)
  with_queue q none = none
  with_queue q (some (p, ts)) = some (p, pnode q ts)

  abbrev pub with_later : PForest P → Option (P × PTree P) → Option (P × PForest P)
  with_later ts none = none
  with_later ts (some (p, t)) = some (p, pcons t ts)

  abbrev pub with-elder : PTree P → Option (P × PForest P) → Option (P × PForest P)
  with-elder t none = none
  with-elder t (some (p, ts)) = some (p, pcons t ts)

  abbrev mutual
    pub pop : PTree P → Option (P × PTree P)
    pop (pnode [] ts) = none
    pop (pnode (entry r (packet p) ∷ q) ts) = some (p, pnode q ts)
    pop (pnode (entry r (child i) ∷ q) ts) = with_queue q (pop_at ts i)

    pub pop_at : PForest P → ℕ → Option (P × PForest P)
    pop_at pnil i = none
    pop_at (pcons t ts) zero = none
    pop_at (pcons t ts) (suc zero) = with_later ts (pop t)
    pop_at (pcons t ts) (suc (suc i)) = with-elder t (pop_at ts (suc i))

  -- the packets of a queue
  abbrev pub packets_of : List (Entry P) → List P
  packets_of [] = []
  packets_of (entry r (packet p) ∷ q) = p ∷ packets_of q
  packets_of (entry r (child i) ∷ q) = packets_of q

  -- the queue of a leaf; empty for an inner node
  abbrev pub leaf_queue : List (Entry P) → PForest P → List (Entry P)
  leaf_queue q pnil = q
  leaf_queue q (pcons t ts) = []

  -- the packets in the queues of the leaves
  abbrev mutual
    pub packets : PTree P → List P
    packets (pnode q ts) = packets_of (leaf_queue q ts) ++ packets_in ts

    pub packets_in : PForest P → List P
    packets_in pnil = []
    packets_in (pcons t ts) = packets t ++ packets_in ts

  -- |q| of Definition 3.8: how many packets a tree holds
  abbrev pub held : PTree P → ℕ
  held t = length (packets t)

  -- Well-formed trees, Definition 3.8 with paper 01's further clauses: ranks never fall in a queue; leaves hold packets only, inner nodes only
  -- their own child numbers; and at each inner node child i occurs as often as there are packets under child i (`counted`, from child k on).
  abbrev pub counted : List (Entry P) → ℕ → PForest P → Bool
  counted q k pnil = true
  counted q k (pcons t ts) = eqb (occurs k q) (held t) && counted q (suc k) ts

  abbrev mutual
    pub well : PTree P → Bool
    well (pnode q ts) = rises_from 0 q && every (allowed (count (shapes ts))) q && counted q 1 ts && wells ts

    pub wells : PForest P → Bool
    wells pnil = true
    wells (pcons t ts) = well t && wells ts

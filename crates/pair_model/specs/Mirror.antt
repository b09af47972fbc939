-- When a chip's tree mirrors a source's tree: the queues of all its nodes are what carrying every source entry over gives (the lifted tree of
-- Definition 5.4, document 001).
--
-- Each target node has one owner, the lowest source node whose image is that target node or lies above it. The target node's queue is the owner's
-- queue with each entry lifted: the child number becomes the child toward that child's image, with the same rank, and entries of children whose image
-- does not lie below the target node are left out. So a node that is no image and lies above none has an empty queue. Packets are at leaves, and a
-- leaf owns its image alone. A node that is passed over owns nothing, since its child has the same image.
use Rattle.std.specs.Prelude.{◌≡◌, ℕ, List, [], ◌∷◌, ◌++◌, cond, replicate, eqb}
use Rattle.std.proofs.Math.Option.{Option, none, some}
use Rattle.topology.specs.Tree.{Topo}
use Rattle.topology.specs.Address.{Addr, In, Above}
use Rattle.pifo_model.specs.Queue.{Entry, child, packet, entry}
use Rattle.pifo_model.specs.Tree.{PTree, held}
use Rattle.pifo_model.specs.Addressed.{queue_at, atop}

-- the child number from one address toward another that lies below it
abbrev pub toward : Addr → Addr → Option ℕ
toward [] [] = none
toward [] (j ∷ b) = some j
toward (x ∷ a) [] = none
toward (x ∷ a) (y ∷ b) = cond (eqb x y) (toward a b) none

-- The node at source address b owns the one at target address a.
pub record Owns (S : Topo) (F : Addr → Addr) (b a : Addr) : Type 0 where
  pub covers : Above (F b) a
  pub lowest : (i : ℕ) → In S (b ++ (i ∷ [])) → Above (F (b ++ (i ∷ []))) a → ⊥

module _ {P : Type 0} where
  abbrev pub ranked : ℕ → Option ℕ → Option (Entry P)
  ranked r none = none
  ranked r (some j) = some (entry r (child j))

  -- the lift of an entry: the entry of the source node at b as it appears at the target node at a, if it does
  abbrev pub lift : (Addr → Addr) → Addr → Addr → Entry P → Option (Entry P)
  lift F b a (entry r (child i)) = ranked r (toward a (F (b ++ (i ∷ []))))
  lift F b a (entry r (packet p)) = some (entry r (packet p))

  -- the lifts of the entries of a queue, in their order
  abbrev pub lifted : (Entry P → Option (Entry P)) → List (Entry P) → List (Entry P)
  lifted f [] = []
  lifted f (e ∷ q) = atop (f e) (lifted f q)

  pub record Mirrors (S T : Topo) (F : Addr → Addr) (s t : PTree P) : Type 0 where
    pub queues : (b a : Addr) → In S b → In T a → Owns S F b a → queue_at t a ≡ lifted (lift F b a) (queue_at s b)
    -- a node above the image of the top kept node has an entry of rank 0 toward it for each packet held
    pub over : (a : Addr) (j : ℕ) (d : Addr) → F [] ≡ a ++ (j ∷ d) → queue_at t a ≡ replicate (held s) (entry 0 (child j))
    -- a node that neither lies above that image, nor is it, nor lies below it has an empty queue
    pub off : (c : Addr) (x y : ℕ) (d e : Addr) → (x ≡ y → ⊥) → F [] ≡ c ++ (y ∷ e) → queue_at t (c ++ (x ∷ d)) ≡ []

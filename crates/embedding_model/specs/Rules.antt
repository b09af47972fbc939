-- The four rules of a map between two trees (paper 01, changed by paper 02, 2.2), and the order of lists. A map gives an embedding (Definition 5.2 of
-- document 001) by node numbers.
use Rattle.std.specs.Prelude.{◌≡◌, ◌↔◌, ◌⊎◌, ◌≢◌, ℕ, ◌<◌, List, [], ◌∷◌, length, get_or}
use Rattle.topology.specs.Tree.{Topo, width, size}
use Rattle.topology.specs.Address.{Above, addr, subtree}
use Rattle.topology_reduction.specs.Kept.{Kept, top}
use Rattle.topology_reduction.specs.Reduced.{passed_over}

-- the image of source node a (paper 01): the number at place a of the list m
abbrev pub image : List ℕ → ℕ → ℕ
image m a = get_or m a 0

-- A list passes as a map: it gives one target node for each kept node and 255 for each passed one, and breaks none of the rules. So it is an
-- embedding of the reduced drawing into the target.
pub record Passes (source target : Topo) (m : List ℕ) : Type 0 where
  pub long : length m ≡ size source
  pub passed : (a : ℕ) → a < size source → width (subtree source a) ≡ 1 → image m a ≡ passed_over
  pub within : (a : ℕ) → a < size source → Kept source a → image m a < size target
  -- rule 1: two kept nodes never have the same image
  pub once : (a b : ℕ) → a < size source → b < size source → Kept source a → Kept source b → image m a ≡ image m b → a ≡ b
  -- rule 2: the top kept node goes to the root, unless it is a leaf, which is then the only kept node
  pub root : width (subtree source (top source)) ≢ 0 → image m (top source) ≡ 0
  -- rule 3: a leaf goes to a leaf
  pub leaf : (a : ℕ) → a < size source → width (subtree source a) ≡ 0 → width (subtree target (image m a)) ≡ 0
  -- rule 4: for any two kept nodes, the first is the second or lies above it if and only if the same holds of their images
  pub order : (a b : ℕ) → a < size source → b < size source → Kept source a → Kept source b
      → (Above (addr source a) (addr source b) ↔ Above (addr target (image m a)) (addr target (image m b)))

-- The same for a drawing without passed nodes, such as a reduced drawing, for the check and the search. `embeds_passes` and `passes_reduced` in
-- proofs/Passes relate the two.
pub record Embeds (drawing target : Topo) (m : List ℕ) : Type 0 where
  pub long : length m ≡ size drawing
  pub within : (a : ℕ) → a < size drawing → image m a < size target
  pub once : (a b : ℕ) → a < size drawing → b < size drawing → image m a ≡ image m b → a ≡ b
  pub root : width drawing ≢ 0 → image m 0 ≡ 0
  pub leaf : (a : ℕ) → a < size drawing → width (subtree drawing a) ≡ 0 → width (subtree target (image m a)) ≡ 0
  pub order : (a b : ℕ) → a < size drawing → b < size drawing
      → (Above (addr drawing a) (addr drawing b) ↔ Above (addr target (image m a)) (addr target (image m b)))

-- One list comes before another of the same length: it has the smaller number at the first difference. Two lists that pass differ only at kept
-- nodes.
abbrev pub Before : List ℕ → List ℕ → Type 0
Before [] ys = ⊥
Before (x ∷ xs) [] = ⊥
Before (x ∷ xs) (y ∷ ys) = (x < y) ⊎ ((x ≡ y) × Before xs ys)

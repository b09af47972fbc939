-- Placings of the children of one source node below one target node, for the dynamic program of the search. A set of children is placed on pairwise
-- unrelated target nodes: of any two, the branch of one ends, in preorder, before the branch of the other begins.
use Rattle.std.specs.Prelude.{◌≡◌, ◌⊎◌, ◌≢◌, ℕ, ◌≤◌, ◌<◌, List, Bool, true, false, length, get_or}
use Rattle.embedding_program.specs.InnerSets.{pack, no_images}

-- place i is in the set
abbrev pub Member : List Bool → ℕ → Type 0
Member bs i = get_or bs i false ≡ true

-- A placing: the list gives each child in the set a target node from p to hi - 1, and 0 for the other children. `can i x` says that the child at
-- place i may go to node x, and `end x` is where x's branch ends.
pub record Placed (can : ℕ → ℕ → Type 0) (end : ℕ → ℕ) (hi : ℕ) (bs : List Bool) (p : ℕ) (ys : List ℕ) : Type 0 where
  pub long : length ys ≡ length bs
  pub off : (i : ℕ) → get_or bs i false ≡ false → get_or ys i 0 ≡ 0
  pub from : (i : ℕ) → Member bs i → p ≤ get_or ys i 0
  pub to : (i : ℕ) → Member bs i → get_or ys i 0 < hi
  pub may : (i : ℕ) → Member bs i → can i (get_or ys i 0)
  pub apart : (i j : ℕ) → Member bs i → Member bs j → i ≢ j
      → (end (get_or ys i 0) ≤ get_or ys j 0) ⊎ (end (get_or ys j 0) ≤ get_or ys i 0)

-- v is the least number of a placing, or at least `no_images` if there is none.
pub record Least (can : ℕ → ℕ → Type 0) (end : ℕ → ℕ) (hi : ℕ) (bs : List Bool) (p v : ℕ) : Type 0 where
  pub lower : (ys : List ℕ) → Placed can end hi bs p ys → v ≤ pack ys
  pub attained : v < no_images → (ys : List ℕ) × Placed can end hi bs p ys × (pack ys ≡ v)

-- The same before the places from i on are tried at p: placings with one of these children at p do not count yet.
pub record Partial (can : ℕ → ℕ → Type 0) (end : ℕ → ℕ) (hi : ℕ) (bs : List Bool) (p i v : ℕ) : Type 0 where
  pub lower : (ys : List ℕ) → Placed can end hi bs p ys → ((j : ℕ) → i ≤ j → Member bs j → get_or ys j 0 ≢ p) → v ≤ pack ys
  pub attained : v < no_images → (ys : List ℕ) × Placed can end hi bs p ys × (pack ys ≡ v)

-- c is at most the number of each placing in which the child at place i goes to p; and c is the number of a placing, unless it is at least
-- `no_images`.
pub record Offer (can : ℕ → ℕ → Type 0) (end : ℕ → ℕ) (hi : ℕ) (bs : List Bool) (p i c : ℕ) : Type 0 where
  pub lower : (ys : List ℕ) → Placed can end hi bs p ys → Member bs i → get_or ys i 0 ≡ p → c ≤ pack ys
  pub attained : c < no_images → (ys : List ℕ) × Placed can end hi bs p ys × (pack ys ≡ c)

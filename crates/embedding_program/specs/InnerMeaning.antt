-- What the search's table means for two trees: `best s t` is the least number of a placing of the children of s below t, where each child c goes to
-- a node x with `best c x` below `no_images`. And what it means to read a list of images from the table.
use Rattle.std.specs.Prelude.{◌≡◌, ◌≢◌, ℕ, zero, suc, ◌+◌, ◌-◌, ◌*◌, ◌≤◌, ◌<◌, List, Bool, true, length, get_or, replicate}
use Rattle.topology.specs.Tree.{Topo, width, size}
use Rattle.topology.specs.Address.{subtree, child_of}
use Rattle.embedding_model.specs.Rules.{image}
use Rattle.embedding_program.specs.InnerSets.{pack, digit, no_images}
use Rattle.embedding_program.specs.InnerPlacing.{Placed}
use Rattle.embedding_program.specs.InnerTables.{best_by, can_by, end_by}

-- one past the last node of a node's branch
abbrev pub end : Topo → ℕ → ℕ
end t n = n + size (subtree t n)

-- the child of node s at place j; places count from 0 at the last child
abbrev pub kid : Topo → ℕ → ℕ → ℕ
kid t s j = child_of t s (width (subtree t s) - j)

-- the set of all children of node s
abbrev pub full : Topo → ℕ → List Bool
full t s = replicate (width (subtree t s)) true

-- rule 3 at one node
abbrev pub Fits : Topo → Topo → ℕ → ℕ → Type 0
Fits S T s t = width (subtree S s) ≡ 0 → width (subtree T t) ≡ 0

abbrev pub PlacedAt : Topo → Topo → (ℕ → ℕ → ℕ) → ℕ → ℕ → List ℕ → Type 0
PlacedAt S T best s t ys = Placed (λ j x. best (kid S s j) x < no_images) (end T) (end T t) (full S s) (t + 1) ys

-- v is right as the table's entry for s and t. `fits s t` says that s may go to t: by rule 3, and by any other restriction on target nodes.
pub record BestEntry (S T : Topo) (fits : ℕ → ℕ → Type 0) (best : ℕ → ℕ → ℕ) (s t v : ℕ) : Type 0 where
  pub lower : fits s t → (ys : List ℕ) → PlacedAt S T best s t ys → v ≤ pack ys
  pub allowed : v < no_images → fits s t
  pub attained : v < no_images → (ys : List ℕ) × PlacedAt S T best s t ys × (pack ys ≡ v)

-- The table is right from source node n on; for the root only at the target's root, since rule 2 allows no other image.
abbrev pub TruthFor : Topo → Topo → (ℕ → ℕ → Type 0) → (ℕ → ℕ → ℕ) → ℕ → Type 0
TruthFor S T fits best n = (s t : ℕ) → n ≤ s → s < size S → t < size T → (s ≡ 0 → t ≡ 0) → BestEntry S T fits best s t (best s t)

abbrev pub Truth : Topo → Topo → (ℕ → ℕ → ℕ) → ℕ → Type 0
Truth S T best n = TruthFor S T (Fits S T) best n

-- a list of images read from the table
pub record ReadOff (S : Topo) (best : ℕ → ℕ → ℕ) (m : List ℕ) : Type 0 where
  pub long : length m ≡ size S
  pub root : image m 0 ≡ 0
  pub reads : (s j : ℕ) → s < size S → j < width (subtree S s) → image m (kid S s j) ≡ digit j (best s (image m s))

-- the same for the children of the source nodes before n, in 32 places, those past the last source node 0
pub record ReadTo (S : Topo) (best : ℕ → ℕ → ℕ) (n : ℕ) (m : List ℕ) : Type 0 where
  pub places : length m ≡ 32
  pub root : image m 0 ≡ 0
  pub reads : (s j : ℕ) → s < n → j < width (subtree S s) → image m (kid S s j) ≡ digit j (best s (image m s))
  pub zeros : (i : ℕ) → size S ≤ i → image m i ≡ 0

-- the children of source node s, by place
pub record KidsOf (S : Topo) (s : ℕ) (kids : List ℕ) : Type 0 where
  pub at : (j : ℕ) → j < width (subtree S s) → get_or kids j 0 ≡ kid S s j

-- The same by the code's tables, for a source node with the given children and a target node t with w children.
abbrev pub PlacedBy : List ℕ → List ℕ → List ℕ → ℕ → List ℕ → Type 0
PlacedBy best kids ends t ys = Placed (can_by best kids) (end_by ends) (end_by ends t) (replicate (length kids) true) (t + 1) ys

pub record EntryBy (best kids ends : List ℕ) (w t v : ℕ) : Type 0 where
  pub lower : (length kids ≡ 0 → w ≡ 0) → (ys : List ℕ) → PlacedBy best kids ends t ys → v ≤ pack ys
  pub fits : v < no_images → length kids ≡ 0 → w ≡ 0
  pub attained : v < no_images → (ys : List ℕ) × PlacedBy best kids ends t ys × (pack ys ≡ v)

-- an entry of the code's table is also at most `no_images`
pub record BestEntryBy (best kids ends : List ℕ) (w t v : ℕ) : Type 0 where
  pub bound : v ≤ no_images
  pub lower : (length kids ≡ 0 → w ≡ 0) → (ys : List ℕ) → PlacedBy best kids ends t ys → v ≤ pack ys
  pub fits : v < no_images → length kids ≡ 0 → w ≡ 0
  pub attained : v < no_images → (ys : List ℕ) × PlacedBy best kids ends t ys × (pack ys ≡ v)

-- how many of the n target nodes are tried as the image of a source node: for the root only the root
abbrev pub reach_by : ℕ → ℕ → ℕ
reach_by zero n = 1
reach_by (suc s) n = n

-- a source node's entries, by its children, for the target nodes from n to count - 1
pub record Entries (best kids ends target : List ℕ) (n count : ℕ) (row : List ℕ) : Type 0 where
  pub entries : (t : ℕ) → n ≤ t → t < count → BestEntryBy best kids ends (get_or target t 0) t (get_or row t 0)

-- the table `after` is `before` with the first `count` entries of a row for source node s
pub record RowPut (before : List ℕ) (s count : ℕ) (row after : List ℕ) : Type 0 where
  pub here : (t : ℕ) → t < count → best_by after s t ≡ get_or row t 0
  pub others : (i : ℕ) → (s + 1) * 64 ≤ i → get_or after i 0 ≡ get_or before i 0

-- `after` is `before` with the digits of v as the images of the k kids
pub record Put (kids : List ℕ) (k v : ℕ) (before after : List ℕ) : Type 0 where
  pub places : length after ≡ 32
  pub put : (j : ℕ) → j < k → get_or after (get_or kids j 0) 0 ≡ digit j v
  pub others : (i : ℕ) → ((j : ℕ) → j < k → i ≢ get_or kids j 0) → get_or after i 0 ≡ get_or before i 0

-- k different source nodes
pub record Different (kids : List ℕ) (k : ℕ) : Type 0 where
  pub few : k ≤ 8
  pub small : (j : ℕ) → j < k → get_or kids j 0 < 32
  pub apart : (i j : ℕ) → i < k → j < k → get_or kids i 0 ≡ get_or kids j 0 → i ≡ j

-- The tables of the search, as lists of numbers. `best` has 64 entries for each source node, one for each target node. `go` is for one source node
-- and one place hi at a time, at which a branch of the target ends: row q has 256 entries, one for each set of children, for the placings on the
-- nodes from q to hi - 1.
use Rattle.std.specs.Prelude.{◌≡◌, ℕ, ◌+◌, ◌*◌, ◌-◌, ◌/◌, ◌%◌, ◌≤◌, ◌<◌, min, List, Bool, true, cond, length, get_or, replicate, eqb}
use Rattle.topology.specs.Tree.{code}
use Rattle.topology.specs.Reader.{tree}
use Rattle.topology.specs.InnerEnds.{Ends}
use Rattle.embedding_program.specs.InnerSets.{number, no_images}
use Rattle.embedding_program.specs.InnerPlacing.{Least}

-- the entry for a source node and a target node
abbrev pub best_by : List ℕ → ℕ → ℕ → ℕ
best_by best s t = get_or best (s * 64 + t) 0

-- the child at place j may go to x
abbrev pub can_by : List ℕ → List ℕ → ℕ → ℕ → Type 0
can_by best kids j x = best_by best (get_or kids j 0) x < no_images

abbrev pub end_by : List ℕ → ℕ → ℕ
end_by ends x = get_or ends x 0

-- the entry of row q for the set with number n
abbrev pub cell : List ℕ → ℕ → ℕ → ℕ
cell go q n = get_or go (q * 256 + n) 0

abbrev pub LeastBy : List ℕ → List ℕ → List ℕ → ℕ → List Bool → ℕ → ℕ → Type 0
LeastBy best kids ends hi bs q v = Least (can_by best kids) (end_by ends) hi bs q v

-- row q holds the least placings on the nodes from q to hi - 1
abbrev pub Row : List ℕ → List ℕ → List ℕ → List ℕ → ℕ → ℕ → Type 0
Row best kids ends go q hi = (bs : List Bool) → length bs ≡ length kids → LeastBy best kids ends hi bs q (cell go q (number bs))

-- the rows from which row p is computed are right
pub record Ready (best kids ends go : List ℕ) (p hi : ℕ) : Type 0 where
  pub inside : p < hi
  pub grows : (x : ℕ) → x < hi → x < end_by ends x
  pub next : Row best kids ends go (p + 1) hi
  pub past : Row best kids ends go (end_by ends p) hi

-- the entry of row p for set n after the child of the given power is tried at p: `here` is the child's part of the number, and the other children
-- are placed from the end of p's branch on
unfoldable pub tried_by : List ℕ → ℕ → ℕ → ℕ → ℕ → ℕ → ℕ
tried_by go p end pow here n =
    let least = cell go p n in
    let other = here + cell go end (n - pow) in
    let less = min least other in
    cond (eqb (n / pow % 2) 0) least less

-- `pow` sets without the child of this power and `pow` sets with it alternate
pub record Alternation (sets pow : ℕ) : Type 0 where
  pub some : 0 < pow
  pub few : sets ≤ 256
  pub rounds : ℕ
  pub even : sets ≡ 2 * (rounds * pow)

-- row p with the child tried in the sets before n, and the rows after p unchanged
pub record RowTried (before : List ℕ) (p end pow here n : ℕ) (go : List ℕ) : Type 0 where
  pub unchanged : (i : ℕ) → (p + 1) * 256 ≤ i → get_or go i 0 ≡ get_or before i 0
  pub cells : (j : ℕ) → j < n → cell go p j ≡ tried_by before p end pow here j

-- row p is a copy of the next row, in the sets before n
pub record RowCopied (before : List ℕ) (p n : ℕ) (go : List ℕ) : Type 0 where
  pub unchanged : (i : ℕ) → (p + 1) * 256 ≤ i → get_or go i 0 ≡ get_or before i 0
  pub cells : (j : ℕ) → j < n → cell go p j ≡ cell before (p + 1) j

-- row p is filled in, and the rows after it are unchanged
pub record RowFilled (best kids ends before : List ℕ) (p : ℕ) (go : List ℕ) : Type 0 where
  pub unchanged : (i : ℕ) → (p + 1) * 256 ≤ i → get_or go i 0 ≡ get_or before i 0
  pub row : (hi : ℕ) → Ready best kids ends before p hi → Row best kids ends go p hi

-- the row at the end: only the empty set is placed there
pub record LastRow (hi sets : ℕ) (go : List ℕ) : Type 0 where
  pub empty : cell go hi 0 ≡ 0
  pub others : (n : ℕ) → 0 < n → n < sets → cell go hi n ≡ no_images

-- the rows from low to hi hold the least placings before hi; if hi is 0 there are none
pub record Scanned (best kids ends go : List ℕ) (low hi : ℕ) : Type 0 where
  pub some : 0 < hi → low ≤ hi
  pub rows : (q : ℕ) → low ≤ q → q ≤ hi → Row best kids ends go q hi

-- The row from which a scan goes down: the lowest row of the previous scan if that began at the same end, else the row at the end.
pub record Started (before : List ℕ) (low hi end sets p : ℕ) (go : List ℕ) : Type 0 where
  pub again : end ≡ hi → (p ≡ low) × (go ≡ before)
  pub anew : (end ≡ hi → ⊥) → (p ≡ end) × LastRow end sets go

-- the branch under t, by the table of ends
pub record BranchOf (ends : List ℕ) (t : ℕ) : Type 0 where
  pub here : t < end_by ends t
  pub grows : (x : ℕ) → x < end_by ends t → x < end_by ends x
  pub nested : (x : ℕ) → t < x → x < end_by ends t → end_by ends x ≤ end_by ends t

-- the same under each target node
abbrev pub Branches : List ℕ → List ℕ → Type 0
Branches ends target = (t : ℕ) → t < length target → BranchOf ends t

-- the least placing of all children below t
pub record PlacedBelow (best kids ends : List ℕ) (t : ℕ) (go : List ℕ) (v : ℕ) : Type 0 where
  pub bound : v ≤ no_images
  pub least : LeastBy best kids ends (end_by ends t) (replicate (length kids) true) (t + 1) v
  pub scanned : Scanned best kids ends go (t + 1) (end_by ends t)

-- the bytes draw a tree of at most `limit` nodes, with at most 8 children each
pub record TreeBytes (limit : ℕ) (bytes : List ℕ) : Type 0 where
  pub is : code (tree bytes) ≡ bytes
  pub some : 0 < length bytes
  pub fits : length bytes ≤ limit
  pub few : (n : ℕ) → get_or bytes n 0 ≤ 8

-- two trees and the tables of their branch ends
pub record TreePair (source target source_ends target_ends : List ℕ) : Type 0 where
  pub source_draws : TreeBytes 32 source
  pub target_draws : TreeBytes 64 target
  pub source_table : Ends source source_ends
  pub target_table : Ends target target_ends

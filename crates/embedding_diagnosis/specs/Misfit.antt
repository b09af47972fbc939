-- A branch of a drawing that fits nowhere on a chip, computed from the bytes of both trees. A branch by itself is a drawing, and a branch of the chip
-- is a chip, so that whether one fits the other is what the search of paper 01 answers for the two.
use Rattle.std.specs.Prelude.{◌≡◌, ◌≢◌, ℕ, ◌<◌, List, Bool, true, not, ◌&&◌, cond, length, get_or, eqb, leb}
use Rattle.base.specs.Tests.{all}
use Rattle.topology.specs.Address.{subtree}
use Rattle.topology.specs.Branch.{is_above, branch_part}
use Rattle.topology.specs.Reader.{tree}
use Rattle.topology_places.specs.Places.{counted, last_of, depth}
use Rattle.embedding_model.specs.Rules.{Passes}
use Rattle.embedding_model.specs.Least.{search_fault}

-- whether node n is kept (paper 02, 2.2): an inner node with one child is passed over
unfoldable pub is_kept : List ℕ → ℕ → Bool
is_kept bytes n = not (eqb (get_or bytes n 0) 1)

-- how many kept nodes lie above node s; this is the depth of s in the reduced drawing
unfoldable pub kept_above : List ℕ → ℕ → ℕ
kept_above source s = counted (λ a. is_kept source a && is_above source a s) s

-- Where a source node with so many kept nodes above it may go: the top node to the root, by rule 2, and any other to a target node that has at least
-- as many nodes above it, by rule 4. Every map sends each kept node where it may go, but for a lone leaf, of which 12 is never the answer
-- (`goes_there` in proofs/Nowhere).
unfoldable pub may_go : ℕ → List ℕ → ℕ → Bool
may_go above target t = cond (eqb above 0) (eqb t 0) (leb above (depth target t))

-- whether the branch under s has a map into the branch under t
unfoldable pub fits_at : List ℕ → List ℕ → ℕ → ℕ → Bool
fits_at source target s t = eqb (search_fault (branch_part source s) (branch_part target t)) 0

-- whether the branch under s has no map into any branch of the target where s may go
unfoldable pub fits_nowhere : List ℕ → List ℕ → ℕ → Bool
fits_nowhere source target s = all (length target) (λ t. not (may_go (kept_above source s) target t && fits_at source target s t))

-- The misfit: the last kept node in preorder whose branch fits nowhere; 0 if there is none. The branches below it have later nodes at their top, so
-- each of them fits somewhere.
unfoldable pub misfit : List ℕ → List ℕ → ℕ
misfit source target = last_of (λ s. is_kept source s && fits_nowhere source target s) (length source)

-- The same of the trees: the branch under s has no map into the branch under any target node where s may go.
abbrev pub FitsNowhere : List ℕ → List ℕ → ℕ → Type 0
FitsNowhere source target s =
    (t : ℕ) → t < length target → may_go (kept_above source s) target t ≡ true → (l : List ℕ)
    → Passes (subtree (tree source) s) (subtree (tree target) t) l → ⊥

-- Node s is the misfit: a kept node whose branch fits nowhere, and the branch of each later kept node fits somewhere.
pub record Misfit (source target : List ℕ) (s : ℕ) : Type 0 where
  pub there : s < length source
  pub kept : get_or source s 0 ≢ 1
  pub nowhere : FitsNowhere source target s
  pub later : (d : ℕ) → s < d → d < length source → get_or source d 0 ≢ 1 → FitsNowhere source target d → ⊥

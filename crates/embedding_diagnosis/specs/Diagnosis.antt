-- Why a drawing has no map: the branch that fits nowhere, and what it lacks.
use Rattle.std.specs.Prelude.{◌≡◌, ◌≢◌, ℕ, zero, suc, max, ◌≤◌, ◌<◌, List, Bool, true, cond, length, get_or, eqb, ltb}
use Rattle.std.proofs.Math.Option.{Option, none, some}
use Rattle.topology.specs.Branch.{branch_part}
use Rattle.topology.specs.Reader.{tree}
use Rattle.topology_places.specs.Places.{counted, depth}
use Rattle.refusal.specs.Numbers.{number, refusal_of}
use Rattle.embedding_model.specs.Rules.{Passes}
use Rattle.embedding_model.specs.Least.{least_of}
use Rattle.embedding_trees.specs.Trees.{trees_fault}
use Rattle.embedding_diagnosis.specs.Misfit.{kept_above, may_go, misfit, Misfit}
use Rattle.embedding_diagnosis.specs.declared.Diagnosis.{Diagnosis}
use Rattle.embedding_diagnosis.specs.declared.Diagnosis.TheVariants.{Loads, Refused, TooDeep, TooManyLeaves, NotTogether}

-- the greatest value of f among the numbers below n that pass a test; 0 if none does
abbrev pub greatest : (ℕ → Bool) → (ℕ → ℕ) → ℕ → ℕ
greatest test f zero = 0
greatest test f (suc n) = max (greatest test f n) (cond (test n) (f n) 0)

-- the depth of the deepest node
unfoldable pub deepest : List ℕ → ℕ
deepest target = greatest (λ t. true) (depth target) (length target)

-- how many leaves a tree has, and the branch under node n
unfoldable pub leaves : List ℕ → ℕ
leaves bytes = counted (λ k. eqb (get_or bytes k 0) 0) (length bytes)

abbrev pub leaves_under : List ℕ → ℕ → ℕ
leaves_under bytes n = leaves (branch_part bytes n)

-- the most leaves of a branch of the target where a source node may go that has so many kept nodes above it
unfoldable pub most_leaves : ℕ → List ℕ → ℕ
most_leaves above target = greatest (may_go above target) (leaves_under target) (length target)

-- What the branch under node s lacks if it fits nowhere. A leaf fits wherever it may go, so no target node lies as deep as a leaf that fits nowhere
-- (`leaf_deeper` in proofs/Lacks). Another branch may have more leaves than any branch of the target where it may go. If it has not, then each
-- branch below it fits somewhere, but not all of them together.
unfoldable pub lack_at : List ℕ → List ℕ → ℕ → Diagnosis
lack_at source target s =
    let above = kept_above source s in
    let needed = leaves_under source s in
    let most = most_leaves above target in
    let inner = cond (ltb most needed) (TooManyLeaves s needed most) (NotTogether s) in
    cond (eqb (get_or source s 0) 0) (TooDeep s above (deepest target)) inner

-- the refusal of a tree, the source first; else why there is no least map
abbrev pub diagnosis_by : ℕ → Option (List ℕ) → List ℕ → List ℕ → Diagnosis
diagnosis_by zero none source target = lack_at source target (misfit source target)
diagnosis_by zero (some m) source target = Loads
diagnosis_by (suc f) answer source target = Refused (refusal_of (suc f))

unfoldable pub diagnosis : List ℕ → List ℕ → Diagnosis
diagnosis source target = diagnosis_by (trees_fault source target) (least_of source target) source target

-- paper 01's number for each case, which is `search_fault` (`diagnosis-number` in proofs/Lacks)
abbrev pub number_of : Diagnosis → ℕ
number_of Loads = 0
number_of (Refused r) = number r
number_of (TooDeep node needed there) = 12
number_of (TooManyLeaves node needed there) = 12
number_of (NotTogether node) = 12

-- What each answer says of two trees; `diagnosis_says` in proofs/Lacks shows that it is so. Each lack is reason enough for its branch to fit nowhere
-- (`depth-enough` and `leaves-enough` there), and the misfit is reason enough for 12 (`enough` in proofs/Nowhere).
pub record LacksDepth (source target : List ℕ) (node needed there : ℕ) : Type 0 where
  pub misfit : Misfit source target node
  pub leaf : get_or source node 0 ≡ 0
  pub level : needed ≡ kept_above source node
  pub depths : (t : ℕ) → t < length target → depth target t ≤ there
  pub short : there < needed

pub record LacksLeaves (source target : List ℕ) (node needed there : ℕ) : Type 0 where
  pub misfit : Misfit source target node
  pub leaves : needed ≡ leaves_under source node
  pub room : (t : ℕ) → t < length target → may_go (kept_above source node) target t ≡ true → leaves_under target t ≤ there
  pub short : there < needed

-- The branches below the node fit somewhere, by `later` of a misfit. Some branch of the target where the node may go has as many leaves.
pub record LacksRoom (source target : List ℕ) (node : ℕ) : Type 0 where
  pub misfit : Misfit source target node
  pub inner : get_or source node 0 ≢ 0
  pub room : (t : ℕ) × (t < length target) × (may_go (kept_above source node) target t ≡ true) × (leaves_under source node ≤ leaves_under target t)

abbrev pub Says : List ℕ → List ℕ → Diagnosis → Type 0
Says source target Loads = (m : List ℕ) × Passes (tree source) (tree target) m
Says source target (Refused r) = ⊥
Says source target (TooDeep node needed there) = LacksDepth source target node needed there
Says source target (TooManyLeaves node needed there) = LacksLeaves source target node needed there
Says source target (NotTogether node) = LacksRoom source target node

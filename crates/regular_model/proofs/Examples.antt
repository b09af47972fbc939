-- The examples of paper 02, 2.3, a chip deeper than 8, and the refusals in their order.
use mathlib.Core.Path.{◌≡◌, refl, ap, subst}
use Prim.Native.Nat.{ℕ, zero, suc, ◌≤◌, ◌<◌}
use native.Mathlib.Omega.{arith}
use mathlib.Core.List.{List, [], ◌∷◌}
use Rattle.topology.specs.Tree.{Topo, node, fnil, fcons, leaf, code, size}
use Rattle.topology.specs.Reader.{fault, tree}
use Rattle.topology_reduction.specs.Reduced.{reduced}
use Rattle.embedding_model.specs.Least.{search_fault}
use Rattle.regular_model.specs.Regular.{complete, leaves}
use Rattle.regular_model.specs.Depth.{LeastDepth, depth_fault}
use Rattle.regular_model.specs.InnerNeed.{enough, need}
use Rattle.regular_model.proofs.Depth.{least-depth}
use Rattle.regular_model.proofs.SearchRegular.{search_regular}

by_need : (d : ℕ) → 2 ≤ d → (S : Topo) (k : ℕ) → need d (reduced S) ≡ k → LeastDepth S d k
by_need d z S k q = subst (λ (n : ℕ). LeastDepth S d n) q (least-depth d z S)

-- 3 0 0 0 needs depth 2 at d = 2, and depth 1 at d = 3.
abbrev pub three : List ℕ
three = 3 ∷ 0 ∷ 0 ∷ 0 ∷ []

pub three_of_two : LeastDepth (tree three) 2 2
unfolding tree enough
three_of_two = by_need 2 (omega arith) (tree three) 2 refl

pub three_of_three : LeastDepth (tree three) 3 1
unfolding tree enough
three_of_three = by_need 3 (omega arith) (tree three) 1 refl

-- The chip for d = 2 has 7 nodes and 4 leaves, that for d = 3 has 4 nodes and 3 leaves.
pub chip_sizes : (size (complete 2 2) ≡ 7) × (leaves (complete 2 2) ≡ 4) × (size (complete 3 1) ≡ 4) × (leaves (complete 3 1) ≡ 3)
chip_sizes = (refl, refl, refl, refl)

-- At d = 2 the search gives 12 for the depths 0 and 1, and finds a map at depth 2.
pub three_searched : (search_fault three (code (complete 2 2)) ≡ 0) × ((j : ℕ) → j < 2 → search_fault three (code (complete 2 j)) ≡ 12)
unfolding fault
three_searched = search_regular three 2 2 refl three_of_two (record { nodes = omega arith; children = omega arith; steps = omega arith })

-- A chain of any length is reduced to a lone leaf, and needs depth 0 for every d. The chain of length 0 is the lone leaf itself.
abbrev pub chain : ℕ → Topo
chain zero = leaf
chain (suc n) = node (fcons (chain n) fnil)

chain_reduced : (n : ℕ) → reduced (chain n) ≡ leaf
chain_reduced zero = refl
chain_reduced (suc n) = chain_reduced n

pub chain-depth : (n d : ℕ) → 2 ≤ d → LeastDepth (chain n) d 0
unfolding enough
chain-depth n d z = by_need d z (chain n) 0 (ap (need d) (chain_reduced n))

-- A drawing of 26 nodes, 8 steps deep, that needs depth 11 at d = 2. Its node with the children 5, 5 and 0 needs depth 5, since each 5 needs depth 3
-- and 8 + 8 + 1 > 16; each of the six nodes 2 above it adds one.
abbrev pub deep : List ℕ
deep = 2 ∷ 0 ∷ 2 ∷ 0 ∷ 2 ∷ 0 ∷ 2 ∷ 0 ∷ 2 ∷ 0 ∷ 2 ∷ 0 ∷ 3 ∷ 5 ∷ 0 ∷ 0 ∷ 0 ∷ 0 ∷ 0 ∷ 5 ∷ 0 ∷ 0 ∷ 0 ∷ 0 ∷ 0 ∷ 0 ∷ []

pub deep-depth : (fault 32 deep ≡ 0) × LeastDepth (tree deep) 2 11
unfolding fault tree enough
deep-depth = (refl, by_need 2 (omega arith) (tree deep) 11 refl)

-- 1 to 5 come before 27, for d outside 2 to 8; the drawings are 9, with too many children, and 0.
pub refusals : (depth_fault (9 ∷ []) 1 ≡ 4) × (depth_fault (0 ∷ []) 1 ≡ 27) × (depth_fault (0 ∷ []) 9 ≡ 27)
unfolding fault depth_fault
refusals = (refl, refl, refl)

pub accepted : (depth_fault (0 ∷ []) 2 ≡ 0) × (depth_fault (0 ∷ []) 8 ≡ 0)
unfolding fault depth_fault
accepted = (refl, refl)

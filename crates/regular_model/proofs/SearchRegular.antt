-- The search on regular chips (paper 02, 2.3): "Where that tree is within our limits, the search finds a map at that depth and gives 12 at each smaller
-- one."
use mathlib.Core.Path.{◌≡◌, sym, subst}
use Prim.Native.Nat.{ℕ, ◌<◌}
use native.Mathlib.Omega.{arith}
use mathlib.Core.List.{List}
use Rattle.topology.specs.Tree.{Topo, code}
use Rattle.topology.specs.Reader.{Within, fault, tree}
use Rattle.topology.proofs.Reader.{accepts}
use Rattle.topology.proofs.Decoding.{tree_code}
use Rattle.embedding_model.specs.Rules.{Passes}
use Rattle.embedding_model.specs.Least.{search_fault}
use Rattle.embedding_model.proofs.Search.{search-twelve, search_found}
use Rattle.regular_model.specs.Regular.{complete}
use Rattle.regular_model.specs.Depth.{LeastDepth}
use Rattle.regular_model.proofs.Limits.{complete-within}

pub search_regular : (source : List ℕ) (d k : ℕ) → fault 32 source ≡ 0 → LeastDepth (tree source) d k → Within 64 (complete d k)
    → (search_fault source (code (complete d k)) ≡ 0) × ((j : ℕ) → j < k → search_fault source (code (complete d j)) ≡ 12)
search_regular source d k s least w = (found, twelve)
  where
    found : search_fault source (code (complete d k)) ≡ 0
    found =
        let l = least.loads in
        search_found source (code (complete d k)) s (accepts 64 (complete d k) w) l.0
        (subst (λ (T : Topo). Passes (tree source) T l.0) (sym (tree_code (complete d k))) l.1)

    twelve : (j : ℕ) → j < k → search_fault source (code (complete d j)) ≡ 12
    twelve j h =
        (search-twelve source (code (complete d j)) s (accepts 64 (complete d j) (complete-within 64 d j k (omega arith) w))).1
        (λ l p. least.least j h (l, subst (λ (T : Topo). Passes (tree source) T l) (tree_code (complete d j)) p))

-- Which regular chips can be loaded: those of at most 64 nodes. Such a chip has at least 2 ^ depth nodes, so its depth is less than 8.
use mathlib.Core.Path.{◌≡◌, refl, sym, ◌∙◌, subst}
use Prim.Native.Nat.{ℕ, zero, suc, ◌^◌, ◌≤◌, ◌<◌}
use native.Mathlib.Nat.{mul-le-mul, pow-zero, pow-succ', pow-le-pow_right}
use native.Mathlib.Decide.{dec_le}
use native.Mathlib.Omega.{arith}
use mathlib.Core.List.{List, [], ◌∷◌}
use mathlib.Core.Bool.{Bool, true, false}
use lib.Dec.{leb}
use borrow.Author.Tests.{le-leb, lt-leb, eq-eqb, ne_eqb, eqb-true}
use Rattle.topology.specs.Tree.{Topo, code, size, height, heights, breadth, breadths}
use Rattle.topology.specs.Reader.{Within, fault, tree}
use Rattle.topology.proofs.Reader.{accepts, within}
use Rattle.topology.proofs.Decoding.{tree_code}
use Rattle.text_templates.specs.Template.{filled}
use Rattle.embedding_model.specs.Least.{search_fault}
use Rattle.regular_model.specs.Regular.{copies, complete}
use Rattle.regular_model.specs.Depth.{LeastDepth}
use Rattle.regular_model.proofs.Complete.{width-complete}
use Rattle.regular_model.proofs.Sizes.{size_complete, leaves-complete}
use Rattle.regular_model.proofs.SearchRegular.{search_regular}
use Rattle.regular_table.specs.Table.{loadable, chip_text, chip_line}

heights_copies : (n : ℕ) (t : Topo) → heights (copies n t) ≤ suc (height t)
heights_copies zero t = omega arith
heights_copies (suc n) t = omega (arith, heights_copies n t)

breadths_copies : (n : ℕ) (t : Topo) → breadths (copies n t) ≤ breadth t
breadths_copies zero t = omega arith
breadths_copies (suc n) t = omega (arith, breadths_copies n t)

height_complete : (d k : ℕ) → height (complete d k) ≤ k
height_complete d zero = omega arith
height_complete d (suc k) = omega (arith, heights_copies d (complete d k), height_complete d k)

breadth_complete : (d k : ℕ) → breadth (complete d k) ≤ d
breadth_complete d zero = omega arith
breadth_complete d (suc k) = omega (arith, breadths_copies d (complete d k), breadth_complete d k, width-complete d k)

module _ (d : ℕ) (from : 2 ≤ d) where
  size_least : (k : ℕ) → 2 ^ k ≤ size (complete d k)
  size_least zero = omega (arith, pow-zero 2)
  size_least (suc k) =
      omega (arith, pow-succ' 2 k, size_complete d k, mul-le-mul {n₁ = 2} {m₁ = 2 ^ k} {n₂ = d} {m₂ = size (complete d k)} from (size_least k))

  module _ (to : d ≤ 8) (k : ℕ) where
    few_within : size (complete d k) ≤ 64 → Within 64 (complete d k)
    few_within h =
        record { nodes = h; children = omega (arith, breadth_complete d k); steps = omega (arith, height_complete d k, low (dec_le k 8)) }
      where
        low : Dec (k ≤ 8) → k ≤ 8
        low (yes l) = l
        low (no l) = absurd (omega (arith, size_least k, pow-le-pow_right {n = 2} (omega arith) {i = 8} {j = k} (omega arith)))

    -- the bytes of a chip that can be loaded have no fault
    accepted-within : fault 64 (code (complete d k)) ≡ 0 → Within 64 (complete d k)
    accepted-within e = subst (Within 64) (tree_code (complete d k)) (within 64 (code (complete d k)) e)

    -- A regular chip can be loaded if it has at most 64 nodes.
    pub loadable-nodes : loadable d k ≡ leb (size (complete d k)) 64
    unfolding loadable
    loadable-nodes = by_size (dec_le (size (complete d k)) 64)
      where
        by_size : Dec (size (complete d k) ≤ 64) → loadable d k ≡ leb (size (complete d k)) 64
        by_size (yes h) =
            eq-eqb (fault 64 (code (complete d k))) 0 (accepts 64 (complete d k) (few_within h)) ∙ sym (le-leb (size (complete d k)) 64 h)
        by_size (no h) =
            ne_eqb (fault 64 (code (complete d k))) 0 (λ e. h (accepted-within e).nodes) ∙ sym (lt-leb (size (complete d k)) 64 (omega arith))

    -- the line that `put_chip` puts, by its test
    module _ (nodes tips : ℕ) (n : nodes ≡ size (complete d k)) (l : tips ≡ d ^ k) where
      by_test : (b : Bool) → loadable d k ≡ b → filled (chip_text b) (d ∷ k ∷ nodes ∷ tips ∷ []) 0 ≡ chip_line d k
      unfolding chip_line
      by_test b e = rw (n, l, e, leaves-complete d (omega arith) k) refl

      pub line_plain : nodes ≤ 64 → filled (chip_text true) (d ∷ k ∷ nodes ∷ tips ∷ []) 0 ≡ chip_line d k
      line_plain h = by_test true (loadable-nodes ∙ le-leb (size (complete d k)) 64 (omega (arith, n, h)))

      pub line_marked : 64 < nodes → filled (chip_text false) (d ∷ k ∷ nodes ∷ tips ∷ []) 0 ≡ chip_line d k
      line_marked h = by_test false (loadable-nodes ∙ lt-leb (size (complete d k)) 64 (omega (arith, n, h)))

    -- Into a chip of the table that is not marked the search finds a map.
    pub unmarked_found : (source : List ℕ) → fault 32 source ≡ 0 → LeastDepth (tree source) d k → loadable d k ≡ true
        → search_fault source (code (complete d k)) ≡ 0
    unfolding loadable
    unmarked_found source f least e = (search_regular source d k f least (accepted-within (eqb-true _ 0 e))).0

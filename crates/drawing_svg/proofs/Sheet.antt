-- The trees that are drawn with a map, or without one, are small; and a setup keeps as much of them as their sheet shows.
use Rattle.std.proofs.Common.{◌≡◌, refl, sym, ℕ, zero, suc, ◌≤◌, arith, List, length, take, eqb, Bool, true, false}
use borrow.Author.Tests.{eqb-true}
use Rattle.base.specs.Refusals.{or_else}
use Rattle.topology.specs.Reader.{fault}
use Rattle.topology.proofs.FaultMost.{fault_most}
use Rattle.topology.proofs.Lookup.{valid_length}
use Rattle.topology.proofs.PrefixFault.{prefix_whole}
use Rattle.embedding_model.specs.Least.{least_of, none_fault, search_fault}
use Rattle.embedding_model.proofs.Search.{faultless}
use Rattle.embedding_least.proofs.NumberKept.{number-kept}
use Rattle.drawing_svg.proofs.Kept.{fault-kept}
use Rattle.drawing_svg.specs.Sheet.{searched_sheet, sheet}

-- without a map both are trees
pub unmapped_trees : (source target : List ℕ) → 12 ≡ search_fault source target → (fault 32 source ≡ 0) × (fault 64 target ≡ 0)
unfolding search_fault
unmapped_trees source target e = by_faults (fault 32 source) (fault 64 target) (fault_most 32 source) (fault_most 64 target) e
  where
    by_faults : (f g : ℕ) → f ≤ 5 → g ≤ 5 → 12 ≡ or_else f (or_else g (none_fault (least_of source target))) → (f ≡ 0) × (g ≡ 0)
    by_faults zero zero a b e = (refl, refl)
    by_faults zero (suc g) a b e = absurd (omega arith)
    by_faults (suc f) g a b e = absurd (omega arith)

abbrev Small : List ℕ → List ℕ → Type 0
Small source target = (length source ≤ 32) × (length target ≤ 64)

trees_small : (source target : List ℕ) → (fault 32 source ≡ 0) × (fault 64 target ≡ 0) → Small source target
trees_small source target f = (valid_length 32 source f.0, valid_length 64 target f.1)

pub mapped_small : (source target : List ℕ) → 0 ≡ search_fault source target → Small source target
mapped_small source target e = trees_small source target (faultless source target (sym e))

pub unmapped_small : (source target : List ℕ) → 12 ≡ search_fault source target → Small source target
unmapped_small source target e = trees_small source target (unmapped_trees source target e)

-- The drawings as they are kept give the same sheet as the whole ones: a drawing that is drawn whole is kept whole, a drawing at fault is drawn as
-- far as it was read, and the search's refusal is the same.
pub sheet-kept : (s t : List ℕ) (limit offset : ℕ) → sheet (take 33 s) (take 65 t) limit offset ≡ sheet s t limit offset
unfolding sheet
sheet-kept s t limit offset = rw (number-kept s t) (by_tests (eqb number 0) (eqb number 12) refl refl)
  where
    number : ℕ
    number = search_fault s t

    Same : Type 0
    Same = searched_sheet number (take 33 s) (take 65 t) limit offset ≡ searched_sheet number s t limit offset

    whole : (fault 32 s ≡ 0) × (fault 64 t ≡ 0) → Same
    whole f = rw (prefix_whole 32 s f.0, prefix_whole 64 t f.1) refl

    by_tests : (a b : Bool) → eqb number 0 ≡ a → eqb number 12 ≡ b → Same
    by_tests true b e d = whole (faultless s t (eqb-true number 0 e))
    by_tests false true e d = whole (unmapped_trees s t (sym (eqb-true number 12 d)))
    by_tests false false e d = rw (e, d) (fault-kept s t number offset)

-- The length of the text: buychip's buffer has room for the text for every script of at most 65,536 bytes (`table_fits`).
--
-- A chip of the table has depth at most 13 and at most 2 ^ 29 leaves, so it has fewer than 2 ^ 30 nodes. A line with such numbers and the mark takes
-- at most 85 bytes.
use mathlib.Core.Path.{◌≡◌, refl, ap}
use Prim.Native.Nat.{ℕ, zero, suc, ◌+◌, ◌*◌, ◌^◌, ◌≤◌}
use native.Mathlib.Omega.{arith}
use mathlib.Core.List.{List, [], ◌∷◌}
use mathlib.Core.Bool.{Bool, true, false, cond}
use lib.ListN.{length, get_or, length-append}
use lib.Dec.{eqb}
use Rattle.text.specs.Text.{decimal_last, decimal}
use Rattle.text_templates.specs.Template.{filled}
use Rattle.text_templates.proofs.Lengths.{AtMost, filled_most}
use Rattle.refusal.specs.Numbers.{number}
use Rattle.topology.specs.Tree.{size}
use Rattle.topology.specs.Reader.{fault, tree}
use Rattle.topology.proofs.Reader.{within}
use Rattle.topology.proofs.FaultMost.{fault_most}
use Rattle.regular_model.specs.Regular.{complete, leaves}
use Rattle.regular_model.specs.Depth.{LeastDepth}
use Rattle.regular_model.proofs.Bounds.{need_depth}
use Rattle.regular_model.proofs.Sizes.{leaves-complete, size_most}
use Rattle.script_lines.proofs.Lengths.{no_length}
use Rattle.script_setup.specs.Gathering.{gathered}
use Rattle.script_setup.proofs.Endings.{Inside, ends_inside}
use Rattle.script_setup.specs.declared.Ending.{Ending}
use Rattle.script_setup.specs.declared.Ending.TheVariants.{End, Refused, Compile}
use Rattle.regular_table.specs.Table.{loadable, chip_text, chip_line, chip_lines, TableBy, ending, TextBy, Prints}
use Rattle.regular_table.proofs.PutChips.{depth_is, depth-room}
use Rattle.regular_model.specs.InnerNeed.{most_leaves}

line_most : (d k : ℕ) → 2 ≤ d → d ≤ 8 → k ≤ 13 → d ^ k ≤ most_leaves → length (chip_line d k) ≤ 85
unfolding chip_line filled decimal decimal_last
line_most d k z h g most = by_mark (loadable d k)
  where
    numbers : List ℕ
    numbers = d ∷ k ∷ size (complete d k) ∷ leaves (complete d k) ∷ []

    largest : List ℕ
    largest = 8 ∷ 13 ∷ 1073741823 ∷ most_leaves ∷ []

    below : AtMost numbers largest
    below = (h, (g, (omega (arith, size_most d z k, most), (omega (arith, leaves-complete d (omega arith) k, most), tt))))

    by_mark : (b : Bool) → length (filled (chip_text b) numbers 0) ≤ 85
    by_mark true = omega (arith, filled_most (chip_text true) numbers largest below 0)
    by_mark false = filled_most (chip_text false) numbers largest below 0

module _ (source : List ℕ) (f : fault 32 source ≡ 0) (depth : ℕ → ℕ)
    (least : (d : ℕ) → 2 ≤ d → d ≤ 8 → LeastDepth (tree source) d (depth d)) where
  line-length : (d : ℕ) → 2 ≤ d → d ≤ 8 → length (chip_line d (depth d)) ≤ 85
  line-length d from to =
      let l = least d from to in
      line_most d (depth d) from to
      (omega (arith, depth_is source d from to (depth d) l, need_depth d from (tree source) (within 32 source f)))
      (depth-room source d from to f (depth d) l)

  lines_length : (n d : ℕ) → 2 ≤ d → d + n ≤ 9 → length (chip_lines n d depth) ≤ 85 * n
  lines_length zero d from to = omega arith
  lines_length (suc n) d from to =
      omega (
        arith,
        length-append (chip_line d (depth d)) (chip_lines n (suc d) depth),
        line-length d from (omega arith),
        lines_length n (suc d) (omega arith) (omega arith),
      )

table-length : (source : List ℕ) (at : ℕ) (text : List ℕ) → at ≤ 65536 → (f : ℕ) → fault 32 source ≡ f → TableBy f source at text → length text ≤ 595
table-length source at text h zero e t = omega (arith, ap length t.2, lines_length source e t.0 t.1 7 2 (omega arith) (omega arith))
table-length source at text h (suc f) e t = omega (arith, ap length t, no_length (suc f) at (omega (arith, e, fault_most 32 source)) h)

-- No text is longer than 595 bytes.
pub table_fits : (script text : List ℕ) → length script ≤ 65536 → Prints script text → length text ≤ 595
table_fits script text h p = by_ending (gathered script).ending (ends_inside script) p
  where
    source : List ℕ
    source = (gathered script).source

    by_ending : (e : Ending) → Inside (length script) e → TextBy (ending script e) script source text → length text ≤ 595
    by_ending End i t = table-length source (length script) text h (fault 32 source) refl t
    by_ending (Compile at) i t = table-length source at text (omega (arith, i, h)) (fault 32 source) refl t
    by_ending (Refused n at) i t = by_test (eqb (get_or script at 0) 4) t
      where
        by_test : (b : Bool) → TextBy (cond b (Compile at) (Refused n at)) script source text → length text ≤ 595
        by_test true t = table-length source at text (omega (arith, i.1, h)) (fault 32 source) refl t
        by_test false t = omega (arith, ap length t, no_length (number n) at (omega (arith, i.0)) (omega (arith, i.1, h)))

-- The lines one after the other, as `put_chips` writes them. One definition gives all depths, `need` in regular_model; it also bounds the size of a
-- chip of the table.
use Rattle.std.proofs.Common.{◌≡◌, ◌≢◌, ℕ, zero, suc, ◌+◌, ◌-◌, ◌^◌, ◌≤◌, ◌<◌, List, ◌++◌, Ok, Err, refl, sym, ap, ◌∙◌, arith, append_assoc}
use native.Mathlib.Decide.{dec_lt}
use Rattle.std.proofs.lemmas.List.{append-nil}
use borrow.Author.Tests.{le-leb}
use Rattle.base.proofs.Refusals.{or_else_last}
use Rattle.refusal.specs.Numbers.{number}
use Rattle.refusal.specs.declared.Refusal.{Refusal}
use Rattle.refusal.proofs.Numbers.{number-ne0}
use Rattle.topology.specs.Reader.{fault, tree}
use Rattle.topology.proofs.Reader.{within}
use Rattle.regular_model.specs.Depth.{LeastDepth, depth_fault}
use Rattle.regular_model.specs.InnerNeed.{need, most_leaves}
use Rattle.regular_model.proofs.Depth.{depth_once}
use Rattle.regular_model.proofs.ReducedNeed.{depth_needed}
use Rattle.regular_model.proofs.Bounds.{need_most}
use Rattle.regular_depth.specs.Answers.{Answers}
use Rattle.text.specs.declared.Text.{Text}
use Rattle.text.specs.Appending.{Appends}
use Rattle.text.proofs.Appending.{appends_none, appends_as, appends_then}
use Rattle.script_lines.specs.Lines.{no_line}
use Rattle.regular_table.specs.Table.{chip_line, chip_lines, TableBy, Table}
use Rattle.regular_table.specs.InnerTable.{Adds}

-- all lines are all but the last, followed by the last
lines_last : (n d : ℕ) (depth : ℕ → ℕ) → chip_lines (suc n) d depth ≡ chip_lines n d depth ++ chip_line (n + d) (depth (n + d))
lines_last zero d depth = let e : 0 + d ≡ d = omega arith in rw e (append-nil (chip_line d (depth d)))
lines_last (suc n) d depth =
    let e : n + suc d ≡ suc n + d = omega arith in
    ap (λ (l : List ℕ). chip_line d (depth d) ++ l)
    (lines_last n (suc d) depth ∙ ap (λ (j : ℕ). chip_lines n (suc d) depth ++ chip_line j (depth j)) e)
    ∙ sym (append_assoc (chip_line d (depth d)) (chip_lines n (suc d) depth) (chip_line (suc n + d) (depth (suc n + d))))

module _ (source : List ℕ) (d : ℕ) (from : 2 ≤ d) (to : d ≤ 8) where
  -- only the source can be a reason for refusal
  fault_is : depth_fault source d ≡ fault 32 source
  unfolding depth_fault
  fault_is = rw (le-leb 2 d from, le-leb d 8 to) (or_else_last (fault 32 source))

  pub depth_is : (k : ℕ) → LeastDepth (tree source) d k → k ≡ need d (tree source)
  depth_is k l = depth_once (tree source) d k (need d (tree source)) l (depth_needed d from (tree source))

  -- a chip of the least depth has at most 2 ^ 29 leaves
  pub depth-room : fault 32 source ≡ 0 → (k : ℕ) → LeastDepth (tree source) d k → d ^ k ≤ most_leaves
  depth-room e k l = rw (depth_is k l) (need_most d from to (tree source) (within 32 source e))

-- the depths of a table
abbrev depth_of : List ℕ → ℕ → ℕ
depth_of source d = need d (tree source)

-- The lines for the numbers of children below d are put behind a text. If there is one, the source has no fault.
pub record Lines (source : List ℕ) (before : Text) (d : ℕ) (text : Text) : Type 0 where
  pub fine : 2 < d → fault 32 source ≡ 0
  pub appends : Appends before (chip_lines (d - 2) 2 (depth_of source)) text

pub lines_none : (source : List ℕ) (before : Text) → Lines source before 2 before
lines_none source before = record { fine = λ h. absurd (omega (arith, h)); appends = appends_none before }

module _ (source : List ℕ) (before : Text) (d : ℕ) (text : Text) (w : Lines source before d text) (from : 2 ≤ d) (to : d ≤ 8) where
  -- what `put_chip` requires
  pub line-room : (k : ℕ) → Answers source d (Ok k) → (2 ≤ d) × (d ≤ 8) × (d ^ k ≤ most_leaves)
  line-room k a = (from, to, depth-room source d from to (sym (fault_is source d from to) ∙ sym a.0) k a.1)

  pub lines_next : (k : ℕ) (after : Text) → Answers source d (Ok k) → Appends text (chip_line d k) after → Lines source before (d + 1) after
  lines_next k after a p =
      let one : d + 1 - 2 ≡ suc (d - 2) = omega arith in
      let here : d - 2 + 2 ≡ d = omega arith in
      let last : chip_line d k ≡ chip_line (d - 2 + 2) (depth_of source (d - 2 + 2)) =
      ap (chip_line d) (depth_is source d from to k a.1) ∙ ap (λ (j : ℕ). chip_line j (depth_of source j)) (sym here) in
      let all : chip_lines (d - 2) 2 (depth_of source) ++ chip_line d k ≡ chip_lines (d + 1 - 2) 2 (depth_of source) =
      ap (λ (l : List ℕ). chip_lines (d - 2) 2 (depth_of source) ++ l) last
      ∙ sym (lines_last (d - 2) 2 (depth_of source))
      ∙ ap (λ (j : ℕ). chip_lines j 2 (depth_of source)) (sym one) in
      record {
        fine = λ x. sym (fault_is source d from to) ∙ sym a.0;
        appends = appends_as all (appends_then w.appends p);
      }

  -- A refusal comes at the first d, where nothing is put yet.
  pub lines_refused : (e : Refusal) (offset : ℕ) (after : Text) → Answers source d (Err e) → Appends text (no_line (number e) offset) after
      → Adds (Table source offset) before after
  lines_refused e offset after a p = by_order (dec_lt 2 d)
    where
      is_fault : fault 32 source ≡ number e
      is_fault = sym (fault_is source d from to) ∙ sym a.0

      refused : (f : ℕ) → f ≢ 0 → TableBy f source offset (no_line f offset)
      refused zero x = absurd (x refl)
      refused (suc f) x = refl

      by_order : Dec (2 < d) → Adds (Table source offset) before after
      by_order (yes l) = absurd (number-ne0 e (sym is_fault ∙ w.fine l))
      by_order (no l) =
          let first : d - 2 ≡ 0 = omega arith in
          record {
            bytes = no_line (number e) offset;
            is = rw is_fault (refused (number e) (number-ne0 e));
            appends = appends_then (appends_as (ap (λ (j : ℕ). chip_lines j 2 (depth_of source)) first) w.appends) p;
          }

pub lines_all : (source : List ℕ) (before : Text) (text : Text) (offset : ℕ) → Lines source before 9 text → Adds (Table source offset) before text
lines_all source before text offset w = record {
  bytes = chip_lines 7 2 (depth_of source);
  is = rw (w.fine (omega arith)) (depth_of source, (λ d a b. depth_needed d a (tree source)), refl);
  appends = w.appends;
}

use Rattle.std.proofs.Common.{◌≡◌, ◌+◌, ◌*◌, ◌-◌, ◌<◌, ◌≤◌, ℕ, List, length, take, get_or, arith, rules}
use borrow.Rule.Slice.PartMut.{put_mid}
use Rattle.embedding_program.specs.InnerTables.{best_by}
use Rattle.std.proofs.lemmas.List.{places}
use Rattle.base.proofs.Replicate.{get_or_everywhere}
use Rattle.embedding_program.proofs.Nodes.{entry-unbounded, listed, branch_of, reach-within, table-start, table_next}
use Rattle.embedding_least.proofs.fill_table.Goals as goal

pub invariant_of-scan : goal.invariant_of-scan
invariant_of-scan c = record { bound = λ i. omega (arith, get_or_everywhere {A = ℕ} 16640 i 0) }

pub loop-s-init : goal.loop-s-init
loop-s-init c =
    table-start c.args.source.now c.args.target.now c.requires.source_draws c.requires.target_draws c.args.target_ends.now c.requires.target_table
    c.args.best.now

pub invariant_of-family : goal.invariant_of-family
invariant_of-family c =
    let kids = listed c.args.source.now c.requires.source_draws (c.loop-s.s - 1) (omega arith) _ c.kids_of-kids.ensures (search rules) _
    c.from.ensures in
    record { few = kids.few; small = kids.small; inside = c.requires.target_table.small }

pub entries-row-requires : goal.entries-row-requires
entries-row-requires c =
    let e = c.requires.target_draws in (
      branch_of c.args.target.now 64 e c.args.target_ends.now c.requires.target_table,
      e.fits,
      omega (arith, c.reach-count.ensures, reach-within (c.loop-s.s - 1) _ e.some),
    )

-- the entries of a row that were copied into the table
written : (best new row : List ℕ) (s t count : ℕ) → new ≡ take count row → length best ≡ 2048 → length row ≡ 64 → s < 32 → count ≤ 64 → t < count
    → best_by (put_mid (s * 64) (s * 64 + count - s * 64) best new) s t ≡ get_or row t 0
written best new row s t count e f g a b h = search (rules, places)

pub loop-s-preserved : goal.loop-s-preserved
loop-s-preserved c =
    let s = c.loop-s.s - 1 in
    let kids = listed c.args.source.now c.requires.source_draws s (omega arith) _ c.kids_of-kids.ensures (search rules) _ c.from.ensures in
    table_next c.args.source.now c.args.target.now c.requires.source_draws c.requires.target_draws c.args.target_ends.now c.requires.target_table
    c.loop-s.s s (omega arith) (omega arith) _ kids.are kids.long c.loop-s.best _ c.entries-row.result
    (λ t h. entry-unbounded _ _ _ _ _ _ (c.entries-row.ensures.entries t (omega arith) (omega (arith, c.reach-count.ensures))))
    (record { here = λ t h. written c.loop-s.best c.copy_from_slice.new.self c.entries-row.result s t c.reach-count.result c.copy_from_slice.ensures.after (search rules) (search rules) (search rules) (search rules) (search rules); others = λ i h. search (rules, places) }) c.loop-s.invariant

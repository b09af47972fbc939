use Rattle.std.proofs.Common.{arith}
use Rattle.embedding_program.specs.InnerTables.{RowCopied}
use Rattle.embedding_program.proofs.Cells.{turns_of, part_fits, child_shut, child_tried, try_start, try_next, try_end}
use Rattle.embedding_least.proofs.Scan.fill_row.Goals.{then-may_go, else-may_go}
use Rattle.embedding_least.proofs.Scan.fill_row.Goals as goal

pub loop-kid-init : goal.loop-kid-init
loop-kid-init c =
    let copied : RowCopied c.args.self.now.rows c.args.p c.sets-sets.result c.copy_row.new.self.rows = rw c.sets-sets.ensures.value c.copy_row.ensures in
    try_start _ _ _ _ _ _ c.sets-sets.ensures.value _ copied

pub overflow_mul-p : goal.overflow_mul-p
overflow_mul-p c =
    let family = c.args.family.now in
    omega (arith, part_fits _ _ _ _ _ c.requires (family.inside _) c.loop-kid-test.true family.few c.loop-kid.invariant.wei_is)

pub try_child-requires : goal.try_child-requires
try_child-requires c =
    let family = c.args.family.now in (
      c.requires,
      family.inside _,
      turns_of _ _ _ _ family.few c.loop-kid-test.true c.sets-sets.ensures.value c.loop-kid.invariant.pow_is,
      part_fits _ _ _ _ _ c.requires (family.inside _) c.loop-kid-test.true family.few c.loop-kid.invariant.wei_is,
    )

pub loop-kid-preserved : goal.loop-kid-preserved
loop-kid-preserved c =
    try_next _ _ _ _ _ _ c.sets-sets.ensures.value _ _ _ _ c.loop-kid.self.bound c.loop-kid.invariant c.loop-kid-test.true _
    (elim c.if-may_go.branch [
      | then-may_go w ↦ rw w.self-is (child_tried _ _ _ _ _ _ _ _ w.if-may_go.true w.try_child.ensures)
      | else-may_go w ↦ rw w.self-is (child_shut _ _ _ _ _ _ _ w.if-may_go.false)
    ])

pub returns : goal.returns
returns c =
    let copied : RowCopied c.args.self.now.rows c.args.p c.sets-sets.result c.copy_row.new.self.rows = rw c.sets-sets.ensures.value c.copy_row.ensures in
    try_end _ _ _ _ _ _ c.sets-sets.ensures.value _ copied _ _ _ _ c.loop-kid.invariant c.loop-kid-test.false

-- `put_chip` meets its contract: the filled template is the line, with the mark where the chip has more than 64 nodes.
use Rattle.std.proofs.Common.{arith}
use Rattle.text.proofs.Appending.{appends_as}
use Rattle.regular_model.proofs.Enough.{power-above}
use Rattle.regular_table.proofs.Loadable.{line_plain, line_marked}
use Rattle.regular_table.proofs.put_chip.Goals as goal
use Rattle.regular_table.proofs.put_chip.Goals.{then-nodes-le-TARGET_NODES, else-nodes-le-TARGET_NODES}

pub overflow_cast-depth : goal.overflow_cast-depth
overflow_cast-depth c = omega (arith, power-above c.args.d c.args.depth c.requires.0)

pub returns : goal.returns
returns c =
    let pre = c.requires in
    appends_as (elim c.if-nodes-le-TARGET_NODES.branch [
      | then-nodes-le-TARGET_NODES w ↦
          rw (w.line-is) (line_plain _ pre.0 pre.1 _ _ _ c.nodes_of-nodes.ensures c.pow-leaves.ensures w.if-nodes-le-TARGET_NODES.true)
      | else-nodes-le-TARGET_NODES w ↦
          rw (w.line-is) (line_marked _ pre.0 pre.1 _ _ _ c.nodes_of-nodes.ensures c.pow-leaves.ensures w.if-nodes-le-TARGET_NODES.false)
    ]) c.put_filled.ensures

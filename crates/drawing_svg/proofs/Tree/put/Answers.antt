use Rattle.std.proofs.Common.{◌≡◌, add-one, length, arith}
use Rattle.text.proofs.Appending.{appends_none, appends_then}
use Rattle.drawing_svg.specs.Sheet.{tree_of}
use Rattle.drawing_svg.proofs.Tree.put.Goals as goal

pub loop-node-init : goal.loop-node-init
loop-node-init c = appends_none _

pub loop-node-preserved : goal.loop-node-preserved
loop-node-preserved c = rw add-one (appends_then c.loop-node.invariant c.put_edge.ensures)

pub loop-node-2-init : goal.loop-node-2-init
loop-node-2-init c = appends_none _

pub loop-node-2-preserved : goal.loop-node-2-preserved
loop-node-2-preserved c = rw add-one (appends_then c.loop-node-2.invariant c.put_node.ensures)

pub returns : goal.returns
unfolding tree_of
returns c =
    let edges : c.loop-node.node ≡ length c.args.self.now.bytes.now = omega arith in
    let nodes : c.loop-node-2.node ≡ length c.args.self.now.bytes.now = omega arith in
    rw (← c.label.ensures)
    (appends_then c.put_word.ensures
    (appends_then (rw edges at c.loop-node.invariant) (appends_then (rw nodes at c.loop-node-2.invariant) c.put_word-2.ensures)))

use Rattle.std.proofs.Common.{◌≡◌, add-one, length, arith}
use Rattle.text.proofs.Appending.{appends_none, appends_then}
use Rattle.drawing_svg.specs.Sheet.{joins_of}
use Rattle.drawing_svg.proofs.Pair.put_joins.Goals as goal

pub loop-node-init : goal.loop-node-init
loop-node-init c = appends_none _

pub loop-node-preserved : goal.loop-node-preserved
loop-node-preserved c = rw add-one (appends_then c.loop-node.invariant c.put_join.ensures)

pub returns : goal.returns
unfolding joins_of
returns c =
    let all : length c.args.self.now.images.now ≡ c.loop-node.node = omega arith in
    appends_then c.put_word.ensures (appends_then (rw all c.loop-node.invariant) c.put_word-2.ensures)

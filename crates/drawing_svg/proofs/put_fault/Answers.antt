-- `put_fault` meets its contract: the parts of the sheet joined. The part of the bytes that is drawn has at most one byte more than the limit.
use Rattle.std.proofs.Common.{◌≡◌, arith, add-one, take, length-take, suc}
use Rattle.std.proofs.lemmas.List.{take_min}
use Rattle.text.proofs.Appending.{appends_then}
use Rattle.topology_reading.proofs.FirstFault.{accepted_few}
use Rattle.drawing_svg.specs.Sheet.{fault_of}
use Rattle.drawing_svg.proofs.put_fault.Goals as goal

pub overflow_cast-rows : goal.overflow_cast-rows
overflow_cast-rows c = omega (arith, length-take c.min.result c.args.bytes.now, accepted_few c.args.limit c.args.bytes.now)

pub invariant_of-tree : goal.invariant_of-tree
invariant_of-tree c = record { few = omega (arith, length-take c.min.result c.args.bytes.now, accepted_few c.args.limit c.args.bytes.now) }

pub returns : goal.returns
unfolding fault_of
returns c =
    let node = c.accepted_bytes-node in
    let part : take c.min.result c.args.bytes.now ≡ take (suc node.result) c.args.bytes.now = rw (c.min.ensures, take_min, add-one) in
    rw (← node.ensures, ← part, ← c.into.ensures, ← (add-one node.result))
    (appends_then c.put_head.ensures (appends_then c.put.ensures (appends_then c.put_legend.ensures c.put_fault_note.ensures)))

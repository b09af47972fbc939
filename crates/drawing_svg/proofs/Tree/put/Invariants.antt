-- `put` meets its contract. The edges, and then the nodes, before the counter are put.
use Rattle.text.specs.Appending.{Appends}
use Rattle.drawing_elements.specs.Elements.{left_of}
use Rattle.drawing_svg.specs.Sheet.{each, edge_of, node_of}
use Rattle.drawing_svg.proofs.Tree.put.Given as goal

abbrev pub invariant-loop-node : goal.invariant-loop-node
invariant-loop-node l = Appends l.initial.text (each (edge_of (left_of l.self.side) l.self.bytes.now) l.node) l.text

abbrev pub invariant-loop-node-2 : goal.invariant-loop-node-2
invariant-loop-node-2 l =
    let tree = l.self in
    Appends l.initial.text (each (node_of tree.side tree.bytes.now tree.images.now tree.marked.start tree.marked.end) l.node) l.text

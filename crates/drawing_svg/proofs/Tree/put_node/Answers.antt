-- `put_node` meets its contract: the ellipse from the place and the role found.
use Rattle.drawing_svg.specs.Sheet.{node_of}
use Rattle.drawing_svg.proofs.Tree.put_node.Goals as goal

pub returns : goal.returns
unfolding node_of
returns c = rw (← c.point_of-at.ensures.x, ← c.point_of-at.ensures.y, ← c.from-place.ensures, ← c.role.ensures) c.put_node.ensures

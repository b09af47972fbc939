-- `leaves_needed` meets its contract. The stack has what the trees drawn by the bytes behind those that are left need.
use Rattle.std.proofs.Common.{◌≡◌, length, take}
use Rattle.regular_depth.proofs.LeavesNeeded.{Stacked}
use Rattle.regular_depth.proofs.Degree.leaves_needed.Given as goal

abbrev pub invariant-loop-children : goal.invariant-loop-children
invariant-loop-children l =
    let left = l.children-iterator.iter.rest.now in
    Stacked l.self.d l.source l.leaves.items (length left) × (left ≡ take (length left) l.source)

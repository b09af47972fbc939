-- `restrict` meets its contract. What is written, with what is left of both lists restricted, is the whole list restricted.
use Rattle.std.proofs.Common.{◌≡◌, ◌≤◌, ◌+◌, ◌++◌, length, take}
use Rattle.topology_reduction.specs.Reduced.{restricted}
use Rattle.topology_reduction.proofs.restrict.Given as goal

abbrev pub invariant-loop-children : goal.invariant-loop-children
invariant-loop-children l =
    let left = l.children-iterator in
    (length l.numbers.items + left.n ≤ 32)
    × (l.numbers.items ++ restricted (take left.n left.iter.a.rest.now) left.iter.b.rest.now ≡ restricted (take 32 l.bytes) l.list)

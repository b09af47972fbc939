use Rattle.std.proofs.Common.{arith, ◌≡◌, ◌<◌, sym, ap, ◌∙◌, get_or}
use Rattle.topology.specs.Branch.{start}
use Rattle.topology.proofs.Cases.{start_after}
use Rattle.topology.proofs.BranchEnd.{scan_none, end_start}
use Rattle.embedding_trees.proofs.BranchEnds.{filled_later}
use Rattle.embedding_trees.proofs.end_of.Goals as goal

pub returns-in_default : goal.returns-in_default
returns-in_default c = scan_none _ _ c.in_default.ensures.lookup.3

pub known_end-end-requires : goal.known_end-end-requires
known_end-end-requires c =
    let behind : c.args.node < c.loop.end = omega (arith, c.loop.invariant, start_after c.args.bytes.now c.args.node c.loop.counter) in
    filled_later _ _ _ _ behind c.requires

pub returns : goal.returns
returns c =
    let args = c.args in
    let all : c.loop.counter ≡ get_or args.bytes.now args.node 0 = omega (arith, c.in-Some.ensures.lookup.3.1 0) in
    c.loop.invariant ∙ ap (start args.bytes.now args.node) all ∙ sym (end_start args.bytes.now args.node c.in-Some.ensures.lookup.3.0)

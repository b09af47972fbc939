-- `depth` meets its contract: the nodes above are counted.
use Rattle.std.proofs.Common.{rules, tests}
use Rattle.topology.specs.Branch.{is_above}
use Rattle.topology_places.specs.Places.{depth}
use Rattle.topology_places.proofs.Chains.{counted_all}
use Rattle.topology_places.proofs.depth.Goals as goal

pub returns : goal.returns
unfolding depth
returns c =
    let filter = c.filter.ensures in
    counted_all (λ a. is_above c.args.bytes.now a c.args.node) c.args.node _ _ filter.source filter.closure c.count.ensures.ran
    (λ x b q k. search (rules, tests))

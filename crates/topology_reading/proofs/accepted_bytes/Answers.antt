-- `accepted_bytes` meets its contract: the beginnings that are accepted are counted.
use Rattle.std.proofs.Common.{◌≡◌, suc, ◌+◌, add-one, leb, take, rules, tests}
use Rattle.topology.specs.Reader.{fault}
use Rattle.topology_places.proofs.Chains.{counted_all}
use Rattle.topology_reading.specs.Accepted.{accepted_bytes}
use Rattle.topology_reading.proofs.accepted_bytes.Goals as goal

pub returns : goal.returns
unfolding accepted_bytes
returns c =
    let bytes = c.args.bytes.now in
    let filter = c.filter.ensures in
    counted_all (λ n. leb (fault c.args.limit (take (suc n) bytes)) 1) _ _ _ filter.source filter.closure c.count.ensures.ran
    (λ x b q k.
    let e : (q ≡ _) × (b ≡ leb (fault c.args.limit (take (x + 1) bytes)) 1) = search (rules, tests) in
    (e.0, rw (← add-one x) e.1))

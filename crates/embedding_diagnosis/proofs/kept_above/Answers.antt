use Rattle.std.proofs.Common.{◌&&◌, rules, tests}
use Rattle.topology.specs.Branch.{is_above}
use Rattle.topology_places.proofs.Chains.{counted_all}
use Rattle.embedding_diagnosis.specs.Misfit.{is_kept, kept_above}
use Rattle.embedding_diagnosis.proofs.kept_above.Goals as goal

pub returns : goal.returns
unfolding kept_above
returns c =
    let source = c.args.source.now in
    let filter = c.filter.ensures in
    counted_all (λ a. is_kept source a && is_above source a c.args.node) c.args.node _ _ filter.source filter.closure c.count.ensures.ran
    (λ x b q k. search (rules, tests))

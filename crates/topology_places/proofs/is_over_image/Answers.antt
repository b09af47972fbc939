-- `is_over_image` meets its contract: an image passes the test exactly where the count is not 0.
use Rattle.std.proofs.Common.{rules, tests}
use Rattle.topology.specs.Branch.{is_above}
use Rattle.topology_places.specs.Places.{images_under}
use Rattle.topology_places.proofs.Chains.{any_counted}
use Rattle.topology_places.proofs.is_over_image.Goals as goal

pub returns : goal.returns
unfolding images_under
returns c =
    any_counted (is_above c.args.bytes.now c.args.node) c.args.images.now _ _ _ c.iter.ensures.rest c.any.ensures.ran
    (λ x b q k. search (rules, tests))

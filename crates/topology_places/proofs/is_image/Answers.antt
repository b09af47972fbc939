-- `is_image` meets its contract: an image passes the test exactly where the count is not 0.
use Rattle.std.proofs.Common.{eqb, rules, tests}
use Rattle.topology_places.specs.Places.{images_at}
use Rattle.topology_places.proofs.Chains.{any_counted}
use Rattle.topology_places.proofs.is_image.Goals as goal

pub returns : goal.returns
unfolding images_at
returns c =
    let node = c.args.node in
    any_counted (λ x. eqb x node) c.args.images.now _ _ _ c.iter.ensures.rest c.any.ensures.ran (λ x b q k. search (rules, tests))

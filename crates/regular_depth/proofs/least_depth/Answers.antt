-- `least_depth` meets its contract. The topology is tested first, then the number of children; else the depth is the exponent of the leaves needed.
use Rattle.std.proofs.Common.{◌≡◌, leb, ◌&&◌, false, true, rules}
use Rattle.topology.specs.Reader.{fault}
use Rattle.regular_depth.proofs.LeastDepth.{not_2_to_8, needed_most, answered}
use Rattle.regular_depth.proofs.least_depth.Goals as goal

pub returns-then-not-contains : goal.returns-then-not-contains
returns-then-not-contains c =
    let drawn : 0 ≡ fault 32 c.args.source.now = search rules in
    let degree : leb 2 c.args.d && leb c.args.d 8 ≡ false = search rules in
    (not_2_to_8 _ _ drawn degree, tt)

pub least_power-requires : goal.least_power-requires
least_power-requires c =
    let drawn : 0 ≡ fault 32 c.args.source.now = search rules in
    let degree : leb 2 c.args.d && leb c.args.d 8 ≡ true = search rules in
    needed_most _ _ drawn degree _ c.leaves_needed.ensures

pub returns : goal.returns
returns c =
    let drawn : 0 ≡ fault 32 c.args.source.now = search rules in
    let degree : leb 2 c.args.d && leb c.args.d 8 ≡ true = search rules in
    rw c.least_power.ensures.exponent (answered _ _ drawn degree _ c.leaves_needed.ensures)

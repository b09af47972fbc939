-- Carrying a path as plain numbers: the carried path and 0, or the path as it was given and the refusal.
use Rattle.std.specs.Prelude.{◌≡◌, ◌≢◌, ℕ, List}
use Rattle.topology.specs.Reader.{tree}
use Rattle.queue_push.specs.Calls.{steps_of, path_of}
use Rattle.queue_push.specs.declared.Path.{Path}
use Rattle.pair_model.specs.Carrying.{carry}
use Rattle.translator.specs.Carry.{carry_fault}
use Rattle.exports_maps.specs.declared.Carried.{Carried}

pub record CarriesPlain (source target m : List ℕ) (path : Path) (r : Carried) : Type 0 where
  pub refusal : r.refusal ≡ carry_fault source target m (steps_of path)
  pub carried : r.refusal ≡ 0 → r.path ≡ path_of (carry (tree source) (tree target) m (steps_of path)) path.leaf_rank
  pub unaltered : r.refusal ≢ 0 → r.path ≡ path

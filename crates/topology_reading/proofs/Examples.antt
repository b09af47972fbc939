-- Examples from the definition: a byte at fault, bytes that end too early, and a byte after a complete tree.
use mathlib.Core.Path.{◌≡◌, refl}
use mathlib.Core.List.{[], ◌∷◌}
use Rattle.topology.specs.Reader.{fault}
use Rattle.topology_reading.specs.Accepted.{accepted_bytes}

pub record Read : Type 0 where
  pub nine_children : accepted_bytes 32 (3 ∷ 0 ∷ 2 ∷ 0 ∷ 9 ∷ 0 ∷ []) ≡ 4
  pub early : accepted_bytes 32 (3 ∷ 0 ∷ 2 ∷ []) ≡ 3
  pub after_tree : accepted_bytes 32 (1 ∷ 0 ∷ 0 ∷ 0 ∷ []) ≡ 2
  pub whole : accepted_bytes 32 (1 ∷ 0 ∷ []) ≡ 2
  pub over_limit : accepted_bytes 2 (2 ∷ 0 ∷ 0 ∷ []) ≡ 2

pub read_as_far : Read
unfolding fault accepted_bytes
read_as_far = record { nine_children = refl; early = refl; after_tree = refl; whole = refl; over_limit = refl }

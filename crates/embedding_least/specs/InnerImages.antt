-- For private functions: the least list of images, as the code has it.
use Rattle.std.specs.Prelude.{ℕ, List, Option, Some, None}
use Rattle.std.proofs.Math.Option.{none, some}
use Rattle.std.proofs.Math.Option as Math
use Rattle.topology_reduction.specs.Reduced.{in32}

-- a list of images in 32 places, if there is one
abbrev pub in_places : Math.Option (List ℕ) → Option (List ℕ)
in_places none = None
in_places (some m) = Some (in32 m)

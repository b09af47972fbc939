-- What the private function `descend` requires to go down from one node to another.
use Rattle.std.specs.Prelude.{◌≡◌, ℕ, ◌<◌, List, length}
use Rattle.topology.specs.Address.{Above, addr}
use Rattle.topology.specs.Reader.{fault, tree}

-- The bytes are a target's, and its node x is y or lies above it.
pub record Over (bytes : List ℕ) (x y : ℕ) : Type 0 where
  pub valid : fault 64 bytes ≡ 0
  pub upper : x < length bytes
  pub lower : y < length bytes
  pub above : Above (addr (tree bytes) x) (addr (tree bytes) y)

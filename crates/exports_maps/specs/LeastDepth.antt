-- A call that writes the least depth to the caller's number `depth`: its answer, and `depth` before and after it.
use Rattle.std.specs.Prelude.{◌≡◌, ◌≢◌, ℕ, List}
use Rattle.topology.specs.Reader.{tree}
use Rattle.regular_model.specs.Depth.{LeastDepth, depth_fault}

pub record GivesDepth (source : List ℕ) (d answer before after : ℕ) : Type 0 where
  pub refusal : answer ≡ depth_fault source d
  pub given : answer ≡ 0 → LeastDepth (tree source) d after
  pub unaltered : answer ≢ 0 → after ≡ before

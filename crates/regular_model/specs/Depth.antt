-- The least depth of a regular chip (paper 02, 2.3), defined by the four rules of a map alone: by `Passes` in embedding_model/specs/Rules, which
-- applies them to the reduced drawing.
use Rattle.std.specs.Prelude.{ℕ, ◌<◌, List, ◌&&◌, cond, leb}
use Rattle.base.specs.Refusals.{or_else}
use Rattle.topology.specs.Tree.{Topo}
use Rattle.topology.specs.Reader.{fault}
use Rattle.embedding_model.specs.Rules.{Passes}
use Rattle.regular_model.specs.Regular.{complete}

-- some list passes as a map
abbrev pub Loads : Topo → Topo → Type 0
Loads source target = (m : List ℕ) × Passes source target m

-- The drawing has a map into the complete tree of depth k, and into none that is less deep.
pub record LeastDepth (source : Topo) (d k : ℕ) : Type 0 where
  pub loads : Loads source (complete d k)
  pub least : (j : ℕ) → j < k → Loads source (complete d j) → ⊥

-- The refusal of a drawing and a number of children, in the order of the tests; or 0.
unfoldable pub depth_fault : List ℕ → ℕ → ℕ
depth_fault source d =
    let rest : ℕ = cond (leb 2 d && leb d 8) 0 27 in
    or_else (fault 32 source) rest

-- For the laws about the search: the least map of a drawing without passed nodes, such as a reduced drawing.
use Rattle.std.specs.Prelude.{ℕ, List}
use Rattle.std.proofs.Math.Option.{Option}
use Rattle.topology.specs.Tree.{Topo, code}
use Rattle.embedding_model.specs.Rules.{Embeds, Before}
use Rattle.embedding_model.specs.Least.{least_map}

-- an embedding with no other before it
pub record LeastEmbedding (S T : Topo) (m : List ℕ) : Type 0 where
  pub embeds : Embeds S T m
  pub first : (l : List ℕ) → Embeds S T l → Before l m → ⊥

-- the least embedding, as the definition of the search finds it
abbrev pub least : Topo → Topo → Option (List ℕ)
least source target = least_map (code source) (code target)

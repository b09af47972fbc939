-- The addresses of images.
use Rattle.std.specs.Prelude.{ℕ, List}
use Rattle.topology.specs.Tree.{Topo}
use Rattle.topology.specs.Address.{Addr, addr, num}
use Rattle.topology_reduction.specs.Kept.{kept_at}
use Rattle.embedding_model.specs.Rules.{image}

-- the address of the image of the source node at an address; for a node that is passed over, that of the next kept node below it
abbrev pub image_at : Topo → Topo → List ℕ → Addr → Addr
image_at S T m a = addr T (image m (num S (kept_at S a)))

-- A path carried over by node numbers, as the code computes it: from source node n on, and a whole path. `proofs/CarryNodes.antt` shows that on paths
-- without fault this is `carry`.
use Rattle.std.specs.Prelude.{ℕ, List, [], ◌∷◌, ◌++◌}
use Rattle.topology.specs.Tree.{Topo}
use Rattle.topology.specs.Address.{child_of, route}
use Rattle.topology_reduction.specs.InnerNodes.{kept_node}
use Rattle.pifo_model.specs.Tree.{Step, step}
use Rattle.embedding_model.specs.Rules.{image}
use Rattle.pair_model.specs.Carrying.{steps}

abbrev pub carry_nodes : Topo → Topo → List ℕ → ℕ → List Step → List Step
carry_nodes S T m n [] = []
carry_nodes S T m n (step i r ∷ ss) =
    steps r (route T (image m (kept_node S n)) (image m (kept_node S (child_of S n i)))) ++ carry_nodes S T m (child_of S n i) ss

abbrev pub carry_root : Topo → Topo → List ℕ → List Step → List Step
carry_root S T m ss = steps 0 (route T 0 (image m (kept_node S 0))) ++ carry_nodes S T m 0 ss

-- Worked paths, from the definitions alone.
use mathlib.Core.Path.{◌≡◌, refl}
use mathlib.Core.List.{[], ◌∷◌}
use Rattle.topology.specs.Tree.{Topo, node, fnil, fcons, leaf}
use Rattle.topology.specs.Address.{addr}
use Rattle.pifo_model.specs.Tree.{step}
use Rattle.pair_model.specs.Carrying.{carry}

-- Figure 3a of document 001: 3 0 0 0 in 2 0 2 0 0, with images 0 1 3 4. The path (2, 5) :: 7 becomes (2, 5) :: (1, 5) :: 7.
abbrev pub ternary : Topo
ternary = node (fcons leaf (fcons leaf (fcons leaf fnil)))

abbrev pub binary : Topo
binary = node (fcons leaf (fcons (node (fcons leaf (fcons leaf fnil))) fnil))

pub figure_path : carry ternary binary (0 ∷ 1 ∷ 3 ∷ 4 ∷ []) (step 2 5 ∷ []) ≡ step 2 5 ∷ step 1 5 ∷ []
unfolding addr
figure_path = refl

-- Passed nodes (paper 02, 2.2): the trees 1 0, 1 1 0, 2 0 0, 1 2 0 0 and 2 1 0 0.
abbrev single : Topo
single = node (fcons leaf fnil)

abbrev chain : Topo
chain = node (fcons single fnil)

abbrev fork : Topo
fork = node (fcons leaf (fcons leaf fnil))

abbrev deep_fork : Topo
deep_fork = node (fcons fork fnil)

abbrev long_arm : Topo
long_arm = node (fcons single (fcons leaf fnil))

-- a lone leaf, 0 in 1 0, image 1: the chip node above the image gets an entry toward it with rank 0
pub lone_leaf : carry leaf single (1 ∷ []) [] ≡ step 1 0 ∷ []
unfolding addr
lone_leaf = refl

-- a chain that ends in a leaf, 1 1 0 in 1 0, images 255 255 1: the ranks of its steps, 5 and 7, are not used
pub chain_path : carry chain single (255 ∷ 255 ∷ 1 ∷ []) (step 1 5 ∷ step 1 7 ∷ []) ≡ step 1 0 ∷ []
unfolding addr
chain_path = refl

-- a passed root, 1 2 0 0 in 2 0 0, images 255 0 1 2: its step is carried to no step
pub passed_root : carry deep_fork fork (255 ∷ 0 ∷ 1 ∷ 2 ∷ []) (step 1 5 ∷ step 2 7 ∷ []) ≡ step 2 7 ∷ []
unfolding addr
passed_root = refl

-- a passed node below a kept one, 2 1 0 0 in 2 0 0, images 0 255 1 2: the step to it is carried to a step toward the image of the leaf below it
pub passed_below : carry long_arm fork (0 ∷ 255 ∷ 1 ∷ 2 ∷ []) (step 1 5 ∷ step 1 7 ∷ []) ≡ step 1 5 ∷ []
unfolding addr
passed_below = refl

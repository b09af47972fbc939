-- Carrying a path over (paper 01; Definition 5.8 of document 001), for any function F from source addresses to the addresses of their images.
use Rattle.std.specs.Prelude.{ℕ, List, [], ◌∷◌, ◌++◌, map, length, drop}
use Rattle.topology.specs.Tree.{Topo}
use Rattle.topology.specs.Address.{Addr}
use Rattle.pifo_model.specs.Tree.{Step, step}
use Rattle.pair_model.specs.Embedding.{image_at}

-- steps of one rank, along given child numbers
abbrev pub steps : ℕ → Addr → List Step
steps r way = map (λ (k : ℕ). step k r) way

-- For a step from the node at address s to child i with rank r, every target node from the image of s down to, but without, the image of that child
-- gets the child number toward it, with rank r. These child numbers are what the address of the child's image has beyond the address of the image of
-- s.
abbrev pub carry_from : (Addr → Addr) → Addr → List Step → List Step
carry_from F s [] = []
carry_from F s (step i r ∷ ss) =
    steps r (drop (length (F s)) (F (s ++ (i ∷ [])))) ++ carry_from F (s ++ (i ∷ [])) ss

-- Since paper 02, 2.2: a step into a node that is passed over is carried as a step to the next kept node below it, and a step out of it gives no
-- target step, since F gives both nodes the same image. Target nodes above the image of the top kept node get the child toward it with rank 0. There
-- are such nodes only for a lone leaf; otherwise the top kept node goes to the root.
abbrev pub carry_by : (Addr → Addr) → List Step → List Step
carry_by F ss = steps 0 (F []) ++ carry_from F [] ss

abbrev pub carry : Topo → Topo → List ℕ → List Step → List Step
carry S T m ss = carry_by (image_at S T m) ss

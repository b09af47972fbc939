-- Examples from the definitions: the chip of samples/garden.hex with the images of its map, and a chip with the image of a lone leaf.
use mathlib.Core.Path.{◌≡◌, refl}
use Prim.Native.Nat.{ℕ}
use mathlib.Core.List.{List, [], ◌∷◌, map}
use Rattle.topology.specs.Branch.{branch_end, is_above}
use Rattle.topology_places.specs.Places.{depth, parent, child_number, trunk_from, images_at, images_under, role_of}
use Rattle.topology_places.specs.declared.Role.TheVariants.{Image, Between, Unused}

abbrev chip : List ℕ
chip = 2 ∷ 2 ∷ 0 ∷ 0 ∷ 2 ∷ 0 ∷ 0 ∷ []

abbrev nodes : List ℕ
nodes = 0 ∷ 1 ∷ 2 ∷ 3 ∷ 4 ∷ 5 ∷ 6 ∷ []

pub record Placed : Type 0 where
  pub depths : map (depth chip) nodes ≡ 0 ∷ 1 ∷ 2 ∷ 2 ∷ 1 ∷ 2 ∷ 2 ∷ []
  pub parents : map (parent chip) nodes ≡ 0 ∷ 0 ∷ 1 ∷ 1 ∷ 0 ∷ 4 ∷ 4 ∷ []
  pub children : map (child_number chip) nodes ≡ 0 ∷ 1 ∷ 1 ∷ 2 ∷ 2 ∷ 1 ∷ 2 ∷ []
  pub trunks : map (trunk_from chip) nodes ≡ 0 ∷ 0 ∷ 1 ∷ 2 ∷ 1 ∷ 4 ∷ 5 ∷ []
  -- the images of the garden's map, and of a map that does not use node 3
  pub between : role_of chip (0 ∷ 2 ∷ 4 ∷ 5 ∷ 6 ∷ 3 ∷ []) 1 ≡ Between
  pub image : role_of chip (0 ∷ 2 ∷ 4 ∷ 5 ∷ 6 ∷ 3 ∷ []) 3 ≡ Image
  pub unused : role_of chip (0 ∷ 2 ∷ []) 3 ≡ Unused
  -- a chip node above the image of a lone leaf, the source's node 1; source node 0 is a passed node
  pub over_leaf : role_of (1 ∷ 1 ∷ 0 ∷ []) (255 ∷ 2 ∷ []) 1 ≡ Between

pub placed : Placed
unfolding branch_end is_above depth parent child_number trunk_from images_at images_under role_of
placed = record { depths = refl; parents = refl; children = refl; trunks = refl; between = refl; image = refl; unused = refl; over_leaf = refl }

-- The depth, the parent and the child number of a node, and its role for a map, computed from the bytes of a topology. `proofs/Addresses.antt` and
-- `proofs/RoleExactly.antt` show what they mean if the bytes are a tree's.
use Rattle.std.specs.Prelude.{ℕ, zero, suc, ◌+◌, List, Bool, ◌||◌, cond, length, get_or, eqb}
use Rattle.topology.specs.Branch.{is_above}
use Rattle.topology_places.specs.declared.Role.{Role}
use Rattle.topology_places.specs.declared.Role.TheVariants.{Plain, Passed, Image, Between, Unused}

-- how many of the numbers below n pass a test
abbrev pub counted : (ℕ → Bool) → ℕ → ℕ
counted test zero = 0
counted test (suc n) = counted test n + cond (test n) 1 0

-- the last of the numbers below n that passes a test; 0 if none does
abbrev pub last_of : (ℕ → Bool) → ℕ → ℕ
last_of test zero = 0
last_of test (suc n) = cond (test n) n (last_of test n)

-- how many nodes lie above node k
unfoldable pub depth : List ℕ → ℕ → ℕ
depth bytes k = counted (λ a. is_above bytes a k) k

-- the lowest node above node k; 0 for the root
unfoldable pub parent : List ℕ → ℕ → ℕ
parent bytes k = last_of (λ a. is_above bytes a k) k

-- which child of its parent node k is, from 1: how many of the nodes 1 to k have k's parent; 0 for the root
unfoldable pub child_number : List ℕ → ℕ → ℕ
child_number bytes k = counted (λ j. eqb (parent bytes (j + 1)) (parent bytes k)) k

-- whether node j is on the trunk of a node: it is the node or has it as its parent
abbrev pub on_trunk : List ℕ → ℕ → ℕ → Bool
on_trunk bytes above j = eqb j above || eqb (parent bytes j) above

-- the node that comes before node k on its parent's trunk: its elder sibling, or its parent if it is child 1
unfoldable pub trunk_from : List ℕ → ℕ → ℕ
trunk_from bytes k = last_of (on_trunk bytes (parent bytes k)) k

-- The role of a source node, by its number of children: an inner node with one child is passed over.
unfoldable pub source_role : ℕ → Role
source_role children = cond (eqb children 1) Passed Plain

-- how many of the images are node k; and how many are node k or lie below it
unfoldable pub images_at : List ℕ → ℕ → ℕ
images_at images k = counted (λ a. eqb (get_or images a 0) k) (length images)

unfoldable pub images_under : List ℕ → List ℕ → ℕ → ℕ
images_under bytes images k = counted (λ a. is_above bytes k (get_or images a 0)) (length images)

-- The role of node k of a chip: plain if there are no images; else it is an image, or lies above one (`Between`), or neither (`Unused`).
unfoldable pub role_of : List ℕ → List ℕ → ℕ → Role
role_of bytes images k =
    let used = cond (eqb (images_under bytes images k) 0) Unused Between in
    let marked = cond (eqb (images_at images k) 0) used Image in
    cond (eqb (length images) 0) Plain marked

-- What the check and the search both compute first for two drawings: whether both are trees, and where their branches end.
use Rattle.std.specs.Prelude.{ℕ, zero, suc, List, [], ◌∷◌}
use Rattle.base.specs.Refusals.{or_else}
use Rattle.topology.specs.Reader.{fault}
use Rattle.topology.specs.Branch.{branch_end}

-- the reader's refusal of the source or, if that is a tree, of the target; or 0
abbrev pub trees_fault : List ℕ → List ℕ → ℕ
trees_fault source target = or_else (fault 32 source) (fault 64 target)

-- where the branches of the k nodes from n on end
abbrev pub ends_from : ℕ → List ℕ → ℕ → List ℕ
ends_from zero bytes n = []
ends_from (suc k) bytes n = branch_end bytes n ∷ ends_from k bytes (suc n)

-- the same of the nodes 0 to 63
unfoldable pub branch_ends : List ℕ → List ℕ
branch_ends bytes = ends_from 64 bytes 0

-- Branches, children, ancestry and the child toward a node, computed from the bytes of a topology. They are defined for any bytes and numbers;
-- `proofs/Lookup.antt` shows what they mean if the bytes are a tree's.
use Rattle.std.specs.Prelude.{ℕ, zero, suc, ◌+◌, ◌-◌, List, [], ◌∷◌, Bool, ◌&&◌, Option, None, Some, cond, length, take, drop, get_or, leb, ltb}
use Rattle.base.specs.Refusals.{or_else, unless_refused}
use Rattle.topology.specs.Reader.{fault}
use Rattle.topology.specs.declared.Child.{Child}

-- how many bytes k complete trees take; all bytes if they end before that
abbrev pub span : ℕ → List ℕ → ℕ
span k [] = 0
span zero (b ∷ bs) = 0
span (suc k) (b ∷ bs) = suc (span (b + k) bs)

-- one past the last node of the branch under node n (paper 01: the run of bytes that draws the subtree at n)
unfoldable pub branch_end : List ℕ → ℕ → ℕ
branch_end bytes n = n + span 1 (drop n bytes)

-- where the branch under child i + 1 of node n starts: right after n for the first child, else where the branch of the child before it ends
abbrev pub start : List ℕ → ℕ → ℕ → ℕ
start bytes n zero = suc n
start bytes n (suc i) = branch_end bytes (start bytes n i)

-- child i of node n
unfoldable pub child_at : List ℕ → ℕ → ℕ → Option ℕ
child_at bytes n zero = None
child_at bytes n (suc i) = cond (ltb i (get_or bytes n 0)) (Some (start bytes n i)) None

-- whether node a is node b or lies above it
unfoldable pub is_above : List ℕ → ℕ → ℕ → Bool
is_above bytes a b = leb a b && ltb b (branch_end bytes a)

-- the first of the k children of node n from child i + 1 on that is node y or lies above it
abbrev pub toward_from : List ℕ → ℕ → ℕ → ℕ → ℕ → Option Child
toward_from bytes n y i zero = None
toward_from bytes n y i (suc k) =
    let rest = toward_from bytes n y (suc i) k in
    cond (is_above bytes (start bytes n i) y) (Some (record { number = suc i; node = start bytes n i })) rest

-- the child of node n that is node y or lies above it
unfoldable pub toward_at : List ℕ → ℕ → ℕ → Option Child
toward_at bytes n y = toward_from bytes n y 0 (get_or bytes n 0)

-- The refusal of a request for a branch: the topology's fault under the target's limit, then 19 for a node that is not there; or 0.
unfoldable pub branch_fault : List ℕ → ℕ → ℕ
branch_fault bytes n = or_else (fault 64 bytes) (cond (ltb n (length bytes)) 0 19)

-- the branch under node n as a part of the bytes; empty if the request is refused
unfoldable pub branch_part : List ℕ → ℕ → List ℕ
branch_part bytes n = unless_refused (branch_fault bytes n) (take (branch_end bytes n - n) (drop n bytes)) []

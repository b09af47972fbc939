-- A bound on the numbers of the reader's refusals.
use Prim.Native.Nat.{ℕ, suc, ◌≤◌}
use native.Mathlib.Omega.{arith}
use mathlib.Core.List.{List, [], ◌∷◌}
use mathlib.Core.Bool.{cond}
use lib.ListN.{length}
use lib.Dec.{eqb, leb, ltb}
use Rattle.base.proofs.Refusals.{or_else_most, cond_most}
use Rattle.topology.specs.Reader.{owing, marking, fault_at, fault_from, fault}

pub fault_most : (limit : ℕ) (bytes : List ℕ) → fault limit bytes ≤ 5
unfolding fault
fault_most limit bytes = from 0 1 [] bytes
  where
    from : (n debt : ℕ) (marks bs : List ℕ) → fault_from limit n debt marks bs ≤ 5
    from n debt marks [] = cond_most 5 (eqb debt 0) 0 1 (omega arith) (omega arith)
    from n debt marks (b ∷ bs) =
        let f5 = cond_most 5 (ltb 8 (length marks)) 5 0 (omega arith) (omega arith) in
        let f4 = cond_most 5 (ltb 8 b) 4 (cond (ltb 8 (length marks)) 5 0) (omega arith) f5 in
        let f3 = cond_most 5 (leb limit n) 3 (cond (ltb 8 b) 4 (cond (ltb 8 (length marks)) 5 0)) (omega arith) f4 in
        let f2 = cond_most 5 (eqb debt 0) 2 (cond (leb limit n) 3 (cond (ltb 8 b) 4 (cond (ltb 8 (length marks)) 5 0))) (omega arith) f3 in
        or_else_most 5 (fault_at limit n debt (length marks) b) (fault_from limit (suc n) (owing debt b) (marking debt marks b) bs) f2
        (from (suc n) (owing debt b) (marking debt marks b) bs)

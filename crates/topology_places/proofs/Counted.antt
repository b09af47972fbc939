-- Bounds on what is counted or found.
use Prim.Native.Nat.{ℕ, zero, suc, ◌+◌, ◌≤◌}
use native.Mathlib.Omega.{arith}
use mathlib.Core.Bool.{Bool, true, false, cond}
use mathlib.Core.List.{List}
use lib.Dec.{eqb}
use Rattle.topology.specs.Branch.{is_above}
use Rattle.topology_places.specs.Places.{counted, last_of, depth, parent, child_number, on_trunk, trunk_from}

pub counted_most : (test : ℕ → Bool) (n : ℕ) → counted test n ≤ n
counted_most test zero = omega arith
counted_most test (suc n) = by_test (test n) (counted_most test n)
  where
    by_test : (b : Bool) → counted test n ≤ n → counted test n + cond b 1 0 ≤ suc n
    by_test true h = omega arith
    by_test false h = omega arith

pub last_most : (test : ℕ → Bool) (n : ℕ) → last_of test n ≤ n
last_most test zero = omega arith
last_most test (suc n) = by_test (test n) (last_most test n)
  where
    by_test : (b : Bool) → last_of test n ≤ n → cond b n (last_of test n) ≤ suc n
    by_test true h = omega arith
    by_test false h = omega arith

pub depth_most : (bytes : List ℕ) (k : ℕ) → depth bytes k ≤ k
unfolding depth
depth_most bytes k = counted_most (λ a. is_above bytes a k) k

pub parent_most : (bytes : List ℕ) (k : ℕ) → parent bytes k ≤ k
unfolding parent
parent_most bytes k = last_most (λ a. is_above bytes a k) k

pub number_most : (bytes : List ℕ) (k : ℕ) → child_number bytes k ≤ k
unfolding child_number
number_most bytes k = counted_most (λ j. eqb (parent bytes (j + 1)) (parent bytes k)) k

pub trunk_most : (bytes : List ℕ) (k : ℕ) → trunk_from bytes k ≤ k
unfolding trunk_from
trunk_most bytes k = last_most (on_trunk bytes (parent bytes k)) k

-- no place has a greater number than its node
pub ruleset bounds = (depth_most, parent_most, number_most, trunk_most)

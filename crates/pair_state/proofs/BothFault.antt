-- A bound on the number by which an opening of both trees is refused.
use Prim.Native.Nat.{ℕ, ◌≤◌}
use native.Mathlib.Omega.{arith}
use mathlib.Core.List.{List}
use Rattle.base.proofs.Refusals.{or_else_most}
use Rattle.embedding_model.specs.Least.{search_fault}
use Rattle.embedding_model.proofs.Search.{search_most}
use Rattle.queue_limit.specs.Limit.{limit_fault}
use Rattle.queue_limit.proofs.Limit.{limit_most}
use Rattle.pair_state.specs.Opening.{both_fault}

pub both_most : (source target : List ℕ) (limit : ℕ) → both_fault source target limit ≤ 17
unfolding both_fault
both_most source target limit =
    let s = search_most source target in
    or_else_most 17 (search_fault source target) (limit_fault limit) (omega (arith, s)) (limit_most limit)

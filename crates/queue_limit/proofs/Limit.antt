-- When a packet limit is refused.
use Rattle.std.proofs.Common.{◌≡◌, ℕ, ◌≤◌, arith}
use Rattle.std.proofs.lemmas.Grind.{common_steps}
use Rattle.queue_limit.specs.Limit.{limit_fault}

pub limit_good : (limit : ℕ) → 1 ≤ limit → limit ≤ 256 → limit_fault limit ≡ 0
limit_good limit l h = grind (arith, common_steps)

pub limit_range : (limit : ℕ) → limit_fault limit ≡ 0 → (1 ≤ limit) × (limit ≤ 256)
limit_range limit e = grind (arith, common_steps)

pub limit_most : (limit : ℕ) → limit_fault limit ≤ 17
limit_most limit = grind (arith, common_steps)

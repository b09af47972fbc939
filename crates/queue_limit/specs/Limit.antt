-- The refusal of a packet limit: 17 for one that is not 1 to 256; or 0.
use Rattle.std.specs.Prelude.{ℕ, ◌&&◌, cond, leb}

abbrev pub limit_fault : ℕ → ℕ
limit_fault limit = cond (leb 1 limit && leb limit 256) 0 17

-- A search that writes its map to the caller's bytes `out`: its answer, and `out` after it.
use Rattle.std.specs.Prelude.{ℕ, zero, suc, List, ◌++◌, cond, length, drop, ltb}
use Rattle.base.specs.Refusals.{or_else}
use Rattle.embedding_model.specs.Least.{search_fault, search_map}

-- the search's refusal; then 255, which is no refusal's number, if `out` has no room for 32 numbers; or 0
unfoldable pub search_number : List ℕ → List ℕ → List ℕ → ℕ
search_number source target out = or_else (search_fault source target) (cond (ltb (length out) 32) 255 0)

-- `out` with the map in its first 32 places; unchanged if the answer is not 0
abbrev pub out_by : ℕ → List ℕ → List ℕ → List ℕ
out_by zero map out = map ++ drop 32 out
out_by (suc n) map out = out

unfoldable pub search_out : List ℕ → List ℕ → List ℕ → List ℕ
search_out source target out = out_by (search_number source target out) (search_map source target) out

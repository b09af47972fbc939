-- A drawing with too many bytes need not be kept whole: with its bytes up to one more than the limit an opening of both trees is refused by the same
-- number and, if it is not refused, they are the whole drawing.
use mathlib.Core.Path.{◌≡◌, ap}
use Prim.Native.Nat.{ℕ, ◌≤◌}
use mathlib.Core.List.{List}
use lib.ListN.{length, take}
use Rattle.base.specs.Refusals.{or_else}
use Rattle.base.proofs.Refusals.{or_else_none}
use Rattle.topology.specs.Reader.{fault}
use Rattle.topology.proofs.Lookup.{valid_length}
use Rattle.topology.proofs.PrefixFault.{prefix_whole}
use Rattle.embedding_model.specs.Least.{search_fault}
use Rattle.embedding_model.proofs.Search.{faultless}
use Rattle.embedding_least.proofs.NumberKept.{number-kept}
use Rattle.queue_limit.specs.Limit.{limit_fault}
use Rattle.pair_state.specs.Opening.{both_fault}

module _ (s t : List ℕ) (limit : ℕ) where
  pub both-kept : both_fault (take 33 s) (take 65 t) limit ≡ both_fault s t limit
  unfolding both_fault
  both-kept = ap (λ (f : ℕ). or_else f (limit_fault limit)) (number-kept s t)

  pub both_found : both_fault s t limit ≡ 0 → search_fault s t ≡ 0
  unfolding both_fault
  both_found e = (or_else_none (search_fault s t) (limit_fault limit) e).0

  pub both_trees : both_fault s t limit ≡ 0 → (fault 32 s ≡ 0) × (fault 64 t ≡ 0)
  both_trees e = faultless s t (both_found e)

  pub both_whole : both_fault s t limit ≡ 0 → (take 33 s ≡ s) × (take 65 t ≡ t)
  both_whole e = let f = both_trees e in (prefix_whole 32 s f.0, prefix_whole 64 t f.1)

  pub both_few : both_fault s t limit ≡ 0 → length s ≤ 32
  both_few e = valid_length 32 s (both_trees e).0

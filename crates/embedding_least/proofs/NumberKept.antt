-- Of a drawing with too many bytes no more than one byte past the limit need be kept: the bytes that are kept have the same fault and, if they have
-- none, they are the whole drawing, so that the search has the same refusal.
use Rattle.std.proofs.Common.{◌≡◌, ℕ, zero, suc, List, take, refl}
use Rattle.base.specs.Refusals.{or_else}
use Rattle.topology.specs.Reader.{fault}
use Rattle.topology.proofs.PrefixFault.{prefix-fault, prefix_whole}
use Rattle.embedding_model.specs.Least.{least_of, none_fault, search_fault}

pub number-kept : (s t : List ℕ) → search_fault (take 33 s) (take 65 t) ≡ search_fault s t
unfolding search_fault
number-kept s t = rw (prefix-fault 32 s, prefix-fault 64 t) (by_fault (fault 32 s) (fault 64 t) refl refl)
  where
    by_fault : (f g : ℕ) → fault 32 s ≡ f → fault 64 t ≡ g
        → or_else f (or_else g (none_fault (least_of (take 33 s) (take 65 t)))) ≡ or_else f (or_else g (none_fault (least_of s t)))
    by_fault zero zero e d = rw (prefix_whole 32 s e, prefix_whole 64 t d) refl
    by_fault zero (suc g) e d = refl
    by_fault (suc f) g e d = refl

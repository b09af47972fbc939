-- Bytes beyond the limit of a tree. The reader meets a fault at the byte after the limit at the latest. So the bytes up to that one have the same
-- fault as all bytes and, where they have none, they are all bytes: code that stores bytes for the reader need not store more.
use mathlib.Core.Path.{◌≡◌, refl}
use Prim.Native.Nat.{ℕ, zero, suc, ◌+◌, ◌≤◌}
use native.Mathlib.Omega.{arith}
use mathlib.Core.List.{List, [], ◌∷◌}
use lib.ListN.{length, take}
use lib.Seq.{take_all}
use Rattle.base.proofs.Refusals.{or_else_same}
use Rattle.topology.specs.Reader.{owing, marking, fault_at, fault_from, fault}
use Rattle.topology.proofs.Reader.{sound}
use Rattle.topology.proofs.Lookup.{valid_length}

fault-part : (limit n k debt : ℕ) (marks bs : List ℕ) → n ≤ limit → n + k ≡ suc limit
    → fault_from limit n debt marks (take k bs) ≡ fault_from limit n debt marks bs
fault-part limit n zero debt marks bs l e = absurd (omega arith)
fault-part limit n (suc k) debt marks [] l e = refl
fault-part limit n (suc k) debt marks (b ∷ bs) l e =
    let rest : List ℕ → ℕ = fault_from limit (suc n) (owing debt b) (marking debt marks b) in
    or_else_same (fault_at limit n debt (length marks) b) (rest (take k bs)) (rest bs)
    (λ z. fault-part limit (suc n) k (owing debt b) (marking debt marks b) bs (sound limit n debt (length marks) b z).nodes (omega arith))

module _ (limit : ℕ) (bytes : List ℕ) where
  pub prefix-fault : fault limit (take (suc limit) bytes) ≡ fault limit bytes
  unfolding fault
  prefix-fault = fault-part limit 0 (suc limit) 1 [] bytes (omega arith) (omega arith)

  pub prefix_whole : fault limit bytes ≡ 0 → take (suc limit) bytes ≡ bytes
  prefix_whole e = take_all (suc limit) bytes (omega (arith, valid_length limit bytes e))

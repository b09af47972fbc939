-- How far a topology is read before its fault. `proofs/FirstFault.antt` shows what the number means.
use Rattle.std.specs.Prelude.{ℕ, suc, List, length, take, leb}
use Rattle.topology.specs.Reader.{fault}
use Rattle.topology_places.specs.Places.{counted}

-- how many bytes are accepted: how many beginnings of the bytes, by one byte or more, have no fault but 1
unfoldable pub accepted_bytes : ℕ → List ℕ → ℕ
accepted_bytes limit bytes = counted (λ n. leb (fault limit (take (suc n) bytes)) 1) (length bytes)

-- What follows for bytes without fault.
use mathlib.Core.Path.{◌≡◌, ap}
use Prim.Native.Nat.{ℕ, ◌≤◌, ◌<◌}
use native.Mathlib.Omega.{arith}
use mathlib.Core.List.{List}
use lib.ListN.{length}
use Rattle.topology.specs.Reader.{fault, tree}
use Rattle.topology.proofs.Reader.{drawn, within}
use Rattle.topology.proofs.Ancestry.{size_pos}
use Rattle.topology.proofs.Decoding.{length_code}

-- the length of bytes without fault
pub tree-fits : (limit : ℕ) (bytes : List ℕ) → fault limit bytes ≡ 0 → (0 < length bytes) × (length bytes ≤ limit)
tree-fits limit bytes z =
    let l = (within limit bytes z).nodes in
    let s = ap length (drawn limit bytes z) in
    let n = length_code (tree bytes) in
    let p = size_pos (tree bytes) in
    (omega arith, omega arith)

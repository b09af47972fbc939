-- What the reader reads from an offset on: the read at that offset and, if it is a command, what it reads from the next offset on. The bound on the
-- number of commands makes no difference (`same`).
use mathlib.Core.Path.{◌≡◌, refl, ap}
use Prim.Native.Nat.{ℕ, zero, suc, ◌+◌, ◌<◌}
use native.Mathlib.Omega.{arith}
use mathlib.Core.List.{List}
use lib.ListN.{length}
use Rattle.script_commands.specs.declared.Read.{Read}
use Rattle.script_commands.specs.declared.Read.TheVariants.{End, Next, Refused}
use Rattle.script_commands.specs.Reading.{read_at, next_at, reads_by, reads_from, reads}
use Rattle.script_commands.proofs.ReadAt.{further}

module _ (script : List ℕ) where
  same : (k j at : ℕ) → length script < at + k → length script < at + j → 0 < k → 0 < j → reads_from k script at ≡ reads_from j script at
  same zero j at h g a b = absurd (omega arith)
  same (suc k) zero at h g a b = absurd (omega arith)
  same (suc k) (suc j) at h g a b = by_read (read_at script at) refl (λ h g a b. same k j (next_at script at) h g a b)
    where
      by_read : (r : Read) → read_at script at ≡ r
          → (length script < next_at script at + k → length script < next_at script at + j → 0 < k → 0 < j
          → reads_from k script (next_at script at) ≡ reads_from j script (next_at script at))
          → reads_by r (reads_from k script (next_at script at)) ≡ reads_by r (reads_from j script (next_at script at))
      by_read End e more = refl
      by_read (Refused n offset) e more = refl
      by_read (Next c offset) e more =
          let f = further script at c offset e in
          ap (reads_by (Next c offset)) (more (omega (arith, f)) (omega (arith, f)) (omega (arith, f)) (omega (arith, f)))

  pub reads_by_lem : (at : ℕ) → reads script at ≡ reads_by (read_at script at) (reads script (next_at script at))
  unfolding reads
  reads_by_lem at = by_read (read_at script at) refl
    where
      by_read : (r : Read) → read_at script at ≡ r
          → reads_by r (reads_from (length script) script (next_at script at)) ≡ reads_by r (reads_from (suc (length script)) script (next_at script at))
      by_read End e = refl
      by_read (Refused n offset) e = refl
      by_read (Next c offset) e =
          let f = further script at c offset e in
          let enough = same (length script) (suc (length script)) (next_at script at) in
          ap (reads_by (Next c offset)) (enough (omega (arith, f)) (omega (arith, f)) (omega (arith, f)) (omega arith))

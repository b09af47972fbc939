-- `main` is safe: it lends its buffer whole.
use mathlib.Core.Path.{sym}
use Prim.Native.Nat.{ℕ}
use lib.ListN.{length-replicate}
use Rattle.gatewalk.proofs.main.Goals as goal

pub slice_bounds-run_program-end : goal.slice_bounds-run_program-end
slice_bounds-run_program-end c = sym (length-replicate {0} {A = ℕ} 852100 0)

-- A script stops after the refusal of an opening.
use mathlib.Core.Path.{◌≡◌, refl}
use mathlib.Core.Logic.{◌⊎◌, inl, inr}
use Prim.Native.Nat.{ℕ, zero, suc, ◌≤◌}
use native.Mathlib.Omega.{arith}
use mathlib.Core.List.{List}
use mathlib.Core.Bool.{Bool, true, false, not, ◌&&◌, cond}
use mathlib.Core.Option.{Option, none, some}
use lib.Dec.{leb}
use borrow.Author.Tests.{lt-leb}
use Rattle.base.specs.Refusals.{or_else}
use Rattle.topology.specs.Reader.{fault}
use Rattle.topology.proofs.FaultMost.{fault_most}
use Rattle.embedding_model.specs.Least.{none_fault, least_of, search_fault}
use Rattle.queue_limit.specs.Limit.{limit_fault}
use Rattle.pair_state.specs.Opening.{both_fault}
use Rattle.script_run.specs.Execute.{refused_by, stops}

-- a number that is not 13 to 16
abbrev Beside : ℕ → Type 0
Beside f = (f ≤ 12) ⊎ (17 ≤ f)

beside_or : (f g : ℕ) → Beside f → Beside g → Beside (or_else f g)
beside_or zero g h k = k
beside_or (suc f) g h k = h

beside-pick : (b : Bool) (f g : ℕ) → Beside f → Beside g → Beside (cond b f g)
beside-pick true f g h k = h
beside-pick false f g h k = k

beside-fault : (limit : ℕ) (bytes : List ℕ) → Beside (fault limit bytes)
beside-fault limit bytes = inl (omega (arith, fault_most limit bytes))

beside_none : (f : Option (List ℕ)) → Beside (none_fault f)
beside_none none = inl (omega arith)
beside_none (some m) = inl (omega arith)

stops-beside : (f : ℕ) → Beside f → stops (refused_by f) ≡ true
stops-beside f (inl h) = simp (lt-leb 13 f (omega arith))
stops-beside f (inr h) = by_test (leb 13 f)
  where
    by_test : (b : Bool) → not (b && leb f 16) ≡ true
    by_test true = simp (lt-leb f 16 (omega arith))
    by_test false = refl

pub stops-opening : (s t : List ℕ) (limit : ℕ) → stops (refused_by (both_fault s t limit)) ≡ true
unfolding both_fault search_fault
stops-opening s t limit =
    stops-beside _
    (beside_or (search_fault s t) (limit_fault limit)
    (beside_or (fault 32 s) _ (beside-fault 32 s) (beside_or (fault 64 t) _ (beside-fault 64 t) (beside_none (least_of s t))))
    (beside-pick (leb 1 limit && leb limit 256) 0 17 (inl (omega arith)) (inr (omega arith))))

-- For every drawing and every number of children there is an answer, and only one.
use Rattle.std.proofs.Common.{◌≡◌, ℕ, zero, suc, ◌≤◌, List, Bool, true, false, ◌&&◌, leb, cond, Result, Ok, Err}
use Rattle.std.proofs.Common.{refl, sym, ap, ◌∙◌, arith}
use borrow.Author.Tests.{leb-true}
use Rattle.base.proofs.Refusals.{or_else_none, or_else_most, cond_most}
use Rattle.std.proofs.lemmas.Bool.{and_parts}
use Rattle.refusal.specs.declared.Refusal.{Refusal}
use Rattle.refusal.proofs.Numbers.{number-ne0, number-injective, numbered}
use Rattle.topology.specs.Reader.{fault, tree}
use Rattle.topology.proofs.FaultMost.{fault_most}
use Rattle.regular_model.specs.Depth.{depth_fault}
use Rattle.regular_model.specs.InnerNeed.{need}
use Rattle.regular_model.proofs.Depth.{depth_once}
use Rattle.regular_model.proofs.ReducedNeed.{depth_needed}
use Rattle.regular_depth.specs.Answers.{Answers}

module _ (source : List ℕ) (d : ℕ) where
  -- without a refusal the bytes are the code of a tree, and d is 2 or more
  pub depth-drawn : depth_fault source d ≡ 0 → fault 32 source ≡ 0
  unfolding depth_fault
  depth-drawn e = (or_else_none (fault 32 source) (cond (leb 2 d && leb d 8) 0 27) e).0

  wide : depth_fault source d ≡ 0 → 2 ≤ d
  unfolding depth_fault
  wide e = by_test (leb 2 d && leb d 8) refl (or_else_none (fault 32 source) (cond (leb 2 d && leb d 8) 0 27) e).1
    where
      by_test : (b : Bool) → leb 2 d && leb d 8 ≡ b → ◌≡◌ {A = ℕ} (cond b 0 27) 0 → 2 ≤ d
      by_test true q e = leb-true 2 d (and_parts (leb 2 d) (leb d 8) q).0
      by_test false q e = absurd (omega arith)

  depth_fault_most : depth_fault source d ≤ 27
  unfolding depth_fault
  depth_fault_most =
      or_else_most 27 (fault 32 source) (cond (leb 2 d && leb d 8) 0 27) (omega (arith, fault_most 32 source))
      (cond_most 27 (leb 2 d && leb d 8) 0 27 (omega arith) (omega arith))

  pub answers_some : (a : Result ℕ Refusal) × Answers source d a
  answers_some = by_fault (depth_fault source d) refl depth_fault_most
    where
      by_fault : (f : ℕ) → depth_fault source d ≡ f → f ≤ 27 → (a : Result ℕ Refusal) × Answers source d a
      by_fault zero e most = (Ok (need d (tree source)), (sym e, depth_needed d (wide e) (tree source)))
      by_fault (suc f) e most = let n = numbered f most in (Err n.0, (n.1 ∙ sym e, tt))

  pub answers_once : (a b : Result ℕ Refusal) → Answers source d a → Answers source d b → a ≡ b
  answers_once (Ok j) (Ok k) u v = ap Ok (depth_once (tree source) d j k u.1 v.1)
  answers_once (Ok j) (Err e) u v = absurd (number-ne0 e (v.0 ∙ sym u.0))
  answers_once (Err e) (Ok k) u v = absurd (number-ne0 e (u.0 ∙ sym v.0))
  answers_once (Err e) (Err f) u v = ap Err (number-injective e f (u.0 ∙ sym v.0))

-- The refusals of the openings of a chip's tree and of both trees, in the order of the tests.
use mathlib.Core.Path.{◌≡◌, sym}
use Prim.Native.Nat.{ℕ}
use native.Mathlib.Omega.{arith}
use mathlib.Core.List.{List}
use Rattle.base.specs.Refusals.{or_else}
use Rattle.refusal.specs.Numbers.{number}
use Rattle.refusal.specs.declared.Refusal.{Refusal}
use Rattle.refusal.proofs.Numbers.{refused_first, accepted_first}
use Rattle.topology.specs.Reader.{fault, tree}
use Rattle.topology.proofs.Reader.{fault_wider}
use Rattle.queue_state.specs.Opening.{open_fault}
use Rattle.discipline_model.specs.Figure.{rule_fault}
use Rattle.discipline_model.specs.declared.Rule.{Rule}
use Rattle.pair_state.specs.Opening.{both_fault}
use Rattle.pair_state.proofs.Truncated.{both_trees}
use Rattle.chip_state.specs.Opening.{chip_fault}
use Rattle.chip_open.specs.Opening.{both_trees_fault}

module _ (source target : List ℕ) (limit : ℕ) (rules : List Rule) where
  abbrev judged : ℕ
  judged = rule_fault (tree source) rules

  -- ---- a chip's tree for a drawing

  pub source_refused : (e : Refusal) → number e ≡ fault 32 source → number e ≡ chip_fault source target limit rules
  unfolding chip_fault
  source_refused e h = refused_first e (fault 32 source) (or_else (open_fault target limit) judged) h

  module _ (valid : 0 ≡ fault 32 source) where
    pub target_refused : (e : Refusal) → number e ≡ open_fault target limit → number e ≡ chip_fault source target limit rules
    unfolding chip_fault
    target_refused e h =
        accepted_first (fault 32 source) (or_else (open_fault target limit) judged) (number e) valid (refused_first e (open_fault target limit) judged h)

    pub rules_judged : (n : ℕ) → 0 ≡ open_fault target limit → (fault 64 source ≡ 0 → n ≡ judged) → n ≡ chip_fault source target limit rules
    unfolding chip_fault
    rules_judged n z is =
        accepted_first (fault 32 source) (or_else (open_fault target limit) judged) n valid
        (accepted_first (open_fault target limit) judged n z (is (fault_wider 32 64 source (omega arith) (sym valid))))

  -- ---- both trees

  pub pair_refused : (e : Refusal) → number e ≡ both_fault source target limit → number e ≡ both_trees_fault source target limit rules
  unfolding both_trees_fault
  pair_refused e h = refused_first e (both_fault source target limit) judged h

  pub both_judged : (n : ℕ) → 0 ≡ both_fault source target limit → (fault 64 source ≡ 0 → n ≡ judged) → n ≡ both_trees_fault source target limit rules
  unfolding both_trees_fault
  both_judged n z is =
      accepted_first (both_fault source target limit) judged n z
      (is (fault_wider 32 64 source (omega arith) (both_trees source target limit (sym z)).0))

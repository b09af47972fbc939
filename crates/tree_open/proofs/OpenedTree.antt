-- The refusals of an opening with disciplines: the state's, then the rules'.
use mathlib.Core.Path.{◌≡◌, sym}
use Prim.Native.Nat.{ℕ}
use mathlib.Core.List.{List}
use Rattle.base.proofs.Refusals.{or_else_none}
use Rattle.refusal.specs.Numbers.{number}
use Rattle.refusal.specs.declared.Refusal.{Refusal}
use Rattle.refusal.proofs.Numbers.{refused_first, accepted_first}
use Rattle.topology.specs.Reader.{fault, tree}
use Rattle.queue_limit.specs.Limit.{limit_fault}
use Rattle.queue_state.specs.Opening.{open_fault}
use Rattle.discipline_model.specs.Figure.{rule_fault}
use Rattle.discipline_model.specs.declared.Rule.{Rule}
use Rattle.tree_state.specs.Opening.{tree_fault}

module _ (bytes : List ℕ) (limit : ℕ) (rules : List Rule) where
  pub state_refused : (e : Refusal) → number e ≡ open_fault bytes limit → number e ≡ tree_fault bytes limit rules
  unfolding tree_fault
  state_refused e h = refused_first e (open_fault bytes limit) (rule_fault (tree bytes) rules) h

  -- an accepted state has a tree's topology, so that the rules are tested in that tree
  pub rules_judged : (n : ℕ) → 0 ≡ open_fault bytes limit → (fault 64 bytes ≡ 0 → n ≡ rule_fault (tree bytes) rules) → n ≡ tree_fault bytes limit rules
  unfolding tree_fault open_fault
  rules_judged n z is =
      let valid = (or_else_none (fault 64 bytes) (limit_fault limit) (sym z)).0 in
      accepted_first (open_fault bytes limit) (rule_fault (tree bytes) rules) n z (is valid)

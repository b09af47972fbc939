-- The first tests of a call on a chip's tree (`first_fault`), case by case. If they refuse, their number is that of the whole call
-- (`first_number`). If not, the drawing is a tree, and only the chip's state can make the tree ill formed (`kept-formed`).
use mathlib.Core.Path.{◌≡◌, refl, sym, ap, ◌∙◌}
use mathlib.Core.Logic.{◌≢◌}
use Prim.Native.Nat.{ℕ, zero, suc, ◌≤◌, ◌<◌}
use native.Mathlib.Omega.{arith}
use mathlib.Core.List.{List}
use mathlib.Core.Bool.{Bool, true, false, ◌&&◌, cond}
use lib.Dec.{eqb, leb}
use borrow.Author.Tests.{le-leb, lt-leb}
use Rattle.base.specs.Refusals.{or_else}
use Rattle.base.proofs.Refusals.{or_else_none}
use Rattle.std.proofs.lemmas.Bool.{and_parts}
use Rattle.std.specs.Prelude.{Result, is_ok}
use Rattle.refusal.specs.Numbers.{number, number_of}
use Rattle.refusal.specs.declared.Refusal.{Refusal}
use Rattle.refusal.proofs.Numbers.{refused_first, is_ok-number}
use Rattle.topology.specs.Reader.{fault, tree}
use Rattle.topology.proofs.Reader.{fault_wider}
use Rattle.queue_state.specs.State.{well_formed}
use Rattle.queue_state.proofs.WellFormed.{formed}
use Rattle.discipline_model.specs.Figure.{rule_fault}
use Rattle.discipline_model.specs.declared.Rule.{Rule}
use Rattle.tree_state.specs.Calls.{well_formed_by}
use Rattle.tree_state.specs.declared.Tree.{Tree}
use Rattle.chip_counts.specs.FirstFault.{first_fault}

-- ---- what the first tests answer

module _ (source : List ℕ) (nodes : ℕ) (rules : List Rule) where
  pub drawing-fault : (e : Refusal) → number e ≡ fault 32 source → number e ≡ first_fault source nodes rules
  unfolding first_fault
  drawing-fault e h = refused_first e (fault 32 source) (cond (leb nodes 64 && eqb (rule_fault (tree source) rules) 0) 0 18) h

  module _ (valid : 0 ≡ fault 32 source) where
    pub too_many : 64 < nodes → 18 ≡ first_fault source nodes rules
    unfolding first_fault
    too_many h = rw (← valid, lt-leb nodes 64 h) refl

    pub judged : nodes ≤ 64 → (o : Result Unit Refusal) → (fault 64 source ≡ 0 → number_of o ≡ rule_fault (tree source) rules)
        → first_fault source nodes rules ≡ cond (is_ok o) 0 18
    unfolding first_fault
    judged h o is =
        rw (← valid, le-leb nodes 64 h, ← is_ok-number o (rule_fault (tree source) rules) (is (fault_wider 32 64 source (omega arith) (sym valid)))) refl

-- ---- what follows for the tree

module _ (source : List ℕ) (t : Tree) where
  -- a tree whose state is not well formed, or whose rules have a fault, is not well formed by the drawing
  pub not_formed : well_formed t.state ≡ false → well_formed_by (tree source) t ≡ false
  unfolding well_formed_by
  not_formed n = rw n refl

  abbrev passes_first : Bool
  passes_first = leb t.state.frame.nodes 64 && eqb (rule_fault (tree source) t.disciplines.rules) 0

  not_kept : passes_first ≡ false → well_formed_by (tree source) t ≡ false
  unfolding well_formed_by
  not_kept e = by_form (well_formed t.state) refl
    where
      sound : Bool
      sound = eqb (rule_fault (tree source) t.disciplines.rules) 0

      by_form : (w : Bool) → well_formed t.state ≡ w → (w && sound) ≡ false
      by_form false i = refl
      by_form true w = sym (ap (λ (b : Bool). b && sound) (le-leb t.state.frame.nodes 64 (formed t.state w).nodes)) ∙ e

  module _ (n : ℕ) (e : n ≡ first_fault source t.state.frame.nodes t.disciplines.rules) where
    -- if it refuses, its number is the first of the drawing and the tree, whatever is tested after them
    pub first_number : n ≢ 0 → (after : ℕ) → or_else (fault 32 source) (cond (well_formed_by (tree source) t) after 18) ≡ n
    unfolding first_fault
    first_number z after = by_drawing (fault 32 source) (λ k. z (e ∙ k)) ∙ sym e
      where
        by_test : (b : Bool) → passes_first ≡ b → ◌≢◌ {A = ℕ} (cond b 0 18) 0 → cond (well_formed_by (tree source) t) after 18 ≡ cond b 0 18
        by_test true k z = absurd (z refl)
        by_test false k z = ap (λ (b : Bool). cond b after 18) (not_kept k)

        by_drawing : (f : ℕ) → or_else f (cond passes_first 0 18) ≢ 0 → or_else f (cond (well_formed_by (tree source) t) after 18) ≡ or_else f (cond passes_first 0 18)
        by_drawing zero z = by_test passes_first refl z
        by_drawing (suc f) z = refl

    -- if it does not refuse, the drawing is a tree, the state has no more nodes than a tree can have, and the rules have no fault
    module _ (z : n ≡ 0) where
      all_pass : (fault 32 source ≡ 0) × (passes_first ≡ true)
      unfolding first_fault
      all_pass =
          let o = or_else_none (fault 32 source) (cond passes_first 0 18) (sym e ∙ z) in
          (o.0, by_test passes_first o.1)
        where
          by_test : (b : Bool) → ◌≡◌ {A = ℕ} (cond b 0 18) 0 → b ≡ true
          by_test true q = refl
          by_test false q = absurd (omega arith)

      both_pass : (leb t.state.frame.nodes 64 ≡ true) × (eqb (rule_fault (tree source) t.disciplines.rules) 0 ≡ true)
      both_pass = and_parts (leb t.state.frame.nodes 64) (eqb (rule_fault (tree source) t.disciplines.rules) 0) all_pass.1

      pub drawing_valid : fault 32 source ≡ 0
      drawing_valid = all_pass.0

      pub kept-formed : well_formed_by (tree source) t ≡ well_formed t.state
      unfolding well_formed_by
      kept-formed = by_form (well_formed t.state)
        where
          by_form : (w : Bool) → (w && eqb (rule_fault (tree source) t.disciplines.rules) 0) ≡ w
          by_form false = refl
          by_form true = both_pass.1

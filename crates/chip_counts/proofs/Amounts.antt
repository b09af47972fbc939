-- The refusal of a question for a count of a chip's tree, by the first tests and the state's.
use mathlib.Core.Path.{◌≡◌, refl, sym}
use Prim.Native.Nat.{ℕ}
use mathlib.Core.List.{List}
use mathlib.Core.Bool.{Bool, true, false, cond}
use Rattle.std.specs.Prelude.{Result}
use Rattle.refusal.specs.Numbers.{number, number_of}
use Rattle.refusal.specs.declared.Refusal.{Refusal}
use Rattle.refusal.proofs.Numbers.{number-ne0}
use Rattle.queue_state.specs.State.{well_formed}
use Rattle.queue_counts.specs.Amounts.{amount}
use Rattle.tree_state.specs.declared.Tree.{Tree}
use Rattle.chip_counts.specs.Amounts.{count_fault}
use Rattle.chip_counts.specs.FirstFault.{first_fault}
use Rattle.chip_counts.proofs.FirstFault.{first_number, kept-formed, drawing_valid}

module _ (source : List ℕ) (t : Tree) where
  pub unanswered : (e : Refusal) → number e ≡ first_fault source t.state.frame.nodes t.disciplines.rules → number e ≡ count_fault source t
  unfolding count_fault
  unanswered e h = sym (first_number source t (number e) h (number-ne0 e) 0)

  module _ (z : 0 ≡ first_fault source t.state.frame.nodes t.disciplines.rules) (o : Result ℕ Refusal) (k : ℕ) (q : o ≡ amount (well_formed t.state) k) where
    pub answered : number_of o ≡ count_fault source t
    unfolding count_fault
    answered = rw (q, drawing_valid source t 0 z refl, kept-formed source t 0 z refl) (by_form (well_formed t.state))
      where
        by_form : (w : Bool) → number_of (amount w k) ≡ cond w 0 18
        by_form true = refl
        by_form false = refl

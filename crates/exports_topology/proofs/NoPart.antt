-- A branch that is refused is empty.
use Rattle.std.proofs.Common.{◌≡◌, ℕ, List, [], sym, ◌∙◌}
use Rattle.refusal.specs.Numbers.{number}
use Rattle.refusal.specs.declared.Refusal.{Refusal}
use Rattle.refusal.proofs.Numbers.{number-ne0}
use Rattle.base.proofs.Refusals.{refused_other}
use Rattle.topology.specs.Branch.{branch_fault, branch_part}

pub no_part : (r : Refusal) (bytes : List ℕ) (n : ℕ) → number r ≡ branch_fault bytes n → branch_part bytes n ≡ []
unfolding branch_part
no_part r bytes n h = sym (refused_other (branch_fault bytes n) _ _ (λ z. number-ne0 r (h ∙ z)))

-- The discipline by which a node acts: a passed node acts by arrival (`acts_passed`), a kept node by its own rule (`acts_kept`). A
-- number names the weighted one exactly if it acts as weighted (`same_weighted`).
use Rattle.std.proofs.Common.{◌≡◌, ◌≢◌, refl, ℕ, Bool, true, false, cond, eqb}
use borrow.Author.Tests.{eq-eqb, ne_eqb}
use Rattle.discipline_model.specs.Figure.{arrival, strict, weighted, number, discipline_of, acts_by}
use Rattle.discipline_model.specs.declared.Discipline.TheVariants.{Arrival, Strict, Weighted}

module _ (children k : ℕ) where
  pub acts_passed : children ≡ 1 → acts_by children k ≡ arrival
  acts_passed e = rw (eq-eqb children 1 e)

  pub acts_kept : children ≢ 1 → acts_by children k ≡ k
  acts_kept e = rw (ne_eqb children 1 e)

pub same_weighted : (k : ℕ) → eqb (number (discipline_of k)) weighted ≡ eqb k weighted
same_weighted k = by_tests (eqb k weighted) (eqb k strict)
  where
    by_tests : (b c : Bool) → eqb (number (cond b Weighted (cond c Strict Arrival))) weighted ≡ b
    by_tests true c = refl
    by_tests false true = refl
    by_tests false false = refl

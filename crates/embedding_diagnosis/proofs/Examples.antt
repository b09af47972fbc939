-- One pair for each answer. Paper 01 has the first three pairs.
use mathlib.Core.Path.{◌≡◌, refl}
use Prim.Native.Nat.{ℕ}
use mathlib.Core.List.{List, [], ◌∷◌}
use Rattle.topology.specs.Reader.{fault}
use Rattle.topology.specs.Branch.{branch_end, is_above, branch_fault, branch_part}
use Rattle.topology_places.specs.Places.{depth}
use Rattle.embedding_model.specs.Check.{are_nodes, rule1, rule2, rule3, rule4}
use Rattle.embedding_model.specs.Least.{meets_rules, least_map, least_of, search_fault}
use Rattle.refusal.specs.declared.Refusal.TheVariants.{Incomplete}
use Rattle.embedding_diagnosis.specs.Misfit.{is_kept, kept_above, may_go, fits_at, fits_nowhere, misfit}
use Rattle.embedding_diagnosis.specs.Diagnosis.{deepest, leaves, most_leaves, lack_at, diagnosis}
use Rattle.embedding_diagnosis.specs.declared.Diagnosis.TheVariants.{Loads, Refused, TooDeep, TooManyLeaves, NotTogether}

abbrev three : List ℕ
three = 3 ∷ 0 ∷ 0 ∷ 0 ∷ []

abbrev forked : List ℕ
forked = 2 ∷ 2 ∷ 0 ∷ 0 ∷ 0 ∷ []

abbrev binary : List ℕ
binary = 2 ∷ 2 ∷ 0 ∷ 0 ∷ 2 ∷ 0 ∷ 0 ∷ []

-- four leaves, each inner node with one leaf and one inner node, but for the last
abbrev comb : List ℕ
comb = 2 ∷ 0 ∷ 2 ∷ 0 ∷ 2 ∷ 0 ∷ 0 ∷ []

pub record Diagnosed : Type 0 where
  pub loads : diagnosis three forked ≡ Loads
  pub deep : diagnosis forked three ≡ TooDeep 3 2 1
  pub many : diagnosis (2 ∷ 3 ∷ 0 ∷ 0 ∷ 0 ∷ 0 ∷ []) binary ≡ TooManyLeaves 1 3 2
  pub apart : diagnosis binary comb ≡ NotTogether 0
  -- the same below a node that is passed over, which is not named
  pub passed : diagnosis (1 ∷ binary) comb ≡ NotTogether 1
  pub fault : diagnosis (2 ∷ 0 ∷ []) comb ≡ Refused Incomplete

pub diagnosed : Diagnosed
unfolding diagnosis lack_at most_leaves leaves deepest misfit fits_nowhere fits_at may_go kept_above is_kept depth search_fault least_of least_map meets_rules are_nodes rule1 rule2 rule3 rule4 fault branch_part branch_fault is_above branch_end
diagnosed = record { loads = refl; deep = refl; many = refl; apart = refl; passed = refl; fault = refl }

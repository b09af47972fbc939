-- What the search for the least map answers: `Searches`, for every source and target.
use Rattle.std.specs.Prelude.{◌≡◌, ℕ, List, Result, IfOk}
use Rattle.refusal.specs.Numbers.{number_of}
use Rattle.refusal.specs.declared.Refusal.{Refusal}
use Rattle.embedding_model.specs.Least.{search_fault, search_map}

-- the answer to a search: its refusal, or the least map in 32 places, those past the last source node 0
pub record Searches (source target : List ℕ) (r : Result (List ℕ) Refusal) : Type 0 where
  pub number : number_of r ≡ search_fault source target
  pub map : IfOk r (λ m. m ≡ search_map source target)

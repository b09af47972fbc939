-- For private functions: the check's tests for one node, by tables of branch ends.
use Rattle.std.specs.Prelude.{◌≡◌, ℕ, ◌≤◌, ◌<◌, List, Bool, true, not, ◌&&◌, length, get_or, leb, ltb, eqb}
use Rattle.base.specs.Tests.{all, same}
use Rattle.embedding_model.specs.Rules.{image}
use Rattle.embedding_model.specs.Check.{are_nodes}

-- whether no node before a has a's image
unfoldable pub fresh : List ℕ → ℕ → Bool
fresh m a = all a (λ b. not (eqb (image m b) (image m a)))

-- ancestry by a table of branch ends
abbrev pub above_by : List ℕ → ℕ → ℕ → Bool
above_by ends a b = leb a b && ltb b (get_or ends a 0)

-- whether rule 4 holds of source node a and each node, by tables
unfoldable pub alike : List ℕ → List ℕ → List ℕ → ℕ → Bool
alike source target m a = all (length m) (λ b. same (above_by source a b) (above_by target (image m a) (image m b)))

-- the list is as long as the source, its images are target nodes, and the trees fit the tables
pub record Sized (source target m : List ℕ) : Type 0 where
  pub long : length m ≡ length source
  pub nodes : are_nodes target (length m) m ≡ true
  pub source_fits : length source ≤ 64
  pub target_fits : length target ≤ 64

-- the images are few enough, and small enough, for the tables
pub record Tabled (m : List ℕ) : Type 0 where
  pub places : length m ≤ 64
  pub images : (b : ℕ) → b < length m → image m b < 64

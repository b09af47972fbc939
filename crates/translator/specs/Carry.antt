-- What the translator promises: the refusal, or the carried path.
use Rattle.std.specs.Prelude.{◌≡◌, ℕ, ◌≤◌, List, Result, IfOk}
use Rattle.base.specs.Refusals.{or_else}
use Rattle.refusal.specs.Numbers.{number_of}
use Rattle.refusal.specs.declared.Refusal.{Refusal}
use Rattle.topology.specs.Reader.{tree}
use Rattle.pifo_model.specs.Tree.{Step, path_fault}
use Rattle.embedding_model.specs.Check.{map_fault}
use Rattle.pair_model.specs.Carrying.{carry}
use Rattle.queue_push.specs.Calls.{steps_of, path_of}
use Rattle.queue_push.specs.declared.Path.{Path}

-- The refusal of carrying a path, or 0: of both trees (1 to 5), of the map (6 to 11 and 26), then of the path as drawn in the source (13, 14).
unfoldable pub carry_fault : List ℕ → List ℕ → List ℕ → List Step → ℕ
carry_fault source target m ss =
    let rest = path_fault (tree source) ss in or_else (map_fault source target m) rest

-- The answer: the refusal, or the carried path.
pub record Carries (source target m : List ℕ) (path : Path) (r : Result Path Refusal) : Type 0 where
  pub refusal : number_of r ≡ carry_fault source target m (steps_of path)
  pub carried : IfOk r (λ p. p ≡ path_of (carry (tree source) (tree target) m (steps_of path)) path.leaf_rank)

-- What holds of a carried path (`carried_steps` in proofs/Carries.antt): its steps are those of the definition, it has no fault in the target, and it
-- has at most 8 steps.
pub record Arrives (source target m : List ℕ) (path carried : Path) : Type 0 where
  pub steps : steps_of carried ≡ carry (tree source) (tree target) m (steps_of path)
  pub leaf : carried.leaf_rank ≡ path.leaf_rank
  pub fault : path_fault (tree target) (steps_of carried) ≡ 0
  pub few : carried.count ≤ 8

-- The number of the refusal if the map has no fault: the path's fault in the source.
use mathlib.Core.Path.{◌≡◌, ap}
use Prim.Native.Nat.{ℕ}
use mathlib.Core.List.{List}
use Rattle.base.specs.Refusals.{or_else}
use Rattle.topology.specs.Reader.{tree}
use Rattle.pifo_model.specs.Tree.{Step, path_fault}
use Rattle.embedding_model.specs.Check.{map_fault}
use Rattle.translator.specs.Carry.{carry_fault}

module _ (source target m : List ℕ) (ss : List Step) where
  pub carry_path : map_fault source target m ≡ 0 → carry_fault source target m ss ≡ path_fault (tree source) ss
  unfolding carry_fault
  carry_path e = ap (λ (g : ℕ). or_else g (path_fault (tree source) ss)) e

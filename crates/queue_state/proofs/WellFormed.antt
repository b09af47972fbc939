-- The clauses of `well_formed`, and `well_formed` from its clauses.
use mathlib.Core.Path.{◌≡◌}
use Prim.Native.Nat.{◌≤◌}
use mathlib.Core.Bool.{true, false}
use native.Mathlib.Omega.{arith}
use Rattle.std.proofs.lemmas.Grind.{common_steps}
use Rattle.std.proofs.lemmas.Bool.{false_from_ne_true}
use Rattle.topology.specs.Reader.{fault}
use Rattle.pifo_model.specs.Tree.{well, held}
use Rattle.queue_state.specs.State.{start_of, bytes, tree_of, in_bounds, well_formed}
use Rattle.queue_state.specs.declared.State.{State}

-- the clauses of a well-formed state
pub record Formed (s : State) : Type 0 where
  pub nodes : s.frame.nodes ≤ 64
  pub used : start_of s.lengths s.frame.nodes ≤ 2304
  pub valid : fault 64 (bytes s) ≡ 0
  pub least : 1 ≤ s.frame.limit
  pub most : s.frame.limit ≤ 256
  pub tree : well (tree_of s) ≡ true
  pub room : held (tree_of s) ≤ s.frame.limit

pub formed : (s : State) → well_formed s ≡ true → Formed s
unfolding well_formed in_bounds
formed s e =
    record {
      nodes = grind (arith, common_steps);
      used = grind (arith, common_steps);
      valid = grind (arith, common_steps);
      least = grind (arith, common_steps);
      most = grind (arith, common_steps);
      tree = grind (arith, common_steps);
      room = grind (arith, common_steps);
    }

pub form : (s : State) → Formed s → well_formed s ≡ true
unfolding well_formed in_bounds
form s f = grind (arith, common_steps)

pub unformed : (s : State) → (Formed s → ⊥) → well_formed s ≡ false
unformed s n = false_from_ne_true (well_formed s) (λ t. n (formed s t))

-- The answers of a carrying: one law for a list that is refused as a map, one for a path that is refused in the drawing, and one for a path that is
-- carried; and what follows for the path of an answer without refusal.
use mathlib.Core.Path.{◌≡◌, sym, ap, ◌∙◌}
use Prim.Native.Nat.{ℕ}
use native.Mathlib.Omega.{arith}
use mathlib.Core.List.{List}
use Rattle.base.proofs.Refusals.{or_else_none}
use Rattle.std.specs.Prelude.{Ok, Err}
use Rattle.refusal.specs.Numbers.{number}
use Rattle.refusal.specs.declared.Refusal.{Refusal}
use Rattle.refusal.proofs.Numbers.{refused_first}
use Rattle.topology.specs.Reader.{tree}
use Rattle.topology.proofs.Reader.{within}
use Rattle.pifo_model.specs.Tree.{Step, path_fault}
use Rattle.embedding_model.specs.Check.{map_fault}
use Rattle.embedding_model.proofs.MapFault.{map_fault_none}
use Rattle.pair_model.specs.Carrying.{carry}
use Rattle.pair_model.proofs.MachinesAlike.{carry-fault, carry-length}
use Rattle.queue_push.specs.Calls.{steps_of, path_of}
use Rattle.queue_push.specs.declared.Path.{Path}
use Rattle.queue_push.proofs.PathSteps.{steps_path}
use Rattle.translator.specs.Carry.{carry_fault, Carries, Arrives}
use Rattle.translator.proofs.PathFault.{carry_path}

module _ (source target m : List ℕ) (path : Path) where
  pub map-refused : (e : Refusal) → number e ≡ map_fault source target m → Carries source target m path (Err e)
  unfolding carry_fault
  map-refused e h =
      record { refusal = refused_first e (map_fault source target m) (path_fault (tree source) (steps_of path)) h; carried = tt }

  module _ (z : 0 ≡ map_fault source target m) where
    pub path_refused : (e : Refusal) → number e ≡ path_fault (tree source) (steps_of path) → Carries source target m path (Err e)
    path_refused e h = record { refusal = h ∙ sym (carry_path source target m (steps_of path) (sym z)); carried = tt }

    pub path_carried : 0 ≡ path_fault (tree source) (steps_of path)
        → (r : Path) → r ≡ path_of (carry (tree source) (tree target) m (steps_of path)) path.leaf_rank
        → Carries source target m path (Ok r)
    path_carried none r e = record { refusal = none ∙ sym (carry_path source target m (steps_of path) (sym z)); carried = e }

-- a carrying without refusal: the map meets the rules, and the path has no fault in the source
pub carry_none : (source target m : List ℕ) (ss : List Step) → carry_fault source target m ss ≡ 0
    → (map_fault source target m ≡ 0) × (path_fault (tree source) ss ≡ 0)
unfolding carry_fault
carry_none source target m ss e = or_else_none (map_fault source target m) (path_fault (tree source) ss) e

pub carried_steps : (source target m : List ℕ) (path r : Path) → Carries source target m path (Ok r) → Arrives source target m path r
carried_steps source target m path r c =
    let ss : List Step = steps_of path in
    let over : List Step = carry (tree source) (tree target) m ss in
    let none = carry_none source target m ss (sym c.refusal) in
    let map = (map_fault_none source target m).0 none.0 in
    let is = c.carried in
    let steps : steps_of r ≡ over = ap steps_of is ∙ steps_path over path.leaf_rank in
    record {
      steps = steps;
      leaf = ap (λ (p : Path). p.leaf_rank) is;
      fault = ap (path_fault (tree target)) steps ∙ carry-fault (tree source) (tree target) m map.2 ss none.1;
      few =
          omega (
            arith,
            ap (λ (p : Path). p.count) is,
            carry-length (tree source) (tree target) m map.2 ss none.1,
            (within 64 target map.1).steps,
          );
    }

-- A tree by itself: the number by which it is refused, its server, and that it stays well formed by its own drawing after a call on its state.
use mathlib.Core.Path.{◌≡◌, refl}
use mathlib.Core.Bool.{Bool, true, false, cond}
use lib.Dec.{eqb}
use Rattle.topology.specs.Tree.{Topo}
use Rattle.topology.specs.Reader.{tree}
use Rattle.pifo_model.specs.Machine.{Call, Answer, serve}
use Rattle.queue_state.specs.State.{Packet, bytes, machine, well_formed}
use Rattle.queue_state.specs.Calls.{Serves}
use Rattle.queue_state.specs.declared.State.{State}
use Rattle.discipline_model.specs.Figure.{rule_fault}
use Rattle.discipline_model.specs.Scheduler.{Request, rank_at, serve_by, serve_own}
use Rattle.discipline_model.specs.declared.Disciplines.{Disciplines}
use Rattle.tree_state.specs.Calls.{tree_with, scheduler_of, well_formed_by, own_refusal}
use Rattle.tree_state.specs.declared.Tree.{Tree}
use Rattle.tree_state.proofs.Below.{same_drawing}

module _ (t : Tree) where
  abbrev s : State
  s = t.state

  abbrev d : Disciplines
  d = t.disciplines

  abbrev S : Topo
  S = tree (bytes s)

  pub own_ill : well_formed s ≡ false → own_refusal t ≡ 18
  unfolding own_refusal well_formed_by
  own_ill f = rw f refl

  pub own_kept : well_formed s ≡ true → (b : Bool) → eqb (rule_fault S d.rules) 0 ≡ b → own_refusal t ≡ cond b 0 18
  unfolding own_refusal well_formed_by
  own_kept w b e = rw (w, e) refl

  pub own_is : (q : Request Packet) → serve_own (scheduler_of t) q ≡ serve_by S serve rank_at (scheduler_of t) q
  unfolding machine
  own_is q = refl

  -- the tree after a call on its state, with the rules that it had
  pub own_after : (c : Call Packet) (a : Answer Packet) (r : State) (after : Disciplines) → well_formed s ≡ true → Serves s c a r
      → eqb (rule_fault S d.rules) 0 ≡ true → after.rules ≡ d.rules → own_refusal (tree_with r after) ≡ 0
  unfolding own_refusal well_formed_by
  own_after c a r after w v e k = rw (v.formed w, same_drawing s c a r w v, k, e) refl

-- A push along a carried path: by the contracts of the translator and the queue tree it is the chip's call of the definition (`carried_serves`, and
-- `refused_serves` if the carrying is refused). So it answers as the chip's machine does, and never by 13 or 14 (`pushes_land`).
use mathlib.Core.Path.{◌≡◌, refl, sym, ap, ◌∙◌}
use mathlib.Core.Logic.{◌≢◌}
use Prim.Native.Nat.{ℕ, zero, suc}
use native.Mathlib.Omega.{arith}
use mathlib.Core.List.{List}
use mathlib.Core.Bool.{Bool, true, false, cond}
use lib.Dec.{leb}
use Rattle.std.specs.Prelude.{Ok, Err}
use Rattle.refusal.specs.Numbers.{number}
use Rattle.refusal.specs.declared.Refusal.{Refusal}
use Rattle.refusal.proofs.Numbers.{number-ne0}
use Rattle.topology.specs.Reader.{tree}
use Rattle.pifo_model.specs.Tree.{Step, path_fault, held}
use Rattle.pifo_model.specs.Machine.{Machine, Answer, refused, number_of, serve, serve_room, pushing}
use Rattle.embedding_model.specs.Check.{map_fault}
use Rattle.queue_state.specs.State.{Packet, bytes, machine}
use Rattle.queue_state.specs.Calls.{Serves}
use Rattle.queue_state.specs.declared.State.{State}
use Rattle.queue_push.specs.Calls.{steps_of}
use Rattle.queue_push.specs.declared.Path.{Path}
use Rattle.pair_step.specs.InStep.{ServesCarried}
use Rattle.pair_step.proofs.InStep.{carried_follows}
use Rattle.translator.specs.Carry.{Carries}
use Rattle.translator.specs.PushesLand.{push_along, PushesLand}
use Rattle.translator.proofs.PathFault.{carry_path}
use Rattle.translator.proofs.Carries.{carry_none, carried_steps}

module _ (source target m : List ℕ) (path : Path) where
  abbrev Chip : State → Packet → Answer Packet → State → Type 0
  Chip t packet b y = ServesCarried (tree source) (tree target) m t (push_along path packet) b y

  pub carried_serves : (c : Path) → Carries source target m path (Ok c)
      → (t : State) (packet : Packet) (b : Answer Packet) (y : State) → Serves t (push_along c packet) b y → Chip t packet b y
  carried_serves c e t packet b y v =
      let over = carried_steps source target m path c e in
      let none = carry_none source target m (steps_of path) (sym e.refusal) in
      rw none.1 (rw (over.steps, over.leaf) at v)

  pub refused_serves : (r : Refusal) → Carries source target m path (Err r) → map_fault source target m ≡ 0
      → (t : State) (packet : Packet) → Chip t packet (refused (number r)) t
  refused_serves r e passes t packet = by_number (number r) refl (number-ne0 r)
    where
      by_number : (n : ℕ) → number r ≡ n → n ≢ 0 → Chip t packet (refused n) t
      by_number zero z some = absurd (some refl)
      by_number (suc n) z some =
          let number : path_fault (tree source) (steps_of path) ≡ suc n =
          sym (carry_path source target m (steps_of path) passes) ∙ sym e.refusal ∙ z in
          rw number (refl, refl)

-- a push whose path has no fault can be refused only by 15
room-number : (q : Machine Packet) (ss : List Step) (l : ℕ) (p : Packet) → path_fault q.topology ss ≡ 0
    → let n = number_of (serve q (pushing ss l p)).0 in (n ≢ 13) × (n ≢ 14)
room-number q ss l p e = rw e (by_test (leb q.limit (held q.tree)))
  where
    by_test : (b : Bool) → let n = number_of (serve_room (cond b 15 0) q ss l p).0 in (n ≢ 13) × (n ≢ 14)
    by_test true = (λ x. omega arith, λ x. omega arith)
    by_test false = (λ x. omega arith, λ x. omega arith)

pub pushes_land : PushesLand
unfolding machine
pushes_land source target m path c e t w same packet b y v =
    let call = carried_serves source target m path c e t packet b y v in
    let f = carried_follows (tree source) (tree target) m t (push_along path packet) b y w call in
    let over = carried_steps source target m path c e in
    let none : path_fault (tree (bytes t)) (steps_of c) ≡ 0 = ap (λ (bs : List ℕ). path_fault (tree bs) (steps_of c)) same ∙ over.fault in
    let number = room-number (machine t) (steps_of c) c.leaf_rank packet none in
    let is = ap number_of (v.answer w) in
    record {
      not_13 = λ n. number.0 (sym is ∙ n);
      not_14 = λ n. number.1 (sym is ∙ n);
      answer = f.answer;
      machine = f.machine;
      formed = f.formed;
    }

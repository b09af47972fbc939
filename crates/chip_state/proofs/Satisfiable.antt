-- The contract of a call on a chip's tree can be met: for every request there are an answer and a tree after it (`chip_some`), since there are for
-- every call below with its path carried over (`carried_some`).
use mathlib.Core.Path.{◌≡◌, refl}
use Prim.Native.Nat.{ℕ, zero, suc}
use native.Mathlib.Omega.{arith}
use mathlib.Core.List.{List}
use Rattle.topology.specs.Tree.{Topo}
use Rattle.topology.specs.Reader.{tree}
use Rattle.pifo_model.specs.Tree.{path_fault}
use Rattle.pifo_model.specs.Machine.{Call, pushing, popping, Answer, refused}
use Rattle.pair_model.specs.Carrying.{carry}
use Rattle.pair_model.specs.Simulation.{serve_carried}
use Rattle.queue_state.specs.State.{Packet, bytes}
use Rattle.queue_state.specs.declared.State.{State}
use Rattle.queue_state.proofs.Satisfiable.{serves_some}
use Rattle.discipline_model.specs.Scheduler.{Request}
use Rattle.pair_step.specs.InStep.{PushesCarried, ServesCarried}
use Rattle.pair_step.proofs.InStep.{carried_follows}
use Rattle.pair_schedule.specs.Chip.{image_rank}
use Rattle.tree_state.specs.declared.Tree.{Tree}
use Rattle.tree_state.proofs.Schedules.{ill_scheduled}
use Rattle.tree_state.proofs.Satisfiable.{CallsBelow, scheduled_some}
use Rattle.chip_state.specs.Calls.{chip_refusal, serve_mapped, ChipServes}
use Rattle.chip_state.proofs.ChipServes.{chip-formed, chip_after, carried_drawing, below_carried, chip_is}

push_some : (f : ℕ) (t : State) (c : Call Packet) → (b : Answer Packet) × (y : State) × PushesCarried f t c b y
push_some zero t c = serves_some t c
push_some (suc f) t c = (refused (suc f), t, (refl, refl))

carried_some : (S T : Topo) (m : List ℕ) (t : State) (c : Call Packet) → (b : Answer Packet) × (y : State) × ServesCarried S T m t c b y
carried_some S T m t (pushing ss l p) = push_some (path_fault S ss) t (pushing (carry S T m ss) l p)
carried_some S T m t popping = serves_some t popping

pub chip_some : (source m : List ℕ) (t : Tree) (q : Request Packet) → (a : Answer Packet) × (r : Tree) × ChipServes source m t q a r
chip_some source m t q = by_refusal (chip_refusal source m t) refl
  where
    S : Topo
    S = tree source

    T : Topo
    T = tree (bytes t.state)

    below : chip_refusal source m t ≡ 0 → (c : Call Packet)
        → CallsBelow S (serve_carried S T m) (image_rank m) (chip_refusal source m) (serve_mapped source m) t c
    below ok c =
        let w = chip-formed source m t ok in
        let (a, r, v) = carried_some S T m t.state c in
        let formed = (carried_follows S T m t.state c a r w v).formed in
        let same = carried_drawing S T m t.state c a r w v in
        (a, r, below_carried S T m t.state c a r w v, λ after k. chip_after source m t ok r after formed same k)

    by_refusal : (n : ℕ) → chip_refusal source m t ≡ n → (a : Answer Packet) × (r : Tree) × ChipServes source m t q a r
    by_refusal zero ok =
        scheduled_some S (serve_carried S T m) (image_rank m) (chip_refusal source m) (serve_mapped source m) t ok (chip_is source m t) (below ok) q
    by_refusal (suc n) e =
        (refused (suc n), t, ill_scheduled (chip_refusal source m) (serve_mapped source m) t q (suc n) e (λ z. omega arith))

-- The push along the path of a plan is the one that the definitions give.
use mathlib.Core.Path.{◌≡◌, ap, ◌∙◌}
use Prim.Native.Nat.{ℕ}
use mathlib.Core.List.{List}
use Rattle.topology.specs.Tree.{Topo}
use Rattle.topology.specs.Address.{addr}
use Rattle.pifo_model.specs.Queue.{Rank}
use Rattle.pifo_model.specs.Tree.{Step}
use Rattle.pifo_model.specs.Machine.{pushing}
use Rattle.queue_state.specs.State.{Packet}
use Rattle.queue_push.specs.Calls.{steps_of}
use Rattle.queue_push.proofs.PathSteps.{steps_path}
use Rattle.discipline_model.specs.Figure.{kind_at, rank_by, steps_down}
use Rattle.discipline_model.specs.declared.Disciplines.{Disciplines}
use Rattle.discipline_path.specs.Plans.{Planned}
use Rattle.discipline_path.specs.declared.Plan.{Plan}

pub planned_call : (S : Topo) (d : Disciplines) (leaf class len : ℕ) (plan : Plan) (p : Packet) → Planned S d leaf class len plan
    → pushing (steps_of plan.path) plan.path.leaf_rank p ≡ pushing (steps_down S d class 0 (addr S leaf)) (rank_by (kind_at d.rules leaf) 0 class) p
planned_call S d leaf class len plan p is =
    let path = is.path in
    let l : Rank = rank_by (kind_at d.rules leaf) 0 class in
    (λ i. pushing (steps_of (path i)) (path i).leaf_rank p)
    ∙ ap (λ (ss : List Step). pushing ss l p) (steps_path (steps_down S d class 0 (addr S leaf)) l)

-- What a call on a chip's tree promises, with a map m of the drawing whose bytes are `source`: for every input the answer, and the tree after it.
use Rattle.std.specs.Prelude.{ℕ, List, cond}
use Rattle.base.specs.Refusals.{or_else}
use Rattle.topology.specs.Reader.{fault, tree}
use Rattle.pifo_model.specs.Machine.{Answer}
use Rattle.embedding_model.specs.Check.{list_fault}
use Rattle.queue_state.specs.State.{Packet, bytes}
use Rattle.discipline_model.specs.Scheduler.{Scheduler, Request}
use Rattle.pair_schedule.specs.Chip.{serve_chip}
use Rattle.tree_state.specs.Calls.{well_formed_by, Schedules}
use Rattle.tree_state.specs.declared.Tree.{Tree}

-- The refusal of a call before its own arguments are tested, or 0: 1 to 5 of the drawing; 18 if the tree is not well formed by it; 6, 26, 7 to 11 of
-- the map between the drawing and the chip's own topology.
unfoldable pub chip_refusal : List ℕ → List ℕ → Tree → ℕ
chip_refusal source m t =
    let mapped = list_fault source (bytes t.state) m in
    let kept : ℕ = cond (well_formed_by (tree source) t) mapped 18 in
    or_else (fault 32 source) kept

-- how the chip's tree answers: by its own topology as the target, the drawing and the map
abbrev pub serve_mapped : List ℕ → List ℕ → Scheduler Packet → Request Packet → Answer Packet × Scheduler Packet
serve_mapped source m s = serve_chip (tree source) s.core.topology m s

abbrev pub ChipServes : List ℕ → List ℕ → Tree → Request Packet → Answer Packet → Tree → Type 0
ChipServes source m = Schedules (chip_refusal source m) (serve_mapped source m)

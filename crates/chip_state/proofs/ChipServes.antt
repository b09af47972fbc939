-- The calls on a chip's tree, as the calls of a scheduler over the calls below. No call on a chip's tree is refused by the first tests exactly where
-- the drawing, the tree and the map have no fault (`known_chip`, `chip_known`). A call below is a call of the chip's machine, which gets the carried
-- paths (`below_carried`), and the tree after it, with the rules that it had, passes the first tests too (`chip_after`).
use mathlib.Core.Path.{◌≡◌, refl, sym, ap, ◌∙◌}
use Prim.Native.Nat.{ℕ, zero, suc}
use native.Mathlib.Omega.{arith}
use mathlib.Core.List.{List}
use mathlib.Core.Bool.{Bool, true, false, cond}
use lib.Dec.{eqb}
use Rattle.base.proofs.Refusals.{or_else_none}
use Rattle.std.proofs.lemmas.Bool.{and_parts}
use Rattle.topology.specs.Tree.{Topo, code}
use Rattle.topology.specs.Reader.{fault, tree}
use Rattle.topology.proofs.Reader.{drawn}
use Rattle.pifo_model.specs.Tree.{path_fault}
use Rattle.pifo_model.specs.Machine.{Machine, Call, pushing, popping, Answer, refused, full}
use Rattle.embedding_model.specs.Check.{list_fault}
use Rattle.pair_model.specs.Carrying.{carry}
use Rattle.pair_model.specs.Simulation.{push_carried, serve_carried}
use Rattle.queue_state.specs.State.{Packet, bytes, machine, well_formed}
use Rattle.queue_state.specs.Calls.{counting}
use Rattle.queue_state.specs.declared.State.{State}
use Rattle.queue_state.proofs.WellFormed.{formed}
use Rattle.queue_state.proofs.Serves.{apart}
use Rattle.discipline_model.specs.Figure.{rule_fault}
use Rattle.discipline_model.specs.Scheduler.{Request, serve_by}
use Rattle.discipline_model.specs.declared.Disciplines.{Disciplines}
use Rattle.pair_schedule.specs.Chip.{image_rank}
use Rattle.pair_step.specs.InStep.{PushesCarried, ServesCarried}
use Rattle.pair_step.proofs.InStep.{carried_follows}
use Rattle.tree_state.specs.Calls.{tree_with, scheduler_of, well_formed_by}
use Rattle.tree_state.specs.declared.Tree.{Tree}
use Rattle.tree_state.proofs.Schedules.{Below}
use Rattle.tree_state.proofs.Below.{serve_topology}
use Rattle.chip_state.specs.Calls.{chip_refusal, serve_mapped}

-- ---- the number by which a chip's tree is refused

module _ (source m : List ℕ) (t : Tree) where
  pub record Known : Type 0 where
    pub drawing : fault 32 source ≡ 0
    pub formed : well_formed_by (tree source) t ≡ true
    pub mapped : list_fault source (bytes t.state) m ≡ 0

  pub known_chip : chip_refusal source m t ≡ 0 → Known
  unfolding chip_refusal
  known_chip e =
      let o = or_else_none (fault 32 source) (cond (well_formed_by (tree source) t) (list_fault source (bytes t.state) m) 18) e in
      let k = by_test (well_formed_by (tree source) t) o.1 in
      record { drawing = o.0; formed = k.0; mapped = k.1 }
    where
      by_test : (b : Bool) → cond b (list_fault source (bytes t.state) m) 18 ≡ 0
          → (b ≡ true) × (list_fault source (bytes t.state) m ≡ 0)
      by_test true q = (refl, q)
      by_test false q = absurd (omega arith)

  pub chip_known : Known → chip_refusal source m t ≡ 0
  unfolding chip_refusal
  chip_known k = rw (k.drawing, k.formed, k.mapped) refl

-- The tree after a call below has the same drawing and the same rules, so it is not refused.
module _ (source m : List ℕ) (t : Tree) (e : chip_refusal source m t ≡ 0) where
  pub chip-formed : well_formed t.state ≡ true
  unfolding well_formed_by
  chip-formed =
      (and_parts (well_formed t.state) (eqb (rule_fault (tree source) t.disciplines.rules) 0) (known_chip source m t e).formed).0

  pub chip_rules : eqb (rule_fault (tree source) t.disciplines.rules) 0 ≡ true
  unfolding well_formed_by
  chip_rules =
      (and_parts (well_formed t.state) (eqb (rule_fault (tree source) t.disciplines.rules) 0) (known_chip source m t e).formed).1

  pub chip_after : (r : State) (after : Disciplines) → well_formed r ≡ true → tree (bytes r) ≡ tree (bytes t.state)
      → after.rules ≡ t.disciplines.rules → chip_refusal source m (tree_with r after) ≡ 0
  unfolding well_formed_by
  chip_after r after w d k =
      let same : bytes r ≡ bytes t.state =
      sym (drawn 64 (bytes r) (formed r w).valid) ∙ ap code d ∙ drawn 64 (bytes t.state) (formed t.state chip-formed).valid in
      chip_known source m (tree_with r after) record {
        drawing = (known_chip source m t e).drawing;
        formed = rw (w, k) chip_rules;
        mapped = rw same (known_chip source m t e).mapped;
      }

-- ---- the call below

push_topology : (f : ℕ) (q : Machine Packet) (c : Call Packet) → (push_carried f q c).1.topology ≡ q.topology
push_topology zero q c = serve_topology q c
push_topology (suc f) q c = refl

pub carried_topology : (S T : Topo) (m : List ℕ) (q : Machine Packet) (c : Call Packet) → (serve_carried S T m q c).1.topology ≡ q.topology
carried_topology S T m q (pushing ss l p) = push_topology (path_fault S ss) q (pushing (carry S T m ss) l p)
carried_topology S T m q popping = serve_topology q popping

-- the state after a refusal; for a push it depends on the fault of the path as drawn
carried_stays : (S T : Topo) (m : List ℕ) (s : State) (c : Call Packet) (a : Answer Packet) (r : State) → ServesCarried S T m s c a r
    → ((n : ℕ) → a ≡ refused n → r ≡ s) × ((n k : ℕ) → a ≡ full n k → r ≡ counting s k)
carried_stays S T m s (pushing ss l p) a r v = by_fault (path_fault S ss) v
  where
    by_fault : (f : ℕ) → PushesCarried f s (pushing (carry S T m ss) l p) a r
        → ((n : ℕ) → a ≡ refused n → r ≡ s) × ((n k : ℕ) → a ≡ full n k → r ≡ counting s k)
    by_fault zero u = (u.unaltered, u.counted)
    by_fault (suc f) (x, y) = (λ _ _. y, λ _ _ z. apart (sym x ∙ z))
carried_stays S T m s popping a r v = (v.unaltered, v.counted)

module _ (S T : Topo) (m : List ℕ) (s : State) (c : Call Packet) (a : Answer Packet) (r : State) (w : well_formed s ≡ true)
    (v : ServesCarried S T m s c a r) where
  pub below_carried : Below (serve_carried S T m) s c a r
  below_carried =
      let f = carried_follows S T m s c a r w v in
      let k = carried_stays S T m s c a r v in
      record { answer = f.answer; machine = f.machine; unaltered = k.0; counted = k.1 }

  -- the state after it has the same drawing
  pub carried_drawing : tree (bytes r) ≡ tree (bytes s)
  unfolding machine
  carried_drawing =
      ap (λ (q : Machine Packet). q.topology) (carried_follows S T m s c a r w v).machine ∙ carried_topology S T m (machine s) c

-- the server of a chip's tree: the drawing, over the chip's machine, which gets the carried paths
pub chip_is : (source m : List ℕ) (t : Tree) (q : Request Packet) → serve_mapped source m (scheduler_of t) q
    ≡ serve_by (tree source) (serve_carried (tree source) (tree (bytes t.state)) m) (image_rank m) (scheduler_of t) q
unfolding machine
chip_is source m t q = refl

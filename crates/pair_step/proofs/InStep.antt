-- One call on each of two trees in step. The chip's state follows the chip's machine, which gets the carried paths (`carried_follows`). So by the
-- simulation the two answer alike and stay in step (`next`). Two trees that are opened together are in step (`opened_in_step`).
use mathlib.Core.Path.{◌≡◌, refl, sym, ap, ◌∙◌}
use Prim.Native.Nat.{ℕ, zero, suc}
use mathlib.Core.List.{List}
use mathlib.Core.Bool.{true}
use Rattle.topology.specs.Tree.{Topo}
use Rattle.topology.specs.Reader.{fault, tree}
use Rattle.pifo_model.specs.Tree.{path_fault}
use Rattle.pifo_model.specs.Machine.{pushing, popping, Call, Answer}
use Rattle.embedding_model.specs.Rules.{Passes}
use Rattle.embedding_model.proofs.MapFault.{map_fault_none}
use Rattle.pair_model.specs.Carrying.{carry}
use Rattle.pair_model.specs.Simulation.{push_carried, serve_carried}
use Rattle.pair_model.proofs.MachinesAlike.{paired_opened, paired_next, answers_alike}
use Rattle.queue_state.specs.State.{Packet, machine, well_formed}
use Rattle.queue_state.specs.Opening.{open_fault, opened_state}
use Rattle.queue_state.specs.Calls.{Serves}
use Rattle.queue_state.specs.declared.State.{State}
use Rattle.std.specs.Prelude.{Ok}
use Rattle.queue_state.proofs.OpenedState.{opens}
use Rattle.queue_state.proofs.Execution.{AllFollow, serves_follows}
use Rattle.pair_step.specs.InStep.{PushesCarried, ServesCarried, InStep}

pushes_follow : (t : State) (call : Call Packet) (b : Answer Packet) (y : State) → well_formed t ≡ true → (f : ℕ) → PushesCarried f t call b y
    → let r = push_carried f (machine t) call in (b ≡ r.0) × (machine y ≡ r.1) × (well_formed y ≡ true)
pushes_follow t call b y w zero v = (v.answer w, v.machine w, v.formed w)
pushes_follow t call b y w (suc f) (answered, stays) = (answered, ap machine stays, ap well_formed stays ∙ w)

pub carried_follows : (S T : Topo) (m : List ℕ) → AllFollow (serve_carried S T m) (ServesCarried S T m)
carried_follows S T m t (pushing ss l p) b y w v =
    let o = pushes_follow t (pushing (carry S T m ss) l p) b y w (path_fault S ss) v in
    record { answer = o.0; machine = o.1; formed = o.2 }
carried_follows S T m t popping b y w v = record { answer = v.answer w; machine = v.machine w; formed = v.formed w }

module _ (source target m : List ℕ) where
  module _ (s t : State) (h : InStep source target m s t) where
    passes : Passes (tree source) (tree target) m
    passes = ((map_fault_none source target m).0 h.mapped).2

    -- one call on each: the answers are alike, and the states after them in step
    pub next : (call : Call Packet) (a b : Answer Packet) (x y : State) → Serves s call a x → ServesCarried (tree source) (tree target) m t call b y
        → (a ≡ b) × InStep source target m x y
    next call a b x y v u =
        let p = serves_follows s call a x h.source_formed v in
        let q = carried_follows (tree source) (tree target) m t call b y h.chip-formed u in (
          p.answer ∙ answers_alike (tree source) (tree target) m passes (machine s) (machine t) h.paired call ∙ sym q.answer,
          record {
            mapped = h.mapped;
            source_formed = p.formed;
            chip-formed = q.formed;
            paired = rw (p.machine, q.machine) (paired_next (tree source) (tree target) m passes (machine s) (machine t) h.paired call);
          },
        )

  -- two trees that are opened are in step for a map that meets the rules
  pub opened_in_step : fault 32 source ≡ 0 → fault 64 target ≡ 0 → Passes (tree source) (tree target) m → (limit : ℕ)
      → open_fault source limit ≡ 0 → open_fault target limit ≡ 0
      → InStep source target m (opened_state source limit) (opened_state target limit)
  opened_in_step f g E limit z n =
      let o = opens source limit (Ok (opened_state source limit)) (sym z) refl in
      let u = opens target limit (Ok (opened_state target limit)) (sym n) refl in
      record {
        mapped = (map_fault_none source target m).1 (f, g, E);
        source_formed = o.formed;
        chip-formed = u.formed;
        paired = rw (o.machine, u.machine) (paired_opened (tree source) (tree target) m E limit);
      }

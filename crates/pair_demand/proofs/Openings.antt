-- Both trees opened: neither opening is refused, and each tree stands for the empty machine with fresh disciplines (`own_opens`, `chip-opens`). So no
-- call on them is refused by the first tests (`own_passes`, `chip_passes`).
use mathlib.Core.Path.{◌≡◌, refl, sym, ap, ◌∙◌}
use Prim.Native.Nat.{ℕ}
use native.Mathlib.Omega.{arith}
use mathlib.Core.List.{List}
use mathlib.Core.Bool.{true}
use Rattle.topology.specs.Tree.{Topo, code}
use Rattle.topology.specs.Reader.{fault, tree}
use Rattle.topology.proofs.Reader.{drawn, fault_wider}
use Rattle.pifo_model.specs.Machine.{Machine, opened}
use Rattle.embedding_model.specs.Rules.{Passes}
use Rattle.embedding_model.specs.Check.{list_fault}
use Rattle.embedding_model.proofs.MapFault.{passes_list}
use Rattle.queue_state.specs.State.{Packet, bytes, machine, well_formed}
use Rattle.queue_limit.specs.Limit.{limit_fault}
use Rattle.queue_state.specs.Opening.{open_fault, opened_state}
use Rattle.queue_state.specs.declared.State.{State}
use Rattle.queue_state.proofs.WellFormed.{formed}
use Rattle.std.specs.Prelude.{Ok}
use Rattle.queue_state.proofs.OpenedState.{opens}
use Rattle.discipline_model.specs.Figure.{rule_fault, fresh}
use Rattle.discipline_model.specs.Scheduler.{with}
use Rattle.discipline_model.specs.declared.Rule.{Rule}
use Rattle.tree_state.specs.Opening.{tree_fault, opened_tree}
use Rattle.tree_state.specs.declared.Tree.{Tree}
use Rattle.tree_state.specs.Calls.{tree_with, scheduler_of, well_formed_by, own_refusal}
use Rattle.chip_state.specs.Opening.{chip_fault}
use Rattle.chip_state.specs.Calls.{chip_refusal}
use Rattle.chip_state.proofs.ChipServes.{chip_known}

-- An opening that is not refused, of a tree of these bytes: its number n is 0, and t is the tree that it gives.
pub record OpensAs (bytes : List ℕ) (limit : ℕ) (rules : List Rule) (n : ℕ) (t : Tree) : Type 0 where
  pub number : n ≡ 0
  pub empty : t ≡ tree_with (opened_state bytes limit) (fresh rules)
  pub scheduler : scheduler_of t ≡ with (opened (tree bytes) limit) (fresh rules)

module _ (bs : List ℕ) (f : fault 64 bs ≡ 0) (limit : ℕ) (fits : limit_fault limit ≡ 0) (rules : List Rule) where
  abbrev s : State
  s = opened_state bs limit

  no_fault : open_fault bs limit ≡ 0
  unfolding open_fault
  no_fault = rw (f, fits) refl

  opened-formed : well_formed s ≡ true
  opened-formed = (opens bs limit (Ok s) (sym no_fault) refl).formed

  opened-machine : machine s ≡ opened (tree bs) limit
  opened-machine = (opens bs limit (Ok s) (sym no_fault) refl).machine

  opened-drawing : tree (bytes s) ≡ tree bs
  unfolding machine
  opened-drawing = ap (λ (q : Machine Packet). q.topology) opened-machine

  opened-kept : (S : Topo) → rule_fault S rules ≡ 0 → well_formed_by S (tree_with s (fresh rules)) ≡ true
  unfolding well_formed_by
  opened-kept S e = rw (opened-formed, e) refl

  -- an opening with the number 0
  as_opened : {n : ℕ} → n ≡ 0 → OpensAs bs limit rules n (opened_tree bs limit rules)
  as_opened e = record { number = e; empty = refl; scheduler = ap (λ (q : Machine Packet). with q (fresh rules)) opened-machine }

module _ (source : List ℕ) (f : fault 32 source ≡ 0) (limit : ℕ) (fits : limit_fault limit ≡ 0) (rules : List Rule)
    (e : rule_fault (tree source) rules ≡ 0) where
  wide : fault 64 source ≡ 0
  wide = fault_wider 32 64 source (omega arith) f

  pub own_opens : OpensAs source limit rules (tree_fault source limit rules) (opened_tree source limit rules)
  unfolding tree_fault
  own_opens = as_opened source wide limit fits rules (rw (no_fault source wide limit fits rules, e) refl)

  pub own_passes : own_refusal (opened_tree source limit rules) ≡ 0
  unfolding own_refusal
  own_passes =
      let kept = opened-kept source wide limit fits rules (tree source) e in
      rw (opened-drawing source wide limit fits rules) (rw kept refl)

  module _ (target : List ℕ) (g : fault 64 target ≡ 0) where
    pub chip-opens : OpensAs target limit rules (chip_fault source target limit rules) (opened_tree target limit rules)
    unfolding chip_fault
    chip-opens = as_opened target g limit fits rules (rw (f, no_fault target g limit fits rules, e) refl)

    same_bytes : bytes (opened_state target limit) ≡ target
    same_bytes =
        let s = opened_state target limit in
        sym (drawn 64 (bytes s) (formed s (opened-formed target g limit fits rules)).valid)
        ∙ ap code (opened-drawing target g limit fits rules) ∙ drawn 64 target g

    pub chip_passes : (m : List ℕ) → Passes (tree source) (tree target) m → chip_refusal source m (opened_tree target limit rules) ≡ 0
    chip_passes m E =
        let l : list_fault (code (tree source)) (code (tree target)) m ≡ 0 = passes_list (tree source) (tree target) m E in
        chip_known source m (opened_tree target limit rules) record {
          drawing = f;
          formed = opened-kept target g limit fits rules (tree source) e;
          mapped = rw same_bytes (rw (drawn 32 source f, drawn 64 target g) at l);
        }

-- Opening: a state with no entries stands for the empty tree, and it is well formed if the topology and the limit are valid.
use Rattle.std.specs.Prelude.{Result, Ok, Err, IfOk}
use mathlib.Core.Path.{◌≡◌, refl, sym, ap, ◌∙◌}
use Prim.Native.Nat.{ℕ, zero, suc, ◌-◌, ◌≤◌}
use native.Mathlib.Omega.{arith}
use mathlib.Core.List.{List, [], map}
use mathlib.Core.Bool.{true, false}
use lib.ListN.{length, replicate}
use lib.Seq.{slice, take-append_seam}
use Rattle.base.proofs.Refusals.{or_else_none}
use Rattle.refusal.specs.Numbers.{number_of}
use Rattle.refusal.specs.declared.Refusal.{Refusal}
use Rattle.topology.specs.Reader.{fault, tree}
use Rattle.topology.proofs.Lookup.{valid_length}
use Rattle.pifo_model.specs.Tree.{empty, held, well}
use Rattle.pifo_model.specs.Machine.{opened}
use Rattle.pifo_model.proofs.Numbered.{empty_assemble, assemble_same}
use Rattle.pifo_model.proofs.Runs.{opened-sound}
use Rattle.queue_limit.specs.Limit.{limit_fault}
use Rattle.queue_limit.proofs.Limit.{limit_good, limit_range}
use Rattle.queue_state.specs.State.{Packet, entry_of, start_of, queue_in, queues, bytes, tree_of, machine, well_formed}
use Rattle.queue_state.specs.Opening.{open_fault, no_tree, opened_state, Opens}
use Rattle.queue_state.specs.declared.Entry.{Entry as CodeEntry}
use Rattle.queue_state.specs.declared.State.{State}
use Rattle.queue_state.proofs.WellFormed.{form, unformed}

no_start : (k n : ℕ) → start_of (replicate k 0) n ≡ 0
no_start zero zero = refl
no_start zero (suc n) = refl
no_start (suc k) zero = refl
no_start (suc k) (suc n) = omega (arith, no_start k n)

no_queue : (es : List CodeEntry) (n : ℕ) → queue_in (replicate 64 0) es n ≡ []
no_queue es n =
    ap (λ (k : ℕ). map entry_of (slice k (start_of (replicate 64 0) (suc n)) es)) (no_start 64 n)
    ∙ ap (λ (k : ℕ). map entry_of (slice 0 k es)) (no_start 64 (suc n))

-- an opening is not refused exactly where the topology is valid and the limit is 1 to 256
pub refused_none : (bs : List ℕ) (limit : ℕ) → open_fault bs limit ≡ 0 → (fault 64 bs ≡ 0) × (1 ≤ limit) × (limit ≤ 256)
unfolding open_fault
refused_none bs limit e =
    let n = or_else_none (fault 64 bs) (limit_fault limit) e in
    let l = limit_range limit n.1 in
    (n.0, l.0, l.1)

pub none_refused : (bs : List ℕ) (limit : ℕ) → fault 64 bs ≡ 0 → 1 ≤ limit → limit ≤ 256 → open_fault bs limit ≡ 0
unfolding open_fault
none_refused bs limit v h g = rw v (limit_good limit h g)

pub short : (bs : List ℕ) (limit : ℕ) → open_fault bs limit ≡ 0 → length bs ≤ 64
short bs limit e = valid_length 64 bs (refused_none bs limit e).0

-- `no_tree` is not well formed: its limit is 0
pub no_tree_ill : well_formed no_tree ≡ false
unfolding no_tree
no_tree_ill = unformed no_tree (λ f. omega (arith, f.least))

-- a topology and a limit that are accepted
module _ (bs : List ℕ) (limit : ℕ) where
  abbrev fresh : State
  fresh = opened_state bs limit

  same_bytes : bytes fresh ≡ bs
  unfolding bytes opened_state
  same_bytes = take-append_seam bs (replicate (64 - length bs) 0)

  same_tree : tree_of fresh ≡ empty (tree bs)
  unfolding tree_of queues opened_state
  same_tree =
      assemble_same (tree (bytes fresh)) (queue_in (replicate 64 0) fresh.entries) (λ _. []) 0 (λ m _ _. no_queue fresh.entries m)
      ∙ sym (empty_assemble (tree (bytes fresh)) 0)
      ∙ ap (λ (l : List ℕ). empty (tree l)) same_bytes

  same_machine : machine fresh ≡ opened (tree bs) limit
  unfolding machine opened_state
  same_machine = λ k. record { topology = tree (same_bytes k); limit = limit; refusals = 0; tree = same_tree k }

  well-formed : open_fault bs limit ≡ 0 → well_formed fresh ≡ true
  unfolding opened_state
  well-formed e =
      let f = refused_none bs limit e in
      let s = opened-sound Packet (tree bs) limit in
      form fresh record {
        nodes = valid_length 64 bs f.0;
        used = omega (arith, no_start 64 (length bs));
        valid = ap (fault 64) same_bytes ∙ f.0;
        least = f.1;
        most = f.2;
        tree = ap well same_tree ∙ s.tree;
        room = omega (arith, ap held same_tree, s.limit);
      }

pub opens : (bs : List ℕ) (limit : ℕ) (r : Result State Refusal) → number_of r ≡ open_fault bs limit → IfOk r (λ s. s ≡ opened_state bs limit)
    → Opens bs limit r
opens bs limit (Ok s) e f =
    record {
      refusal = e;
      machine = ap machine f ∙ same_machine bs limit;
      formed = ap well_formed f ∙ well-formed bs limit (sym e);
      nothing = no_tree_ill;
    }
opens bs limit (Err r) e f = record { refusal = e; machine = tt; formed = tt; nothing = no_tree_ill }

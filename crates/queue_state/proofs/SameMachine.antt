-- A machine determines its state except for unused places: the lengths of the queues and their entries.
use mathlib.Core.Path.{◌≡◌, sym, ap, ◌∙◌, subst}
use Prim.Native.Nat.{ℕ, suc, ◌+◌, ◌≤◌, ◌<◌}
use native.Mathlib.Decide.{ℕ_discrete, dec_lt}
use native.Mathlib.Omega.{arith}
use mathlib.Core.List.{map}
use mathlib.Core.Bool.{true}
use lib.ListN.{length, take, get_or}
use lib.Seq.{length-take-le}
use Rattle.topology.specs.Tree.{Topo, Forest, node, fnil, fcons, size, sizes}
use Rattle.topology.specs.Reader.{tree}
use Rattle.topology.proofs.Lookup.{valid_size}
use Rattle.pifo_model.specs.Machine.{Machine}
use Rattle.queue_state.specs.State.{Packet, entry_of, start_of, queue_in, queues, bytes, tree_of, machine, well_formed}
use Rattle.queue_state.specs.declared.State.{State}
use Rattle.queue_state.proofs.WellFormed.{formed}
use Rattle.queue_state.proofs.Arrays.{Arrays}
use Rattle.queue_state.proofs.Stretch.{start_order, queue_length, joined, joined_same, joined_front}
use Rattle.pifo_model.specs.Assembled.{Queues, assemble, assemble_all}

module _ {P : Type 0} where
  mutual
    parts : (t : Topo) (q r : Queues P) (k : ℕ) → assemble t q k ≡ assemble t r k → (m : ℕ) → k ≤ m → m < k + size t → q m ≡ r m
    parts (node ts) q r k e m h g = by_root (ℕ_discrete k m) (λ l. parts_all ts q r (suc k) (cc) m l (omega arith))
      where
        by_root : Dec (k ≡ m) → (suc k ≤ m → q m ≡ r m) → q m ≡ r m
        by_root (yes y) f = subst (λ (n : ℕ). q n ≡ r n) y (cc)
        by_root (no y) f = f (omega arith)

    parts_all : (ts : Forest) (q r : Queues P) (k : ℕ) → assemble_all ts q k ≡ assemble_all ts r k → (m : ℕ) → k ≤ m → m < k + sizes ts → q m ≡ r m
    parts_all fnil q r k e m h g = absurd (omega arith)
    parts_all (fcons t ts) q r k e m h g = by_tree (dec_lt m (k + size t)) (λ l. parts t q r k (cc) m h l) (λ l. parts_all ts q r (k + size t) (cc) m l (omega arith))
      where
        by_tree : Dec (m < k + size t) → (m < k + size t → q m ≡ r m) → (k + size t ≤ m → q m ≡ r m) → q m ≡ r m
        by_tree (yes l) f g = f l
        by_tree (no l) f g = g (omega arith)

-- two states with the same lengths of queues and the same entries
pub record Alike (s r : State) : Type 0 where
  pub lengths : (n : ℕ) → n < s.frame.nodes → get_or s.lengths n 0 ≡ get_or r.lengths n 0
  pub entries : map entry_of (take (start_of s.lengths s.frame.nodes) s.entries) ≡ map entry_of (take (start_of r.lengths r.frame.nodes) r.entries)

module _ (s r : State) (a : Arrays s) (b : Arrays r) (t : well_formed s ≡ true) (u : well_formed r ≡ true) where
  count : (s : State) → Arrays s → well_formed s ≡ true → s.frame.nodes ≡ size (tree (bytes s))
  unfolding bytes
  count s a t =
      let f = formed s t in
      sym (valid_size 64 (take s.frame.nodes s.frame.topology) f.valid ∙ length-take-le s.frame.nodes s.frame.topology (omega (arith, a.topology, f.nodes)))

  pub same_machine : machine s ≡ machine r → Alike s r
  unfolding machine tree_of queues
  same_machine e =
      let d : tree (bytes s) ≡ tree (bytes r) = ap (λ (m : Machine Packet). m.topology) e in
      let n : s.frame.nodes ≡ r.frame.nodes = count s a t ∙ ap size d ∙ sym (count r b u) in
      let f = formed s t in
      let g = formed r u in
      let same : (m : ℕ) → m < s.frame.nodes → queue_in s.lengths s.entries m ≡ queue_in r.lengths r.entries m = λ m h.
      parts (tree (bytes s)) (queue_in s.lengths s.entries) (queue_in r.lengths r.entries) 0
      (ap (λ (m : Machine Packet). m.tree) e ∙ ap (λ (x : Topo). assemble x (queue_in r.lengths r.entries) 0) (sym d))
      m (omega arith) (omega (arith, count s a t)) in
      record {
        lengths = λ m h.
            sym (queue_length s.lengths s.entries m (omega (arith, start_order s.lengths (suc m) s.frame.nodes h, f.used, a.entries)))
            ∙ ap length (same m h)
            ∙ queue_length r.lengths r.entries m (omega (arith, start_order r.lengths (suc m) r.frame.nodes (omega arith), g.used, b.entries));
        entries =
            sym (joined_front s.lengths s.entries s.frame.nodes (omega (arith, f.used, a.entries)))
            ∙ joined_same (queue_in s.lengths s.entries) (queue_in r.lengths r.entries) 0 s.frame.nodes (λ m x y. same m (omega arith))
            ∙ ap (joined (queue_in r.lengths r.entries) 0) n
            ∙ joined_front r.lengths r.entries r.frame.nodes (omega (arith, g.used, b.entries));
      }

-- Every machine within the limits of a state is the machine of some state: the one with the tree's queues one after the other, in the order of their
-- nodes (`realized`).
use mathlib.Core.Path.{◌≡◌, refl, sym, ap, ◌∙◌}
use Prim.Native.Nat.{ℕ, zero, suc, ◌*◌, ◌-◌, ◌≤◌, ◌<◌}
use native.Mathlib.Nat.{zero-add, mul-le-mul_right}
use native.Mathlib.Omega.{arith}
use mathlib.Core.List.{List, [], ◌∷◌, ◌++◌, map}
use mathlib.Core.Bool.{true}
use lib.ListN.{length, get_or, replicate, length-append, get_or-append}
use lib.Seq.{take-append_seam}
use Rattle.std.proofs.lemmas.List.{length-map, get_or-map, map-append}
use Rattle.topology.specs.Tree.{Topo, size, height}
use Rattle.topology.specs.Reader.{fault, tree}
use Rattle.topology.proofs.Reader.{within}
use Rattle.topology.proofs.Lookup.{valid_size, valid_length}
use Rattle.pifo_model.specs.Queue.{Item, Entry, child, packet, entry}
use Rattle.pifo_model.specs.Tree.{PTree, shape, held, well}
use Rattle.pifo_model.specs.Machine.{Machine}
use Rattle.pifo_model.proofs.Total.{total, total_held, total_assemble, sum_from}
use Rattle.queue_state.specs.State.{Packet, entry_of, start_of, queues, bytes, tree_of, machine, well_formed}
use Rattle.queue_state.specs.Entries.{no_entry}
use Rattle.queue_state.specs.declared.Item.{Item as CodeItem}
use Rattle.queue_state.specs.declared.Item.TheVariants.{Child, Packet as PacketItem}
use Rattle.queue_state.specs.declared.Entry.{Entry as CodeEntry}
use Rattle.queue_state.specs.declared.State.{State}
use Rattle.queue_state.proofs.WellFormed.{form}
use Rattle.queue_state.proofs.Stretch.{joined, start-joined, cut}
use Rattle.queue_state.proofs.Listed.{queues_of, queues_size, assemble_listed}
use Rattle.pifo_model.specs.Assembled.{Queues, assemble}

-- ---- the code's entry for an entry of the definition

abbrev code_item : Item Packet → CodeItem
code_item (child i) = Child i
code_item (packet p) = PacketItem p

abbrev code_entry : Entry Packet → CodeEntry
code_entry (entry r x) = record { rank = r; item = code_item x }

entry_code : (e : Entry Packet) → entry_of (code_entry e) ≡ e
entry_code (entry r (child i)) = refl
entry_code (entry r (packet p)) = refl

entries_code : (q : List (Entry Packet)) → map entry_of (map code_entry q) ≡ q
entries_code [] = refl
entries_code (e ∷ q) = let x = entry_code e in let y = entries_code q in λ k. x k ∷ y k

joined_length : (q : Queues Packet) (n k : ℕ) → length (joined q n k) ≡ sum_from n k (λ i. length (q i))
joined_length q n zero = refl
joined_length q n (suc k) = omega (arith, length-append (q n) (joined q (suc n) k), joined_length q (suc n) k)

-- ---- the state of a machine

-- a list extended to a given length with one element
abbrev filled {ℓ} : {A : Type ℓ} → ℕ → A → List A → List A
filled n a l = l ++ replicate (n - length l) a

abbrev queue_of : PTree Packet → Queues Packet
queue_of t n = get_or (queues_of t) n []

abbrev lengths_of : PTree Packet → List ℕ
lengths_of t = map (λ (q : List (Entry Packet)). length q) (queues_of t)

abbrev entries_of : PTree Packet → List CodeEntry
entries_of t = map code_entry (joined (queue_of t) 0 (size (shape t)))

pub state_for : List ℕ → Machine Packet → State
state_for bs m =
    record {
      frame = record { topology = filled 64 0 bs; nodes = length bs; limit = m.limit };
      refused = m.refusals;
      lengths = filled 64 0 (lengths_of m.tree);
      entries = filled 2304 no_entry (entries_of m.tree);
    }

-- what a machine has to meet for there to be a state of it
pub record Fits (bs : List ℕ) (m : Machine Packet) : Type 0 where
  pub valid : fault 64 bs ≡ 0
  pub topology : m.topology ≡ tree bs
  pub least : 1 ≤ m.limit
  pub most : m.limit ≤ 256
  pub shape : shape m.tree ≡ m.topology
  pub tree : well m.tree ≡ true
  pub room : held m.tree ≤ m.limit

pub record Realizes (m : Machine Packet) (s : State) : Type 0 where
  pub formed : well_formed s ≡ true
  pub machine : machine s ≡ m

module _ (bs : List ℕ) (m : Machine Packet) (f : Fits bs m) where
  abbrev state : State
  state = state_for bs m

  same_shape : shape m.tree ≡ tree bs
  same_shape = f.shape ∙ f.topology

  nodes : size (shape m.tree) ≡ length bs
  nodes = ap size same_shape ∙ valid_size 64 bs f.valid

  -- 256 packets on 9 nodes each fit the array
  few : length (joined (queue_of m.tree) 0 (size (shape m.tree))) ≤ 2304
  few =
      let h = total_held m.tree f.tree in
      let g : height (shape m.tree) ≤ 8 = omega (arith, ap height same_shape, (within 64 bs f.valid).steps) in
      let x : suc (height (shape m.tree)) * held m.tree ≤ 9 * held m.tree = mul-le-mul_right (held m.tree) (omega arith) in
      let e = assemble_listed m.tree (queue_of m.tree) 0 (λ i h. ap (queue_of m.tree) (zero-add i)) in
      omega (
        arith,
        joined_length (queue_of m.tree) 0 (size (shape m.tree)),
        total_assemble (shape m.tree) (queue_of m.tree) 0,
        ap total e,
        f.room,
        f.most,
      )

  same_bytes : bytes state ≡ bs
  unfolding bytes state_for
  same_bytes = take-append_seam bs (replicate (64 - length bs) 0)

  -- the lengths and the entries are those of the queues
  same_lengths : (n : ℕ) → n < size (shape m.tree) → get_or state.lengths n 0 ≡ length (queue_of m.tree n)
  unfolding state_for
  same_lengths n h =
      let l = lengths_of m.tree in
      let e = length-map (queues_of m.tree) (λ (q : List (Entry Packet)). length q) in
      get_or-append l (replicate (64 - length l) 0) 0 n (omega (arith, queues_size m.tree))
      ∙ get_or-map (λ (q : List (Entry Packet)). length q) (queues_of m.tree) n [] 0 (omega (arith, queues_size m.tree))

  abbrev back : List (Entry Packet)
  back = map entry_of (replicate (2304 - length (entries_of m.tree)) no_entry)

  same_entries : map entry_of state.entries ≡ joined (queue_of m.tree) 0 (size (shape m.tree)) ++ back
  unfolding state_for
  same_entries =
      map-append entry_of (entries_of m.tree) (replicate (2304 - length (entries_of m.tree)) no_entry)
      ∙ ap (λ (l : List (Entry Packet)). l ++ back) (entries_code (joined (queue_of m.tree) 0 (size (shape m.tree))))

  same_queues : (n : ℕ) → n < size (shape m.tree) → queues state n ≡ queue_of m.tree n
  unfolding queues
  same_queues = cut state.lengths state.entries (queue_of m.tree) (size (shape m.tree)) back same_lengths same_entries

  same_tree : tree_of state ≡ m.tree
  unfolding tree_of
  same_tree =
      ap (λ (t : Topo). assemble t (queues state) 0) (ap tree same_bytes ∙ sym same_shape)
      ∙ assemble_listed m.tree (queues state) 0 (λ i h. ap (queues state) (zero-add i) ∙ same_queues i h)

  same_machine : machine state ≡ m
  unfolding machine state_for
  same_machine =
      let a : tree (bytes state) ≡ m.topology = ap tree same_bytes ∙ sym f.topology in
      let b = same_tree in
      λ k. record { topology = a k; limit = m.limit; refusals = m.refusals; tree = b k }

  pub realized : Realizes m state
  unfolding state_for
  realized =
      let q = queue_of m.tree in
      let n = size (shape m.tree) in
      let starts = start-joined state.lengths state.entries q n back same_lengths same_entries n (omega arith) in
      record {
        formed =
            form state record {
              nodes = valid_length 64 bs f.valid;
              used = omega (arith, few, starts, ap (start_of state.lengths) nodes);
              valid = ap (fault 64) same_bytes ∙ f.valid;
              least = f.least;
              most = f.most;
              tree = ap well same_tree ∙ f.tree;
              room = omega (arith, ap held same_tree, f.room);
            };
        machine = same_machine;
      }

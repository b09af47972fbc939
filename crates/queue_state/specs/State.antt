-- The machine that a state of the code stands for, with its queues and its tree; and when a state is well formed.
use Rattle.std.specs.Prelude.{ℕ, suc, List, map, Bool, ◌&&◌, take, eqb, leb}
use Rattle.std.proofs.Math.Seq.{slice}
use Rattle.base.specs.Sum.{sum}
use Rattle.topology.specs.Reader.{fault, tree}
use Rattle.pifo_model.specs.Queue.{Item, Entry, child, packet, entry}
use Rattle.pifo_model.specs.Tree.{PTree, well, held}
use Rattle.pifo_model.specs.Machine.{Machine}
use Rattle.queue_state.specs.declared.Item.{Item as CodeItem}
use Rattle.queue_state.specs.declared.Item.TheVariants.{Child, Packet as PacketItem}
use Rattle.queue_state.specs.declared.Entry.{Entry as CodeEntry}
use Rattle.queue_state.specs.declared.State.{State}
use Rattle.pifo_model.specs.Assembled.{Queues, assemble}

-- packets; in the code they are unsigned 32-bit numbers
abbrev pub Packet : Type 0
Packet = ℕ

-- the model's item and entry for those of the code
abbrev pub item_of : CodeItem → Item Packet
item_of (Child i) = child i
item_of (PacketItem p) = packet p

abbrev pub entry_of : CodeEntry → Entry Packet
entry_of e = entry e.rank (item_of e.item)

-- where the queue of node n begins: after the queues of the nodes before it
abbrev pub start_of : List ℕ → ℕ → ℕ
start_of lengths n = sum (take n lengths)

-- the queue of node n: it ends where the next one begins
abbrev pub queue_in : List ℕ → List CodeEntry → Queues Packet
queue_in lengths entries n = map entry_of (slice (start_of lengths n) (start_of lengths (suc n)) entries)

unfoldable pub queues : State → Queues Packet
queues s = queue_in s.lengths s.entries

unfoldable pub bytes : State → List ℕ
bytes s = take s.frame.nodes s.frame.topology

unfoldable pub tree_of : State → PTree Packet
tree_of s = assemble (tree (bytes s)) (queues s) 0

unfoldable pub machine : State → Machine Packet
machine s = record { topology = tree (bytes s); limit = s.frame.limit; refusals = s.refused; tree = tree_of s }

-- the counts do not exceed the arrays
unfoldable pub in_bounds : State → Bool
in_bounds s = leb s.frame.nodes 64 && leb (start_of s.lengths s.frame.nodes) 2304

-- A well-formed state (paper 01): its topology is valid, its limit is 1 to 256, it holds no more packets than the limit, and its tree is well formed.
-- Besides, its counts do not exceed its arrays.
unfoldable pub well_formed : State → Bool
well_formed s =
    in_bounds s && eqb (fault 64 (bytes s)) 0 && (leb 1 s.frame.limit && leb s.frame.limit 256) && well (tree_of s) && leb (held (tree_of s)) s.frame.limit

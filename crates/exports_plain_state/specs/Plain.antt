-- A state as plain numbers, and what they stand for.
use Rattle.std.specs.Prelude.{◌≡◌, ℕ, zero, suc, map}
use Rattle.queue_state.specs.declared.Item.{Item}
use Rattle.queue_state.specs.declared.Item.TheVariants.{Child, Packet}
use Rattle.queue_state.specs.declared.Entry.{Entry}
use Rattle.queue_state.specs.declared.State.{State}
use Rattle.exports_plain_state.specs.declared.PlainEntry.{PlainEntry}
use Rattle.exports_plain_state.specs.declared.PlainState.{PlainState}

-- the item for a tag, a child and a packet: the child if the tag is 0, else the packet
abbrev pub item_from : ℕ → ℕ → ℕ → Item
item_from zero c p = Child c
item_from (suc t) c p = Packet p

abbrev pub entry_of : PlainEntry → Entry
entry_of e = record { rank = e.rank; item = item_from e.tag e.child e.packet }

unfoldable pub state_of : PlainState → State
state_of s =
    record { frame = s.frame; refused = s.refused; lengths = s.lengths; entries = map entry_of s.entries }

-- an entry as plain numbers, with 0 in the field that it does not use
abbrev pub plain_item : ℕ → Item → PlainEntry
plain_item r (Child c) = record { rank = r; tag = 0; child = c; packet = 0 }
plain_item r (Packet p) = record { rank = r; tag = 1; child = 0; packet = p }

abbrev pub plain_entry : Entry → PlainEntry
plain_entry e = plain_item e.rank e.item

-- a state as plain numbers
unfoldable pub plain_of : State → PlainState
plain_of s =
    record { frame = s.frame; refused = s.refused; lengths = s.lengths; entries = map plain_entry s.entries }

-- plain numbers that `plain_of` gives for some state
abbrev pub Written : PlainState → Type 0
Written p = p ≡ plain_of (state_of p)

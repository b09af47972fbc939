-- States as plain numbers: the numbers written from a state stand for that state.
use mathlib.Core.Path.{◌≡◌, refl, sym, ap, ◌∙◌}
use Prim.Native.Nat.{ℕ}
use mathlib.Core.List.{List, [], ◌∷◌, map}
use Rattle.queue_state.specs.declared.Item.{Item}
use Rattle.queue_state.specs.declared.Item.TheVariants.{Child, Packet}
use Rattle.queue_state.specs.declared.Entry.{Entry}
use Rattle.queue_state.specs.declared.State.{State}
use Rattle.exports_plain_state.specs.declared.PlainState.{PlainState}
use Rattle.exports_plain_state.specs.Plain.{entry_of, state_of, plain_item, plain_entry, plain_of, Written}

item_back : (r : ℕ) (x : Item) → entry_of (plain_item r x) ≡ record { rank = r; item = x }
item_back r (Child c) = refl
item_back r (Packet p) = refl

entries_back : (es : List Entry) → map entry_of (map plain_entry es) ≡ es
entries_back [] = refl
entries_back (e ∷ es) =
    let h : entry_of (plain_entry e) ≡ e = item_back e.rank e.item in
    let r = entries_back es in
    cc

-- a state with given entries and all other fields from plain numbers
abbrev state_with : PlainState → List Entry → State
state_with p es =
    record { frame = p.frame; refused = p.refused; lengths = p.lengths; entries = es }

-- the state that written numbers stand for
pub state_back : (p : PlainState) (s : State) → p ≡ plain_of s → state_of p ≡ s
unfolding state_of plain_of
state_back p s e = ap state_of e ∙ ap (state_with (plain_of s)) (entries_back s.entries)

pub is_written : (p : PlainState) (s : State) → p ≡ plain_of s → Written p
is_written p s e = e ∙ ap plain_of (sym (state_back p s e))

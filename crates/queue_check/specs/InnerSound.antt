-- Promises of the private functions of the test of a state.
use Rattle.std.specs.Prelude.{◌≡◌, ℕ, suc, ◌+◌, ◌≤◌, ◌<◌, List, map, true, ◌&&◌, cond, length, get_or, Option, None, Some, is_some, IfSome, MatchOption}
use Rattle.std.specs.List.{slice_range}
use Rattle.std.proofs.Common.{Bor}
use Rattle.topology.specs.Branch.{start}
use Rattle.pifo_model.specs.Queue.{Item, child, packet, rises_from, allowed, every, occurs}
use Rattle.queue_state.specs.State.{entry_of, start_of, queue_in}
use Rattle.queue_state.specs.declared.Entry.{Entry as CodeEntry}
use Rattle.queue_check.specs.Tests.{Heading}
use Rattle.queue_check.specs.declared.Test.{Test}

-- the place of an item in a node's counts: its child number, 0 for a packet
abbrev pub place : Item ℕ → ℕ
place (child i) = i
place (packet p) = 0

-- that place, if the node may hold the item
abbrev pub slot : ℕ → Item ℕ → Option ℕ
slot children x = cond (allowed children x) (Some (place x)) None

-- a part of the array: none if it does not end within the array
abbrev pub Part : List CodeEntry → ℕ → ℕ → Option (Bor (List CodeEntry)) → Type 0
Part es start size r =
    MatchOption r (2304 < start + size)
    (λ part. (start + size ≤ 2304) × (part.now ≡ slice_range es start (start + size)) × (length part.now ≡ size))

-- Whether no rank falls in a queue and its node may hold its items, and if so, how often each child occurs.
pub record Counted (queue : List CodeEntry) (children : ℕ) (r : Option (List ℕ)) : Type 0 where
  pub sound : is_some r ≡ rises_from 0 (map entry_of queue) && every (allowed children) (map entry_of queue)
  pub counts : IfSome r (λ counts. (i : ℕ) → 0 < i → i ≤ 8 → get_or counts i 0 ≡ occurs i (map entry_of queue))

-- for the first k children of node n, the count of child i + 1 is the length of that child's queue
abbrev pub AllMatch : List ℕ → List ℕ → List ℕ → ℕ → ℕ → Type 0
AllMatch bytes counts lengths n k = (i : ℕ) → i < k → get_or counts (suc i) 0 ≡ get_or lengths (start bytes n i) 0

-- node n meets the clauses of a well-formed tree
pub record Fine (bytes lengths : List ℕ) (es : List CodeEntry) (n : ℕ) : Type 0 where
  pub rises : rises_from 0 (queue_in lengths es n) ≡ true
  pub own : every (allowed (get_or bytes n 0)) (queue_in lengths es n) ≡ true
  pub counts : (i : ℕ) → i < get_or bytes n 0 → occurs (suc i) (queue_in lengths es n) ≡ get_or lengths (start bytes n i) 0

-- the queues lie within the array, each node meets the clauses, and the root's queue is within the limit
pub record AllFine (bytes lengths : List ℕ) (es : List CodeEntry) (limit : ℕ) : Type 0 where
  pub fits : start_of lengths (length bytes) ≤ 2304
  pub fine : (n : ℕ) → n < length bytes → Fine bytes lengths es n
  pub room : get_or lengths 0 0 ≤ limit

-- what the pass over the queues finds if all are fine
pub record Found (bytes lengths : List ℕ) (es : List CodeEntry) (limit : ℕ) (t : Test) : Type 0 where
  pub fine : AllFine bytes lengths es limit
  pub held : t.held ≡ get_or lengths 0 0
  pub used : t.used ≡ start_of lengths (length bytes)
  pub heads : Heading t.heads (queue_in lengths es) (length bytes)

-- what the pass over the queues answers
abbrev pub Tallied : List ℕ → List ℕ → List CodeEntry → ℕ → Option Test → Type 0
Tallied bytes lengths es limit r = MatchOption r (AllFine bytes lengths es limit → ⊥) (Found bytes lengths es limit)

-- What the test of a state promises.
use Rattle.std.specs.Prelude.{◌≡◌, ℕ, ◌<◌, List, [], ◌∷◌, length, get_or, Option, None, Some, is_some, IfSome}
use Rattle.pifo_model.specs.Queue.{Entry}
use Rattle.pifo_model.specs.Tree.{held}
use Rattle.queue_state.specs.State.{Packet, entry_of, start_of, queues, tree_of, well_formed}
use Rattle.queue_state.specs.declared.Entry.{Entry as CodeEntry}
use Rattle.queue_state.specs.declared.State.{State}
use Rattle.queue_check.specs.declared.Test.{Test}
use Rattle.pifo_model.specs.Assembled.{Queues}

-- the head of a queue, in the model and in the code's table
abbrev pub head_of : List (Entry Packet) → Option (Entry Packet)
head_of [] = None
head_of (e ∷ q) = Some e

abbrev pub head_entry : Option CodeEntry → Option (Entry Packet)
head_entry None = None
head_entry (Some e) = Some (entry_of e)

-- the table `heads` has the head of each queue
pub record Heading (heads : List (Option CodeEntry)) (q : Queues Packet) (nodes : ℕ) : Type 0 where
  pub places : length heads ≡ 64
  pub head : (n : ℕ) → n < nodes → head_of (q n) ≡ head_entry (get_or heads n None)

-- The test of a state: it gives something exactly if the state is well formed, namely how many packets and how many entries it holds, and the head of
-- each queue. Unspecified: the table past the last node.
pub record Tests (s : State) (r : Option Test) : Type 0 where
  pub sound : is_some r ≡ well_formed s
  pub count : IfSome r (λ t. t.held ≡ held (tree_of s))
  pub used : IfSome r (λ t. t.used ≡ start_of s.lengths s.frame.nodes)
  pub heads : IfSome r (λ t. Heading t.heads (queues s) s.frame.nodes)

-- Promises of the private functions of a push.
use Rattle.std.specs.Prelude.{◌≡◌, ℕ, ◌≤◌, List, length, get_or, is_some, count_by, Option, None, Some, Result, IfOk}
use Rattle.std.proofs.Math.Option.{Option as ModelOption, none, some}
use Rattle.refusal.specs.declared.Refusal.{Refusal}
use Rattle.refusal.specs.Numbers.{number_of}
use Rattle.topology.specs.Tree.{Topo}
use Rattle.pifo_model.specs.Queue.{Entry}
use Rattle.pifo_model.specs.Tree.{Step, path_fault}
use Rattle.pifo_model.specs.InnerNumbered.{entered}
use Rattle.queue_state.specs.State.{Packet, entry_of}
use Rattle.queue_state.specs.declared.Entry.{Entry as CodeEntry}
use Rattle.queue_push.specs.declared.arrivals.Added.{Added}

-- the model's entry for that of the code, if there is one
abbrev pub entry_in : Option CodeEntry → ModelOption (Entry Packet)
entry_in None = none
entry_in (Some e) = some (entry_of e)

-- the new entry of node n
abbrev pub new_at : List (Option CodeEntry) → ℕ → ModelOption (Entry Packet)
new_at new n = entry_in (get_or new n None)

-- the new entry of each node on the path, and how many there are
pub record Enters (t : Topo) (nodes : ℕ) (ss : List Step) (l : ℕ) (p : Packet) (a : Added) : Type 0 where
  pub places : length a.entries ≡ 64
  pub entries : (n : ℕ) → new_at a.entries n ≡ entered t 0 ss l p n
  pub count : count_by is_some a.entries ≡ a.count
  pub few : a.count ≤ 9
  pub own : (n : ℕ) → nodes ≤ n → get_or a.entries n None ≡ None

-- The walk down a path: its fault, or the new entries.
pub record Walked (t : Topo) (nodes : ℕ) (ss : List Step) (l : ℕ) (p : Packet) (r : Result Added Refusal) : Type 0 where
  pub fault : number_of r ≡ path_fault t ss
  pub added : IfOk r (λ a. Enters t nodes ss l p a)

-- Promises of the private functions of a pop.
use Rattle.std.specs.Prelude.{◌≡◌, ℕ, ◌-◌, List, map, cond, length, get_or, Option, None, Some}
use Rattle.std.proofs.Math.Option.{Option as ModelOption, none, some}
use Rattle.base.specs.Tests.{is_in}
use Rattle.topology.specs.Address.{subtree}
use Rattle.topology.specs.Reader.{tree}
use Rattle.pifo_model.specs.InnerNumbered.{descent}
use Rattle.pifo_model.specs.Way.{head_at}
use Rattle.queue_state.specs.State.{Packet}
use Rattle.queue_state.specs.declared.Entry.{Entry as CodeEntry}
use Rattle.queue_check.specs.Tests.{Heading}
use Rattle.queue_pop.specs.Way.{way_from}
use Rattle.queue_pop.specs.declared.departures.Trail.{Trail}
use Rattle.pifo_model.specs.Assembled.{Queues}

-- the code's trail for a way through the nodes ns: the packet, each queue on the way one entry shorter, and its head taken
pub record Leads (lengths : List ℕ) (depth : ℕ) (q : Queues Packet) (p : Packet) (ns : List ℕ) (t : Trail) : Type 0 where
  pub packet : t.packet ≡ p
  pub long : length t.lengths ≡ 64
  pub shorter : (m : ℕ) → get_or t.lengths m 0 ≡ get_or lengths m 0 - cond (is_in m ns) 1 0
  pub way : t.way ≡ way_from depth (map (head_at q) ns)

-- there is a trail exactly if there is a way
abbrev pub Down : List ℕ → ℕ → Queues Packet → ModelOption (Packet × List ℕ) → Option Trail → Type 0
Down lengths depth q none None = Unit
Down lengths depth q none (Some t) = ⊥
Down lengths depth q (some (p, ns)) None = ⊥
Down lengths depth q (some (p, ns)) (Some t) = Leads lengths depth q p ns t

-- A pop from a node down, through at most `left` nodes: of queues with these heads, the trail along the definition's way.
abbrev pub Pops : List ℕ → List ℕ → List (Option CodeEntry) → ℕ → ℕ → Option Trail → Type 0
Pops bytes lengths heads node left r =
    (q : Queues Packet) → Heading heads q (length bytes) → Down lengths (9 - left) q (descent left (subtree (tree bytes) node) node q) r

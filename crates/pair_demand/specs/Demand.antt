-- Demand 3 of paper 01, "Both trees on one sheet", as one statement about lists of calls, which mix pushes by path, pushes to a leaf and pops:
-- `Demand3`, proved in `proofs/Demand.antt`. It includes the disciplines of paper 02, 2.1, the drawings of 2.2, whose nodes with one child are passed
-- over, and the regular chips of 2.3.
--
-- The statement refers to the code only by its contracts: an execution is any sequence of answers and trees that the contracts of the calls on a tree
-- by itself and on a chip's tree (`OwnServes`, `ChipServes`) allow, and an answer of the search is any that its contract allows. So it holds of any
-- code that meets the contracts.
use Rattle.std.specs.Prelude.{◌≡◌, ◌↔◌, ℕ, ◌+◌, ◌≤◌, ◌<◌, min, List, [], ◌∷◌, map, length, Result, Ok}
use Rattle.refusal.specs.Numbers.{number_of}
use Rattle.refusal.specs.declared.Refusal.{Refusal}
use Rattle.topology.specs.Tree.{Topo, code}
use Rattle.topology.specs.Reader.{Within, fault, tree}
use Rattle.pifo_model.specs.Tree.{held}
use Rattle.pifo_model.specs.Machine.{popping, Answer, number_of as answer_number, most, opened}
use Rattle.pifo_model.specs.Runs.{accepted_by, departed_by, times}
use Rattle.topology_reduction.specs.Reduced.{reduced, kept_bytes}
use Rattle.embedding_model.specs.Rules.{Passes}
use Rattle.pair_model.specs.Reduced.{places_of}
use Rattle.regular_model.specs.Regular.{complete}
use Rattle.regular_depth.specs.Answers.{Answers}
use Rattle.embedding_least.specs.Answers.{Searches}
use Rattle.embedding_search.specs.Search.{images}
use Rattle.queue_state.specs.State.{Packet, tree_of}
use Rattle.queue_state.specs.Demand.{Transition, History, Execution}
use Rattle.queue_push.specs.declared.Path.{Path}
use Rattle.queue_counts.specs.Amounts.{amount}
use Rattle.discipline_model.specs.Figure.{rule_fault, fresh}
use Rattle.discipline_model.specs.Scheduler.{Request, calling, pushing_to, with, serve_own, observed_over}
use Rattle.discipline_model.specs.declared.Rule.{Rule}
use Rattle.discipline_model.specs.declared.Disciplines.{Disciplines}
use Rattle.tree_state.specs.Opening.{tree_fault, opened_tree}
use Rattle.tree_state.specs.Calls.{well_formed_by, drawing, OwnServes}
use Rattle.tree_state.specs.declared.Tree.{Tree}
use Rattle.pair_schedule.specs.Chip.{serve_chip}
use Rattle.chip_state.specs.Opening.{chip_fault}
use Rattle.chip_state.specs.Calls.{ChipServes}
use Rattle.translator.specs.PushesLand.{push_along}

-- a call of the list: a push with a path as drawn and a packet; a push of a packet to a leaf of the drawing, with its class and its length; or a pop
pub data CodeRequest : Type 0 where
  push : Path → Packet → CodeRequest
  push_to_leaf : ℕ → ℕ → ℕ → Packet → CodeRequest
  pop : CodeRequest

-- the scheduler's request for a call
abbrev pub request_of : CodeRequest → Request Packet
request_of (push path packet) = calling (push_along path packet)
request_of (push_to_leaf leaf class len packet) = pushing_to leaf class len packet
request_of pop = calling popping

-- One call on the source's tree, and one on the chip's. On the chip's tree a path is carried over; if it has a fault in the drawing, the answer is
-- the fault's number and the tree stays as it was. Leaves and ranks are determined by the drawing on both sides.
abbrev pub SourceCall : Transition Tree CodeRequest
SourceCall t q a r = OwnServes t (request_of q) a r

abbrev pub ChipCall : List ℕ → List ℕ → Transition Tree CodeRequest
ChipCall source m t q a r = ChipServes source m t (request_of q) a r

-- What is observed of a tree: packets held and refusals counted, as `held` and `refusals` answer; and what it keeps for disciplines, which is the
-- rules, the virtual times and the finishes.
abbrev pub Observation : Type 0
Observation = (Result ℕ Refusal × Result ℕ Refusal) × Disciplines

-- what is observed of a tree that is to be well formed by the drawing S: for a chip's tree S is the source
abbrev pub observe : Topo → Tree → Observation
observe S t = ((amount (well_formed_by S t) (held (tree_of t.state)), amount (well_formed_by S t) t.state.refused), t.disciplines)

-- the same for a tree by itself, by its own drawing
abbrev pub observe_own : Tree → Observation
observe_own t = observe (drawing t) t

-- what is observed of an execution: each answer, and the observation of the tree after it
abbrev pub observed : (Tree → Observation) → History Tree → List (Answer Packet × Observation)
observed by vs = map (λ (v : Answer Packet × Tree). (v.0, by v.1)) vs

-- What an observation says after i packets were accepted, o departed and f pushes were refused by 15: the packets held are those accepted less those
-- that departed, and the refusals counted are the pushes refused by 15, up to the largest count.
abbrev pub Tally : ℕ → ℕ → ℕ → Observation → Type 0
Tally i o f v = (h : ℕ) × (h + o ≡ i) × (v.0 ≡ (Ok h, Ok (min f most)))

abbrev pub Tallied : ℕ → ℕ → ℕ → List (Answer Packet × Observation) → Type 0
Tallied i o f [] = Unit
Tallied i o f ((a, v) ∷ ls) =
    let j = i + accepted_by a in
    let p = o + length (departed_by a) in
    let g = f + times 15 (answer_number a ∷ []) in
    Tally j p g v × Tallied j p g ls

-- what is observed of a scheduler, in the form in which it is observed of a tree
abbrev pub as_observation : (ℕ × ℕ) × Disciplines → Observation
as_observation (n, d) = ((Ok n.0, Ok n.1), d)

abbrev pub as_observations : List (Answer Packet × ((ℕ × ℕ) × Disciplines)) → List (Answer Packet × Observation)
as_observations ls = map (λ (l : Answer Packet × ((ℕ × ℕ) × Disciplines)). (l.0, as_observation l.1)) ls

-- Both trees were opened empty with one limit and the same rules, as x and y, and a list of calls went to both, with the executions vs and ws.
pub record Alike (S T : Topo) (m : List ℕ) (limit : ℕ) (rules : List Rule) (calls : List CodeRequest) (x y : Tree) (vs ws : History Tree) : Type 0 where
  -- alike before the first call, in packets held, refusals counted and what is kept for disciplines
  pub before : observe_own x ≡ observe S y
  -- alike at every call, in the answer (accepted, departed with its packet, refused with its number, full with the new count), and after it
  pub every : observed observe_own vs ≡ observed (observe S) ws
  -- what the two counts are
  pub empty : Tally 0 0 0 (observe_own x)
  pub tallied : Tallied 0 0 0 (observed observe_own vs)
  -- each tree answers, counts and keeps what its topology, the limit, the rules and the calls so far give
  pub source : observed observe_own vs ≡ as_observations (observed_over serve_own (with (opened S limit) (fresh rules)) (map request_of calls))
  pub chip : observed (observe S) ws ≡ as_observations (observed_over (serve_chip S T m) (with (opened T limit) (fresh rules)) (map request_of calls))

pub record Demand3 : Type 0 where
  -- Any source and target with none of the faults, any map that meets the rules, any limit, any rules without fault 24 in the source, and any list
  -- of calls: the two trees are alike.
  pub alike : (source target m : List ℕ) (limit : ℕ) (rules : List Rule) → fault 32 source ≡ 0 → fault 64 target ≡ 0
      → Passes (tree source) (tree target) m → 1 ≤ limit → limit ≤ 256 → rule_fault (tree source) rules ≡ 0
      → let x = opened_tree source limit rules in
      let y = opened_tree target limit rules in
      (calls : List CodeRequest) (vs ws : History Tree) → Execution SourceCall x calls vs → Execution (ChipCall source m) y calls ws
      → Alike (tree source) (tree target) m limit rules calls x y vs ws
  -- Under the same conditions neither opening is refused.
  pub opens : (source target : List ℕ) (limit : ℕ) (rules : List Rule) → fault 32 source ≡ 0 → fault 64 target ≡ 0
      → 1 ≤ limit → limit ≤ 256 → rule_fault (tree source) rules ≡ 0
      → (tree_fault source limit rules ≡ 0) × (chip_fault source target limit rules ≡ 0)
  -- Every list of calls has an execution from every tree on, and the search and the question for the least depth have an answer for all arguments.
  pub source_executes : (t : Tree) (calls : List CodeRequest) → (vs : History Tree) × Execution SourceCall t calls vs
  pub chip_executes : (source m : List ℕ) (t : Tree) (calls : List CodeRequest) → (ws : History Tree) × Execution (ChipCall source m) t calls ws
  pub searches : (source target : List ℕ) → (r : Result (List ℕ) Refusal) × Searches source target r
  pub depths : (source : List ℕ) (d : ℕ) → (a : Result ℕ Refusal) × Answers source d a
  -- Whatever the search answers, it is 12 exactly when every list of numbers fails as the map of the pair. A list fails unless it gives one target
  -- node for each kept node and 255 for each passed one, and breaks none of the rules (`Passes`).
  pub twelve : (source target : List ℕ) → fault 32 source ≡ 0 → fault 64 target ≡ 0 → (r : Result (List ℕ) Refusal) → Searches source target r
      → (number_of r ≡ 12) ↔ ((l : List ℕ) → Passes (tree source) (tree target) l → ⊥)
  -- So 12 means that the reduced drawing has no map.
  pub twelve_reduced : (source target : List ℕ) → fault 32 source ≡ 0 → fault 64 target ≡ 0 → (r : Result (List ℕ) Refusal) → Searches source target r
      → (number_of r ≡ 12) ↔ ((l : List ℕ) → Passes (reduced (tree source)) (tree target) l → ⊥)
  -- If the search answers a map, the images that it gives meet the rules, so that `alike` holds with them.
  pub zero_passes : (source target m : List ℕ) → Searches source target (Ok m) → Passes (tree source) (tree target) (images source m)
  -- Every drawing has a map into its reduced drawing, which gives each kept node its number there. So `alike` holds of these two: a drawing and its
  -- reduced drawing answer every list of calls alike.
  pub loads_reduced : (source : List ℕ) → fault 32 source ≡ 0
      → (fault 64 (kept_bytes source) ≡ 0) × (tree (kept_bytes source) ≡ reduced (tree source))
      × Passes (tree source) (reduced (tree source)) (places_of (tree source))
  -- For a regular chip of the depth that `least_depth` answers (paper 02, 2.3), if it is within the limits, the search answers 0, so that `alike`
  -- holds with its map; and at each smaller depth it answers 12.
  pub zero_regular : (source : List ℕ) (d k : ℕ) → Answers source d (Ok k) → Within 64 (complete d k)
      → (r : Result (List ℕ) Refusal) → Searches source (code (complete d k)) r → number_of r ≡ 0
  pub twelve_regular : (source : List ℕ) (d k : ℕ) → Answers source d (Ok k) → Within 64 (complete d k)
      → (j : ℕ) → j < k → (r : Result (List ℕ) Refusal) → Searches source (code (complete d j)) r → number_of r ≡ 12

-- Disciplines of the nodes of a drawing (paper 02, 2.1): the ranks that they give a packet on its path to a leaf, and what they keep. Weighted is
-- start-time fair queueing, Figure 1 of document 002, with the children of a node as its flows. All lists are indexed by the node numbers of the
-- drawing; the weight and the finish of a node are those that it has as a child of its parent. A node that is passed over (2.2) gives rank 0 and
-- keeps nothing.
use Rattle.std.specs.Prelude.{ℕ, zero, suc, ◌+◌, ◌*◌, ◌/◌, max, List, [], ◌∷◌, get_or, set, replicate, Bool, true, ◌&&◌, cond, eqb, leb, ltb}
use Rattle.std.specs.Prelude.{Result, Ok, Err}
use Rattle.std.proofs.Math.Option.{Option, none, some}
use Rattle.topology.specs.Tree.{Topo, width, size}
use Rattle.topology.specs.Address.{Addr, subtree, child_of}
use Rattle.pifo_model.specs.Queue.{Rank}
use Rattle.pifo_model.specs.Tree.{Step, step}
use Rattle.refusal.specs.declared.Refusal.{Refusal}
use Rattle.refusal.specs.declared.Refusal.TheVariants.{Rules}
use Rattle.discipline_model.specs.declared.Discipline.{Discipline}
use Rattle.discipline_model.specs.declared.Discipline.TheVariants.{Arrival, Strict, Weighted}
use Rattle.discipline_model.specs.declared.Rule.{Rule}
use Rattle.discipline_model.specs.declared.Disciplines.{Disciplines}

-- the numbers of the disciplines
abbrev pub arrival : ℕ
arrival = 0

abbrev pub strict : ℕ
strict = 1

abbrev pub weighted : ℕ
weighted = 2

abbrev pub number : Discipline → ℕ
number Arrival = arrival
number Strict = strict
number Weighted = weighted

-- the discipline that a number names, or the refusal 24
abbrev pub named : ℕ → Result Discipline Refusal
named k = cond (eqb k arrival) (Ok Arrival) (cond (eqb k strict) (Ok Strict) (cond (eqb k weighted) (Ok Weighted) (Err Rules)))

-- the discipline by which number k acts: a number that names none acts as arrival does
abbrev pub discipline_of : ℕ → Discipline
discipline_of k = cond (eqb k weighted) Weighted (cond (eqb k strict) Strict Arrival)

abbrev pub no_rule : Rule
no_rule = record { discipline = arrival; weight = 0 }

abbrev pub kind_at : List Rule → ℕ → ℕ
kind_at rules n = (get_or rules n no_rule).discipline

-- The discipline by which a node acts, from its number of children and its own discipline k: a node with one child is passed over and acts by
-- arrival, any other node acts by k.
abbrev pub acts_by : ℕ → ℕ → ℕ
acts_by children k = cond (eqb children 1) arrival k

abbrev pub acts_at : Topo → List Rule → ℕ → ℕ
acts_at t rules n = acts_by (width (subtree t n)) (kind_at rules n)

abbrev pub weight_at : List Rule → ℕ → ℕ
weight_at rules n = (get_or rules n no_rule).weight

-- ---- Figure 1, at node n for a packet to its child c

-- virtual time: the rank last popped at the node; 0 before the first pop
abbrev pub virtual_at : Disciplines → ℕ → Rank
virtual_at d n = get_or d.virtual_time n 0

-- the child's last finish, 0 at first
abbrev pub finish_at : Disciplines → ℕ → Rank
finish_at d c = get_or d.finish c 0

abbrev pub start : Disciplines → ℕ → ℕ → Rank
start d n c = max (virtual_at d n) (finish_at d c)

abbrev pub finish : Disciplines → ℕ → ℕ → ℕ → ℕ
finish d n c length = start d n c + (length * 256) / weight_at d.rules c

-- the largest finish
abbrev pub most_finish : ℕ
most_finish = 18446744073709551615

-- ---- what a discipline does, by its number

-- the rank of an entry, by the start s that Figure 1 gives and the packet's class
abbrev pub rank_by : ℕ → Rank → ℕ → Rank
rank_by k s class = cond (eqb k weighted) s (cond (eqb k strict) class 0)

-- the finishes, with the new finish f of child c if the node is weighted
abbrev pub finish_by : ℕ → ℕ → ℕ → List Rank → List Rank
finish_by k c f fs = cond (eqb k weighted) (set fs c f) fs

-- whether the new finish, if there is one, is at most the largest
abbrev pub fits_by : ℕ → ℕ → Bool
fits_by k f = cond (eqb k weighted) (leb f most_finish) true

-- ---- a packet on its path from node n down: its steps; all starts are read from the disciplines as they were before it

abbrev pub steps_down : Topo → Disciplines → ℕ → ℕ → Addr → List Step
steps_down t d class n [] = []
steps_down t d class n (i ∷ a) =
    let c = child_of t n i in
    step i (rank_by (acts_at t d.rules n) (start d n c) class) ∷ steps_down t d class c a

-- the finishes after it
abbrev pub finishes_down : Topo → Disciplines → ℕ → ℕ → Addr → List Rank → List Rank
finishes_down t d length n [] fs = fs
finishes_down t d length n (i ∷ a) fs =
    let c = child_of t n i in
    finishes_down t d length c a (finish_by (acts_at t d.rules n) c (finish d n c length) fs)

-- whether each finish that it gives fits
abbrev pub fits_down : Topo → Disciplines → ℕ → ℕ → Addr → Bool
fits_down t d length n [] = true
fits_down t d length n (i ∷ a) =
    let c = child_of t n i in
    fits_by (acts_at t d.rules n) (finish d n c length) && fits_down t d length c a

-- ---- after a pop

-- Only a node of the drawing that acts as weighted keeps a virtual time.
abbrev pub keeps_time : Topo → List Rule → ℕ → Bool
keeps_time t rules n = ltb n (size t) && eqb (acts_at t rules n) weighted

-- the rank that the pop took at the node, if it took one there, else the time before
abbrev pub last_of : Option Rank → Rank → Rank
last_of none v = v
last_of (some r) v = r

-- the virtual times from node n on, after a pop that took the ranks `at`
abbrev pub times_after : Topo → List Rule → (ℕ → Option Rank) → ℕ → List Rank → List Rank
times_after t rules at n [] = []
times_after t rules at n (v ∷ vs) = cond (keeps_time t rules n) (last_of (at n) v) v ∷ times_after t rules at (suc n) vs

-- ---- refusal 24

-- the first k children of node n have weights above 0
abbrev pub weighs : Topo → List Rule → ℕ → ℕ → Bool
weighs t rules n zero = true
weighs t rules n (suc k) = weighs t rules n k && ltb 0 (weight_at rules (child_of t n (suc k)))

-- the rule of node n is sound: it names one of the three disciplines, and a weighted node has children, all with weights above 0
abbrev pub sound_at : Topo → List Rule → ℕ → Bool
sound_at t rules n =
    let w = width (subtree t n) in
    let k = kind_at rules n in
    cond (eqb k weighted) (ltb 0 w && weighs t rules n w) (ltb k weighted)

abbrev pub all_sound_below : Topo → List Rule → ℕ → Bool
all_sound_below t rules zero = true
all_sound_below t rules (suc n) = all_sound_below t rules n && sound_at t rules n

-- the refusal of the rules of a drawing: 24, or 0
unfoldable pub rule_fault : Topo → List Rule → ℕ
rule_fault t rules = cond (all_sound_below t rules (size t)) 0 24

-- ---- the disciplines with new finishes, and after a pop

abbrev pub with_finishes : Disciplines → List Rank → Disciplines
with_finishes d fs = record { rules = d.rules; virtual_time = d.virtual_time; finish = fs }

abbrev pub after_pop : Topo → Disciplines → (ℕ → Option Rank) → Disciplines
after_pop t d at =
    record { rules = d.rules; virtual_time = times_after t d.rules at 0 d.virtual_time; finish = d.finish }

-- the disciplines of a newly opened tree: nothing was popped, and nothing has a finish
abbrev pub fresh : List Rule → Disciplines
fresh rules = record { rules = rules; virtual_time = replicate 64 0; finish = replicate 64 0 }

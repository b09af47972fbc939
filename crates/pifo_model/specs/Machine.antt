-- The queue tree of paper 01 as a machine that answers calls: a topology, a packet limit, the count of refusals and a PIFO tree.
use Rattle.std.specs.Prelude.{ℕ, zero, suc, min, List, [], ◌∷◌, cond, leb}
use Rattle.std.proofs.Math.Option.{Option, none, some}
use Rattle.topology.specs.Tree.{Topo}
use Rattle.pifo_model.specs.Queue.{Rank}
use Rattle.pifo_model.specs.Tree.{Step, path_fault, PTree, empty, push, pop, held}

pub record Machine (P : Type 0) : Type 0 where
  pub topology : Topo
  pub limit : ℕ
  pub refusals : ℕ
  pub tree : PTree P

-- a push along a path, with the leaf's rank and the packet; a pop
pub data Call (P : Type 0) : Type 0 where
  pushing : List Step → Rank → P → Call P
  popping : Call P

-- An accepted push answers how many packets are then held, a pop the packet that departs, a refusal its number. The refusal of a push for want of
-- room (`full`) also has the new count of refusals.
pub data Answer (P : Type 0) : Type 0 where
  accepted : ℕ → Answer P
  departed : P → Answer P
  refused : ℕ → Answer P
  full : ℕ → ℕ → Answer P

-- the number of a refusal, 0 for other answers
abbrev pub number_of : {P : Type 0} → Answer P → ℕ
number_of (accepted h) = 0
number_of (departed p) = 0
number_of (refused n) = n
number_of (full n c) = n

-- Whether there is room for a push, by the limit and the packets held: 0, or refusal 15 if no fewer packets are held than the limit.
abbrev pub room : ℕ → ℕ → ℕ
room limit holds = cond (leb limit holds) 15 0

-- the largest count of refusals
abbrev pub most : ℕ
most = 4294967295

module _ {P : Type 0} where
  -- the machine with another tree, and with another count of refusals
  abbrev pub holding : Machine P → PTree P → Machine P
  holding m t = record { topology = m.topology; limit = m.limit; refusals = m.refusals; tree = t }

  abbrev pub counting : Machine P → ℕ → Machine P
  counting m c = record { topology = m.topology; limit = m.limit; refusals = c; tree = m.tree }

  -- a machine opened empty
  abbrev pub opened : Topo → ℕ → Machine P
  opened t limit = record { topology = t; limit = limit; refusals = 0; tree = empty t }

  -- a push whose path has no fault, by the answer of `room`
  abbrev pub serve_room : ℕ → Machine P → List Step → ℕ → P → Answer P × Machine P
  serve_room zero m ss l p = let t = push m.tree ss l p in (accepted (held t), holding m t)
  serve_room (suc n) m ss l p = let c = min (suc m.refusals) most in (full (suc n) c, counting m c)

  -- a push whose path has the given fault, 0 for none
  abbrev pub serve_path : ℕ → Machine P → List Step → ℕ → P → Answer P × Machine P
  serve_path (suc f) m ss l p = (refused (suc f), m)
  serve_path zero m ss l p = serve_room (room m.limit (held m.tree)) m ss l p

  abbrev pub serve_pop : Machine P → Option (P × PTree P) → Answer P × Machine P
  serve_pop m none = (refused 16, m)
  serve_pop m (some (p, t)) = (departed p, holding m t)

  -- the answer to a call, and the machine after it
  abbrev pub serve : Machine P → Call P → Answer P × Machine P
  serve m (pushing ss l p) = serve_path (path_fault m.topology ss) m ss l p
  serve m popping = serve_pop m (pop m.tree)

-- what answers calls: from a machine and a call, the answer and the machine after it
abbrev pub Server : Type 0 → Type 0
Server P = Machine P → Call P → Answer P × Machine P

module _ {P : Type 0} where
  -- the machine after a list of calls, and the answers to them
  abbrev pub after_by : Server P → Machine P → List (Call P) → Machine P
  after_by server m [] = m
  after_by server m (c ∷ cs) = after_by server (server m c).1 cs

  abbrev pub answers_by : Server P → Machine P → List (Call P) → List (Answer P)
  answers_by server m [] = []
  answers_by server m (c ∷ cs) = (server m c).0 ∷ answers_by server (server m c).1 cs

  abbrev pub after : Machine P → List (Call P) → Machine P
  after = after_by serve

  abbrev pub answers : Machine P → List (Call P) → List (Answer P)
  answers = answers_by serve

  -- What is observed of a machine: packets held and refusals counted. What is observed over a list of calls: for each call its answer, and what is
  -- observed of the machine after it.
  abbrev pub counts : Machine P → ℕ × ℕ
  counts m = (held m.tree, m.refusals)

  abbrev pub observed_by : Server P → Machine P → List (Call P) → List (Answer P × (ℕ × ℕ))
  observed_by server m [] = []
  observed_by server m (c ∷ cs) = ((server m c).0, counts (server m c).1) ∷ observed_by server (server m c).1 cs

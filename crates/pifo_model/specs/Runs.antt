-- Totals of a list of calls and its answers: packets accepted, packets departed, pushes refused as full. And what holds of a machine after any
-- calls since its opening (`Run`), and after as many pops as it holds packets (`Drained`).
use Rattle.std.specs.Prelude.{◌≡◌, ℕ, ◌+◌, ◌≤◌, min, true, cond, length, eqb}
use mathlib.Core.List.{List, [], ◌∷◌, ◌++◌, map, Permᴰ}
use Rattle.topology.specs.Tree.{Topo}
use Rattle.pifo_model.specs.Tree.{shape, packets, held, well}
use Rattle.pifo_model.specs.Machine.{Machine, Call, pushing, popping, Answer, accepted, departed, refused, full, most}

-- how often a number occurs in a list
abbrev pub times : ℕ → List ℕ → ℕ
times x [] = 0
times x (y ∷ l) = cond (eqb x y) 1 0 + times x l

module _ {P : Type 0} where
  -- A machine is sound: its tree is well formed, has the machine's topology and holds no more packets than the limit, and its count is in range.
  pub record Sound (m : Machine P) : Type 0 where
    pub tree : well m.tree ≡ true
    pub topology : shape m.tree ≡ m.topology
    pub limit : held m.tree ≤ m.limit
    pub refusals : m.refusals ≤ most

  -- What one answer to a call adds to the totals: the packet accepted, the packet departed, 1 for a push refused as full, 1 for an accepted push.
  abbrev pub taken_by : Call P → Answer P → List P
  taken_by (pushing ss l p) (accepted h) = p ∷ []
  taken_by (pushing ss l p) (departed x) = []
  taken_by (pushing ss l p) (refused n) = []
  taken_by (pushing ss l p) (full n c) = []
  taken_by popping a = []

  abbrev pub departed_by : Answer P → List P
  departed_by (accepted h) = []
  departed_by (departed p) = p ∷ []
  departed_by (refused n) = []
  departed_by (full n c) = []

  abbrev pub full_by : Answer P → ℕ
  full_by (accepted h) = 0
  full_by (departed p) = 0
  full_by (refused n) = 0
  full_by (full n c) = 1

  abbrev pub accepted_by : Answer P → ℕ
  accepted_by (accepted h) = 1
  accepted_by (departed p) = 0
  accepted_by (refused n) = 0
  accepted_by (full n c) = 0

  -- The totals over all calls and answers.
  abbrev pub taken : List (Call P) → List (Answer P) → List P
  taken [] rest = []
  taken (c ∷ cs) [] = []
  taken (c ∷ cs) (a ∷ rest) = taken_by c a ++ taken cs rest

  abbrev pub departures : List (Answer P) → List P
  departures [] = []
  departures (a ∷ rest) = departed_by a ++ departures rest

  abbrev pub fulls : List (Answer P) → ℕ
  fulls [] = 0
  fulls (a ∷ rest) = full_by a + fulls rest

  abbrev pub accepts : List (Answer P) → ℕ
  accepts [] = 0
  accepts (a ∷ rest) = accepted_by a + accepts rest

-- What holds after any calls since an opening, for their answers and the machine m after them.
pub record Run {P : Type 0} (t : Topo) (limit : ℕ) (cs : List (Call P)) (answered : List (Answer P)) (m : Machine P) : Type 0 where
  pub sound : Sound m
  pub topology : m.topology ≡ t
  pub limited : m.limit ≡ limit
  -- the packets of accepted pushes are those that departed and those held, as multisets; and the same for their numbers
  pub contents : Permᴰ (taken cs answered) (departures answered ++ packets m.tree)
  pub number : accepts answered ≡ length (departures answered) + held m.tree
  -- the refusals counted are the pushes refused as full
  pub count : m.refusals ≡ min (fulls answered) most

-- What holds after as many pops as the machine m holds packets, for their answers and the machine n after them.
pub record Drained {P : Type 0} (m : Machine P) (answered : List (Answer P)) (n : Machine P) : Type 0 where
  -- every pop answers a packet
  pub each : answered ≡ map departed (departures answered)
  -- these are the packets that were held, and none is left
  pub contents : Permᴰ (departures answered) (packets m.tree)
  pub empty : held n.tree ≡ 0

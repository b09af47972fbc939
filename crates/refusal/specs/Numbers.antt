-- The number of each refusal (paper 01, "Refusals", and 02), and of a call's result: 0 means that nothing is refused.
use Rattle.std.specs.Prelude.{ℕ, ◌-◌, List, [], ◌∷◌, get_or, Result, Ok, Err}
use Rattle.refusal.specs.declared.Refusal.{Refusal}
use Rattle.refusal.specs.declared.Refusal.TheVariants as r

abbrev pub number : Refusal → ℕ
number r.Incomplete = 1
number r.Excess = 2
number r.TooManyNodes = 3
number r.TooManyChildren = 4
number r.TooDeep = 5
number r.MapLength = 6
number r.NoSuchImage = 7
number r.SharedImage = 8
number r.RootMoved = 9
number r.LeafMoved = 10
number r.OrderBroken = 11
number r.NoMap = 12
number r.NoSuchChild = 13
number r.EndsAboveLeaf = 14
number r.Full = 15
number r.Empty = 16
number r.Limit = 17
number r.State = 18
number r.NoSuchBranch = 19
number r.UnknownCommand = 20
number r.CutShort = 21
number r.OutOfTurn = 22
number r.LateFinish = 23
number r.Rules = 24
number r.NoLeaf = 25
number r.PassedNode = 26
number r.Degree = 27

-- the refusals in the order of their numbers
abbrev pub in_order : List Refusal
in_order =
    r.Incomplete ∷ r.Excess ∷ r.TooManyNodes ∷ r.TooManyChildren ∷ r.TooDeep ∷ r.MapLength ∷ r.NoSuchImage ∷ r.SharedImage ∷ r.RootMoved ∷
    r.LeafMoved ∷ r.OrderBroken ∷ r.NoMap ∷ r.NoSuchChild ∷ r.EndsAboveLeaf ∷ r.Full ∷ r.Empty ∷ r.Limit ∷ r.State ∷ r.NoSuchBranch ∷
    r.UnknownCommand ∷ r.CutShort ∷ r.OutOfTurn ∷ r.LateFinish ∷ r.Rules ∷ r.NoLeaf ∷ r.PassedNode ∷ r.Degree ∷ []

-- the refusal with a number from 1 on (`refusal_back` in proofs/Numbers)
abbrev pub refusal_of : ℕ → Refusal
refusal_of n = get_or in_order (n - 1) r.Degree

-- the number of a result: the refusal's, or 0
abbrev pub number_of : {A : Type 0} → Result A Refusal → ℕ
number_of (Ok _) = 0
number_of (Err r) = number r

-- A result as C gets it: `g` makes it of the value and 0, or of the refusal's number and `none` in place of a value.
abbrev pub as_plain : {A B : Type 0} → (ℕ → A → B) → A → Result A Refusal → B
as_plain g none (Ok v) = g 0 v
as_plain g none (Err r) = g (number r) none

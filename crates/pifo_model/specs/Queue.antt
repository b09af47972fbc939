-- Queues of ranked entries (PIFOs, document 001, section 3.1), over any type of packets. A queue is the list of its entries, head first.
use Rattle.std.specs.Prelude.{ℕ, zero, suc, ◌+◌, List, [], ◌∷◌, Bool, true, false, ◌&&◌, cond, eqb, leb, ltb}
use Rattle.std.proofs.Math.Option.{Option, none, some}

-- a child number at an inner node, a packet at a leaf
pub data Item (P : Type 0) : Type 0 where
  child : ℕ → Item P
  packet : P → Item P

abbrev pub Rank : Type 0
Rank = ℕ

-- an item with its rank
pub data Entry (P : Type 0) : Type 0 where
  entry : Rank → Item P → Entry P

module _ {P : Type 0} where
  abbrev pub rank : Entry P → Rank
  rank (entry r x) = r

  abbrev pub item : Entry P → Item P
  item (entry r x) = x

  -- PUSH of document 001: an entry goes before the first entry of greater rank, else to the end. So entries of equal rank are in order of arrival.
  abbrev pub insert : Entry P → List (Entry P) → List (Entry P)
  insert e [] = e ∷ []
  insert e (f ∷ q) = cond (ltb (rank e) (rank f)) (e ∷ f ∷ q) (f ∷ insert e q)

  -- an entry, if there is one, inserted
  abbrev pub insert_some : Option (Entry P) → List (Entry P) → List (Entry P)
  insert_some none q = q
  insert_some (some e) q = insert e q

  -- ranks never fall from head to tail, and none is below r
  abbrev pub rises_from : ℕ → List (Entry P) → Bool
  rises_from r [] = true
  rises_from r (e ∷ q) = leb r (rank e) && rises_from (rank e) q

  -- the items that a node with k children may hold: packets at a leaf, child numbers from 1 to k at an inner node
  abbrev pub allowed : ℕ → Item P → Bool
  allowed zero (child i) = false
  allowed zero (packet p) = true
  allowed (suc k) (child i) = leb 1 i && leb i (suc k)
  allowed (suc k) (packet p) = false

  -- every item passes the test
  abbrev pub every : (Item P → Bool) → List (Entry P) → Bool
  every test [] = true
  every test (e ∷ q) = test (item e) && every test q

  -- how often child i occurs
  abbrev pub is_of : ℕ → Item P → ℕ
  is_of i (child j) = cond (eqb i j) 1 0
  is_of i (packet p) = 0

  abbrev pub occurs : ℕ → List (Entry P) → ℕ
  occurs i [] = 0
  occurs i (e ∷ q) = is_of i (item e) + occurs i q

-- The cases that paper 01 gives under "Pairs and pushes to try", with the three that paper 02, 2.2 changes, as one table: what is asked, and the
-- answer that the paper gives. `proofs/Starred.antt` proves the answers from the definitions. The starred cases, which paper 01 marks with a star and
-- wants proved, are all pairs, the first three topologies and the two packets.
use Rattle.std.specs.Prelude.{ℕ, List, [], ◌∷◌, map}
use Rattle.std.proofs.Math.Option.{Option, none, some}
use Rattle.topology.specs.Reader.{fault, tree}
use Rattle.pifo_model.specs.Tree.{step}
use Rattle.pifo_model.specs.Machine.{Call, pushing, popping, Answer, accepted, departed, opened, answers}
use Rattle.embedding_model.specs.Least.{least_of, search_fault}
use Rattle.queue_state.specs.State.{Packet}

-- a source and a target; the search's number and its map
abbrev pub pairs : List (List ℕ × List ℕ)
pairs =
    (3 ∷ 0 ∷ 0 ∷ 0 ∷ [], 2 ∷ 2 ∷ 0 ∷ 0 ∷ 0 ∷ [])
    ∷ (2 ∷ 2 ∷ 0 ∷ 0 ∷ 0 ∷ [], 3 ∷ 0 ∷ 0 ∷ 0 ∷ [])
    ∷ (2 ∷ 0 ∷ 2 ∷ 0 ∷ 0 ∷ [], 2 ∷ 2 ∷ 0 ∷ 0 ∷ 2 ∷ 0 ∷ 0 ∷ [])
    ∷ (2 ∷ 3 ∷ 0 ∷ 0 ∷ 0 ∷ 0 ∷ [], 2 ∷ 2 ∷ 0 ∷ 0 ∷ 2 ∷ 0 ∷ 0 ∷ [])
    ∷ (0 ∷ [], 0 ∷ [])
    ∷ (0 ∷ [], 1 ∷ 0 ∷ [])
    ∷ (1 ∷ 0 ∷ [], 1 ∷ 1 ∷ 0 ∷ [])
    ∷ (1 ∷ 1 ∷ 0 ∷ [], 1 ∷ 0 ∷ [])
    ∷ []

abbrev pub search : List ℕ × List ℕ → ℕ × Option (List ℕ)
search (source, target) = (search_fault source target, least_of source target)

abbrev pub maps : List (ℕ × Option (List ℕ))
maps =
    (0, some (0 ∷ 2 ∷ 3 ∷ 4 ∷ []))
    ∷ (12, none)
    ∷ (0, some (0 ∷ 2 ∷ 4 ∷ 5 ∷ 6 ∷ []))
    ∷ (12, none)
    ∷ (0, some (0 ∷ []))
    ∷ (0, some (1 ∷ []))
    ∷ (0, some (255 ∷ 2 ∷ []))
    ∷ (0, some (255 ∷ 255 ∷ 1 ∷ []))
    ∷ []

-- a topology; the reader's number
abbrev pub topologies : List (List ℕ)
topologies =
    []
    ∷ (2 ∷ 0 ∷ [])
    ∷ (0 ∷ 0 ∷ [])
    ∷ (9 ∷ [])
    ∷ (1 ∷ 1 ∷ 1 ∷ 1 ∷ 1 ∷ 1 ∷ 1 ∷ 1 ∷ 0 ∷ [])
    ∷ (1 ∷ 1 ∷ 1 ∷ 1 ∷ 1 ∷ 1 ∷ 1 ∷ 1 ∷ 1 ∷ 0 ∷ [])
    ∷ []

abbrev pub numbers : List ℕ
numbers = 1 ∷ 1 ∷ 2 ∷ 4 ∷ 0 ∷ 5 ∷ []

-- Two packets, 1 and 2, down child 1 of the tree 1 0: the earlier with step rank 1 and leaf rank 9, the later with 4 and 2. The later leaves
-- first.
abbrev pub calls : List (Call Packet)
calls = pushing (step 1 1 ∷ []) 9 1 ∷ pushing (step 1 4 ∷ []) 2 2 ∷ popping ∷ popping ∷ []

abbrev pub answered : List (Answer Packet)
answered = accepted 1 ∷ accepted 2 ∷ departed 2 ∷ departed 1 ∷ []

-- the whole table, and what it gives by the definitions
abbrev pub Table : Type 0
Table = List (ℕ × Option (List ℕ)) × List ℕ × List (Answer Packet)

abbrev pub given : Table
given = (maps, numbers, answered)

unfoldable pub computed : Table
computed = (map search pairs, map (fault 64) topologies, answers (opened (tree (1 ∷ 0 ∷ [])) 2) calls)

-- Examples of weighted sharing, from the definitions alone: Figure 1 of document 002 at a root with two leaves, and the same below a passed root.
use mathlib.Core.Path.{◌≡◌, refl}
use Prim.Native.Nat.{ℕ}
use mathlib.Core.List.{List, [], ◌∷◌, map}
use lib.ListN.{take}
use Rattle.topology.specs.Tree.{Topo, node, fnil, fcons, leaf}
use Rattle.topology.specs.Address.{addr, child_of}
use Rattle.pifo_model.specs.Queue.{Rank}
use Rattle.pifo_model.specs.Tree.{step}
use Rattle.pifo_model.specs.Machine.{pushing, popping, Answer, accepted, departed, refused, opened}
use Rattle.discipline_model.specs.Figure.{arrival, weighted, virtual_at, finish_at, steps_down, most_finish, fresh}
use Rattle.discipline_model.specs.Scheduler.{Request, calling, pushing_to, rank_at, with, serve_own, observed_over}
use Rattle.discipline_model.specs.declared.Rule.{Rule}
use Rattle.discipline_model.specs.declared.Disciplines.{Disciplines}

-- 2 0 0: the root is weighted; leaf 1 has weight 1, and leaf 2 weight 3
abbrev shared : Topo
shared = node (fcons leaf (fcons leaf fnil))

abbrev shares : List Rule
shares =
    record { discipline = weighted; weight = 0 } ∷ record { discipline = arrival; weight = 1 } ∷ record { discipline = arrival; weight = 3 } ∷ []

-- The table of a list of requests, from an opening with room for eight packets: for each request the answer and, after it, the root's virtual time and
-- the finishes of leaf 1 and leaf 2.
abbrev line : Answer ℕ × ((ℕ × ℕ) × Disciplines) → Answer ℕ × Rank × Rank × Rank
line (a, (counted, d)) = (a, virtual_at d 0, finish_at d 1, finish_at d 2)

abbrev table : List (Request ℕ) → List (Answer ℕ × Rank × Rank × Rank)
table requests = map line (observed_over serve_own (with (opened shared 8) (fresh shares)) requests)

-- All packets have length 300 here, which adds 300 × 256 / 1 = 76800 at leaf 1 and 300 × 256 / 3 = 25600 at leaf 2.
abbrev first : ℕ → Request ℕ
first p = pushing_to 1 0 300 p

abbrev second : ℕ → Request ℕ
second p = pushing_to 2 0 300 p

abbrev pop : Request ℕ
pop = calling popping

-- Two packets for leaf 1, 11 and 12, and then six for leaf 2, 21 to 26. The start of each, its rank at the root, is the leaf's finish before it: 0 and
-- 76800; 0, 25600, 51200, 76800, 102400, 128000. So three packets of leaf 2 depart for each packet of leaf 1.
pub one_to_three : table (first 11 ∷ first 12 ∷ second 21 ∷ second 22 ∷ second 23 ∷ second 24 ∷ second 25 ∷ second 26
    ∷ pop ∷ pop ∷ pop ∷ pop ∷ pop ∷ pop ∷ pop ∷ pop ∷ [])
    ≡ (accepted 1, 0, 76800, 0)
    ∷ (accepted 2, 0, 153600, 0)
    ∷ (accepted 3, 0, 153600, 25600)
    ∷ (accepted 4, 0, 153600, 51200)
    ∷ (accepted 5, 0, 153600, 76800)
    ∷ (accepted 6, 0, 153600, 102400)
    ∷ (accepted 7, 0, 153600, 128000)
    ∷ (accepted 8, 0, 153600, 153600)
    ∷ (departed 11, 0, 153600, 153600)
    ∷ (departed 21, 0, 153600, 153600)
    ∷ (departed 22, 25600, 153600, 153600)
    ∷ (departed 23, 51200, 153600, 153600)
    ∷ (departed 12, 76800, 153600, 153600)
    ∷ (departed 24, 76800, 153600, 153600)
    ∷ (departed 25, 102400, 153600, 153600)
    ∷ (departed 26, 128000, 153600, 153600)
    ∷ []
unfolding addr child_of rank_at
one_to_three = refl

-- A leaf that sent nothing has no credit: the first packet of leaf 1 starts at the virtual time, 51200, and not at 0. It departs before packet 24,
-- whose start is 76800, and its finish is 51200 + 76800.
pub starts_now : table (second 21 ∷ second 22 ∷ second 23 ∷ second 24 ∷ pop ∷ pop ∷ pop ∷ first 11 ∷ pop ∷ pop ∷ [])
    ≡ (accepted 1, 0, 0, 25600)
    ∷ (accepted 2, 0, 0, 51200)
    ∷ (accepted 3, 0, 0, 76800)
    ∷ (accepted 4, 0, 0, 102400)
    ∷ (departed 21, 0, 0, 102400)
    ∷ (departed 22, 25600, 0, 102400)
    ∷ (departed 23, 51200, 0, 102400)
    ∷ (accepted 2, 51200, 128000, 102400)
    ∷ (departed 11, 51200, 128000, 102400)
    ∷ (departed 24, 76800, 128000, 102400)
    ∷ []
unfolding addr child_of rank_at
starts_now = refl

-- The largest finish. A push along a path and its pop make the virtual time 4,294,967,295, and packet 11 finishes above that, which was refused by 23
-- before request 2.5. Then they make it 76800 less than the largest finish: packet 12 finishes there, and packet 13, which would finish later, is
-- refused by 23 and changes nothing.
abbrev along : ℕ → ℕ → Request ℕ
along rank p = calling (pushing (step 1 rank ∷ []) 0 p)

pub largest-finish : table (along 4294967295 31 ∷ pop ∷ first 11 ∷ pop ∷ along 18446744073709474815 32 ∷ pop ∷ first 12 ∷ first 13 ∷ [])
    ≡ (accepted 1, 0, 0, 0)
    ∷ (departed 31, 4294967295, 0, 0)
    ∷ (accepted 1, 4294967295, 4295044095, 0)
    ∷ (departed 11, 4294967295, 4295044095, 0)
    ∷ (accepted 1, 4294967295, 4295044095, 0)
    ∷ (departed 32, 18446744073709474815, 4295044095, 0)
    ∷ (accepted 1, 18446744073709474815, 18446744073709551615, 0)
    ∷ (refused 23, 18446744073709474815, 18446744073709551615, 0)
    ∷ []
unfolding addr child_of rank_at
largest-finish = refl

-- 1 2 0 0: the same drawing as the branch of node 1, below a weighted root, which is a passed node
abbrev hut : Topo
hut = node (fcons shared fnil)

abbrev hut_shares : List Rule
hut_shares =
    record { discipline = weighted; weight = 0 } ∷ record { discipline = weighted; weight = 1 } ∷ record { discipline = arrival; weight = 1 }
    ∷ record { discipline = arrival; weight = 3 } ∷ []

-- The passed root gives rank 0, whatever its virtual time and the finish of node 1 are. Node 1 gives the start, leaf 2's finish.
pub passed_steps : steps_down hut record { rules = hut_shares; virtual_time = 7 ∷ 0 ∷ []; finish = 0 ∷ 9 ∷ 76800 ∷ [] } 0 0 (addr hut 2)
    ≡ step 1 0 ∷ step 1 76800 ∷ []
unfolding addr child_of
passed_steps = refl

-- for each request the answer and, after it, the virtual times and the finishes of the four nodes
abbrev hut_line : Answer ℕ × ((ℕ × ℕ) × Disciplines) → Answer ℕ × List Rank × List Rank
hut_line (a, (counted, d)) = (a, take 4 d.virtual_time, take 4 d.finish)

-- The passed root keeps nothing: node 1 has no finish after the first push, and the root has no virtual time after the pop of a packet with the
-- largest rank there. Otherwise the last push would be refused by 23.
pub passed_root : map hut_line (observed_over serve_own (with (opened hut 8) (fresh hut_shares))
    (pushing_to 2 0 300 11 ∷ pop ∷ calling (pushing (step 1 most_finish ∷ step 2 5 ∷ []) 0 21) ∷ pop ∷ pushing_to 2 0 300 12 ∷ []))
    ≡ (accepted 1, (0 ∷ 0 ∷ 0 ∷ 0 ∷ []), (0 ∷ 0 ∷ 76800 ∷ 0 ∷ []))
    ∷ (departed 11, (0 ∷ 0 ∷ 0 ∷ 0 ∷ []), (0 ∷ 0 ∷ 76800 ∷ 0 ∷ []))
    ∷ (accepted 1, (0 ∷ 0 ∷ 0 ∷ 0 ∷ []), (0 ∷ 0 ∷ 76800 ∷ 0 ∷ []))
    ∷ (departed 21, (0 ∷ 5 ∷ 0 ∷ 0 ∷ []), (0 ∷ 0 ∷ 76800 ∷ 0 ∷ []))
    ∷ (accepted 1, (0 ∷ 5 ∷ 0 ∷ 0 ∷ []), (0 ∷ 0 ∷ 153600 ∷ 0 ∷ []))
    ∷ []
unfolding addr child_of rank_at
passed_root = refl

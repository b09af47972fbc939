-- Worked scripts. Both draw 2 0 0 on the chip 2 0 0 with the packet limit 3.
use Rattle.std.specs.Prelude.{◌≡◌, ℕ, List, [], ◌∷◌}
use Rattle.script_run.specs.Output.{output}
use Rattle.script_widths.specs.Reached.{reached}

-- Packet 1 goes to child 1 with the rank 2^32, by 09 and 06; packet 2 to child 2 with the rank 1, by 05 and 0A; then both leave, packet 2 first. By
-- their low 32 bits, which are 0 and 1, packet 1 would leave first.
abbrev pub by_rank_script : List ℕ
by_rank_script =
    1 ∷ 2 ∷ 1 ∷ 0 ∷ 1 ∷ 0 ∷ 2 ∷ 2 ∷ 2 ∷ 0 ∷ 2 ∷ 0 ∷ 3 ∷ 0 ∷ 3 ∷ 4 ∷ 9 ∷ 1 ∷ 0 ∷ 0 ∷ 0 ∷ 1 ∷ 0 ∷ 0 ∷ 0 ∷ 0 ∷ 6 ∷ 0 ∷ 0 ∷ 0 ∷ 1 ∷ 0 ∷ 0 ∷ 0 ∷ 0 ∷ 5 ∷ 2 ∷ 0 ∷ 0 ∷ 0 ∷ 1 ∷ 10 ∷ 0 ∷ 0 ∷ 0 ∷ 2 ∷ 0 ∷ 0 ∷ 0 ∷ 0 ∷ 0 ∷ 0 ∷ 0 ∷ 0 ∷ 7 ∷ 7 ∷ []

-- map 0 1 2, in 1, in 2, out 00000002, out 00000001
abbrev pub by_rank_text : List ℕ
by_rank_text =
    109 ∷ 97 ∷ 112 ∷ 32 ∷ 48 ∷ 32 ∷ 49 ∷ 32 ∷ 50 ∷ 10 ∷ 105 ∷ 110 ∷ 32 ∷ 49 ∷ 10 ∷ 105 ∷ 110 ∷ 32 ∷ 50 ∷ 10 ∷ 111 ∷ 117 ∷ 116 ∷ 32 ∷ 48 ∷ 48 ∷ 48 ∷ 48 ∷ 48 ∷ 48 ∷ 48 ∷ 50 ∷ 10 ∷ 111 ∷ 117 ∷ 116 ∷ 32 ∷ 48 ∷ 48 ∷ 48 ∷ 48 ∷ 48 ∷ 48 ∷ 48 ∷ 49 ∷ 10 ∷ []

abbrev pub ByRank : Type 0
ByRank = output by_rank_script ≡ by_rank_text

-- A step by 09 to child 3, which is not there, and two pushes by 0A. The first is refused and has cleared the step, so that the second has no step at all.
abbrev pub cleared : List ℕ
cleared =
    1 ∷ 2 ∷ 1 ∷ 0 ∷ 1 ∷ 0 ∷ 2 ∷ 2 ∷ 2 ∷ 0 ∷ 2 ∷ 0 ∷ 3 ∷ 0 ∷ 3 ∷ 4 ∷ 9 ∷ 3 ∷ 0 ∷ 0 ∷ 0 ∷ 0 ∷ 0 ∷ 0 ∷ 0 ∷ 0 ∷ 10 ∷ 0 ∷ 0 ∷ 0 ∷ 1 ∷ 0 ∷ 0 ∷ 0 ∷ 0 ∷ 0 ∷ 0 ∷ 0 ∷ 0 ∷ 10 ∷ 0 ∷ 0 ∷ 0 ∷ 1 ∷ 0 ∷ 0 ∷ 0 ∷ 0 ∷ 0 ∷ 0 ∷ 0 ∷ 0 ∷ []

-- map 0 1 2, no 13 26, no 14 39
abbrev pub cleared_text : List ℕ
cleared_text =
    109 ∷ 97 ∷ 112 ∷ 32 ∷ 48 ∷ 32 ∷ 49 ∷ 32 ∷ 50 ∷ 10 ∷ 110 ∷ 111 ∷ 32 ∷ 49 ∷ 51 ∷ 32 ∷ 50 ∷ 54 ∷ 10 ∷ 110 ∷ 111 ∷ 32 ∷ 49 ∷ 52 ∷ 32 ∷ 51 ∷ 57 ∷ 10 ∷ []

abbrev pub Cleared : Type 0
Cleared = output cleared ≡ cleared_text

-- A pop before 04 is out of turn and stops the script, so that the 09 after it is not reached; and a 09 that the script ends within is reached.
abbrev pub NotReached : Type 0
NotReached = reached (7 ∷ 9 ∷ []) ≡ 7 ∷ []

abbrev pub CutShort : Type 0
CutShort = reached (9 ∷ []) ≡ 9 ∷ []

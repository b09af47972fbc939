-- The lines that gatewalk prints, each with its end, byte 0A.
use Rattle.std.specs.Prelude.{ℕ, List, [], ◌∷◌, ◌++◌}
use Rattle.text.specs.Text.{decimal, hex8}

-- a space and the number
abbrev pub spaced : ℕ → List ℕ
spaced n = 32 ∷ decimal n

abbrev pub line_end : List ℕ
line_end = 10 ∷ []

-- `in` and the packets held
unfoldable pub in_line : ℕ → List ℕ
in_line held = (105 ∷ 110 ∷ []) ++ (spaced held ++ line_end)

-- `out` and the packet
unfoldable pub out_line : ℕ → List ℕ
out_line packet = (111 ∷ 117 ∷ 116 ∷ 32 ∷ []) ++ (hex8 packet ++ line_end)

-- `no`, the refusal's number and the command's offset
unfoldable pub no_line : ℕ → ℕ → List ℕ
no_line number offset = (110 ∷ 111 ∷ []) ++ (spaced number ++ (spaced offset ++ line_end))

abbrev pub all_spaced : List ℕ → List ℕ
all_spaced [] = []
all_spaced (n ∷ numbers) = spaced n ++ all_spaced numbers

-- `map` and the images
unfoldable pub map_line : List ℕ → List ℕ
map_line images = (109 ∷ 97 ∷ 112 ∷ []) ++ (all_spaced images ++ line_end)

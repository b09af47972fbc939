-- Templates: text in which each `#` stands for a number.
use Rattle.std.specs.Prelude.{ℕ, suc, cond, List, [], ◌∷◌, ◌++◌, get_or, eqb}
use Prim.Native.Char.{code}
use Prim.Native.String.{String}
use Prim.Native.String as str
use Rattle.text.specs.Text.{decimal}

-- the bytes of a text in ASCII
abbrev pub bytes : String → List ℕ
bytes str.[] = []
bytes (str.◌∷◌ c s) = code c ∷ bytes s

-- the text for a byte of a template: the given number for a `#`, byte 35, else the byte itself
abbrev pub part : ℕ → ℕ → List ℕ
part byte number = cond (eqb byte 35) (decimal number) (byte ∷ [])

-- the template with the numbers from place n on put for its `#`s in order
unfoldable pub filled : List ℕ → List ℕ → ℕ → List ℕ
filled [] numbers n = []
filled (byte ∷ template) numbers n = part byte (get_or numbers n 0) ++ filled template numbers (cond (eqb byte 35) (suc n) n)

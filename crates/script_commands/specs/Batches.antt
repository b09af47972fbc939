-- Several reads in a row. At the end of a script each further read gives the end again.
use Rattle.std.specs.Prelude.{ℕ, zero, suc, List, [], ◌∷◌}
use Rattle.script_commands.specs.declared.Read.{Read}
use Rattle.script_commands.specs.Reading.{read_at, next_at}

-- what n reads from an offset on give, and the offset of the next command after them
abbrev pub first_reads : ℕ → List ℕ → ℕ → List Read
first_reads zero script at = []
first_reads (suc n) script at = read_at script at ∷ first_reads n script (next_at script at)

abbrev pub after : ℕ → List ℕ → ℕ → ℕ
after zero script at = at
after (suc n) script at = after n script (next_at script at)

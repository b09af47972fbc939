-- Reads that are all commands, for a caller's laws.
use Rattle.std.specs.Prelude.{List, [], ◌∷◌}
use Rattle.script_commands.specs.declared.Read.{Read}
use Rattle.script_commands.specs.declared.Read.TheVariants.{End, Next, Refused}

-- none of the reads is the end or a refusal
abbrev pub AllCommands : List Read → Type 0
AllCommands [] = Unit
AllCommands (End ∷ rs) = ⊥
AllCommands (Next c at ∷ rs) = AllCommands rs
AllCommands (Refused n at ∷ rs) = ⊥

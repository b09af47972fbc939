-- The reader of scripts before request 2.5, as its definition was, and the text that a script printed; for the statement `AsBefore` in Widths alone. The
-- size of a command went by the command, and 09 and 0A were unknown.
use Rattle.std.specs.Prelude.{ℕ, zero, suc, ◌+◌, List, [], ◌∷◌, None, cond, length, drop, eqb, leb}
use Rattle.refusal.specs.declared.Refusal.TheVariants.{CutShort, UnknownCommand}
use Rattle.script_commands.specs.Reading.{operand, reads_by}
use Rattle.script_commands.specs.declared.Setup.{Setup as SetupCommand}
use Rattle.script_commands.specs.declared.Setup.TheVariants.{Source, Target, Limit}
use Rattle.script_commands.specs.declared.Call.{Call as CallCommand}
use Rattle.script_commands.specs.declared.Call.TheVariants.{Step, Push, Pop}
use Rattle.script_commands.specs.declared.Command.{Command}
use Rattle.script_commands.specs.declared.Command.TheVariants.{Setup, Compile, Call}
use Rattle.script_commands.specs.declared.Read.{Read}
use Rattle.script_commands.specs.declared.Read.TheVariants.{End, Next, Refused}
use Rattle.script_run.specs.Execute.{drawing}
use Rattle.script_run.specs.Output.{text_of}

-- how many bytes a command has
abbrev pub setup_size : SetupCommand → ℕ
setup_size (Source b) = 2
setup_size (Target b) = 2
setup_size (Limit n) = 3

abbrev pub call_size : CallCommand → ℕ
call_size (Step i r) = 6
call_size (Push p r) = 9
call_size Pop = 1

abbrev pub size_of : Command → ℕ
size_of (Setup c) = setup_size c
size_of Compile = 1
size_of (Call c) = call_size c

-- the command c at an offset, if `bytes` is the script from there on; 21 if the script ends within the command
unfoldable pub sized : List ℕ → ℕ → Command → Read
sized bytes at c = cond (leb (size_of c) (length bytes)) (Next c at) (Refused CutShort at)

-- the command by its first byte, in the order of the tests 20, 21
unfoldable pub command_by : ℕ → List ℕ → ℕ → Read
command_by code bytes at =
    let f7 = cond (eqb code 7) (sized bytes at (Call Pop)) (Refused UnknownCommand at) in
    let f6 = cond (eqb code 6) (sized bytes at (Call (Push (operand 1 4 bytes) (operand 5 4 bytes)))) f7 in
    let f5 = cond (eqb code 5) (sized bytes at (Call (Step (operand 1 1 bytes) (operand 2 4 bytes)))) f6 in
    let f4 = cond (eqb code 4) (sized bytes at Compile) f5 in
    let f3 = cond (eqb code 3) (sized bytes at (Setup (Limit (operand 1 2 bytes)))) f4 in
    let f2 = cond (eqb code 2) (sized bytes at (Setup (Target (operand 1 1 bytes)))) f3 in
    cond (eqb code 1) (sized bytes at (Setup (Source (operand 1 1 bytes)))) f2

abbrev pub command_of : List ℕ → ℕ → Read
command_of [] at = End
command_of (code ∷ rest) at = command_by code (code ∷ rest) at

-- what is read at an offset
unfoldable pub read_at : List ℕ → ℕ → Read
read_at script at = command_of (drop at script) at

-- where the next command begins: after the command at an offset, or at that offset if there is none
abbrev pub behind : ℕ → Read → ℕ
behind at End = at
behind at (Next c offset) = at + size_of c
behind at (Refused r offset) = at

unfoldable pub next_at : List ℕ → ℕ → ℕ
next_at script at = behind at (read_at script at)

-- what the reader read from an offset on, as in Reading of the crate `script_commands`
abbrev pub reads_from : ℕ → List ℕ → ℕ → List Read
reads_from zero script at = []
reads_from (suc most) script at =
    let more = reads_from most script (next_at script at) in
    reads_by (read_at script at) more

unfoldable pub reads : List ℕ → ℕ → List Read
reads script at = reads_from (suc (length script)) script at

-- the whole output of gatewalk, as in Output of the crate `script_run`
unfoldable pub output : List ℕ → List ℕ
output script = text_of (reads script 0) (drawing [] [] None)

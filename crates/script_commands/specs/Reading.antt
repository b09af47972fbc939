-- Which commands the bytes of a script are: paper 01, "Scripts for gatewalk". A command is its byte and then its operands, big-endian.
use Rattle.std.specs.Prelude.{ℕ, zero, suc, ◌+◌, ◌*◌, List, [], ◌∷◌, cond, length, take, drop, eqb, leb}
use Rattle.refusal.specs.declared.Refusal.TheVariants.{CutShort, UnknownCommand}
use Rattle.script_commands.specs.declared.Setup.TheVariants.{Source, Target, Limit}
use Rattle.script_commands.specs.declared.Call.TheVariants.{Step, Push, Pop}
use Rattle.script_commands.specs.declared.Command.{Command}
use Rattle.script_commands.specs.declared.Command.TheVariants.{Setup, Compile, Call}
use Rattle.script_commands.specs.declared.Read.{Read}
use Rattle.script_commands.specs.declared.Read.TheVariants.{End, Next, Refused}

-- the number of big-endian bytes that follow those of the number `before`
abbrev pub number : ℕ → List ℕ → ℕ
number before [] = before
number before (b ∷ bs) = number (before * 256 + b) bs

-- the number in `count` bytes from a place on
unfoldable pub operand : ℕ → ℕ → List ℕ → ℕ
operand place count bytes = number 0 (take count (drop place bytes))

-- how many bytes a command has, by its first byte; 0 if no command begins with it
abbrev pub size_by : ℕ → ℕ
size_by code =
    let s10 : ℕ = cond (eqb code 10) 13 0 in
    let s9 : ℕ = cond (eqb code 9) 10 s10 in
    let s7 : ℕ = cond (eqb code 7) 1 s9 in
    let s6 : ℕ = cond (eqb code 6) 9 s7 in
    let s5 : ℕ = cond (eqb code 5) 6 s6 in
    let s4 : ℕ = cond (eqb code 4) 1 s5 in
    let s3 : ℕ = cond (eqb code 3) 3 s4 in
    let s2 : ℕ = cond (eqb code 2) 2 s3 in
    cond (eqb code 1) 2 s2

-- the command c at an offset, if `bytes` is the script from there on and `code` its first byte; 21 if the script ends within the command
unfoldable pub sized : ℕ → List ℕ → ℕ → Command → Read
sized code bytes at c = cond (leb (size_by code) (length bytes)) (Next c at) (Refused CutShort at)

-- the command by its first byte, in the order of the tests 20, 21; a rank has four bytes after 05 and 06, and eight after 09 and 0A (request 2.5)
unfoldable pub command_by : ℕ → List ℕ → ℕ → Read
command_by code bytes at =
    let c10 = cond (eqb code 10) (sized code bytes at (Call (Push (operand 1 4 bytes) (operand 5 8 bytes)))) (Refused UnknownCommand at) in
    let c9 = cond (eqb code 9) (sized code bytes at (Call (Step (operand 1 1 bytes) (operand 2 8 bytes)))) c10 in
    let c7 = cond (eqb code 7) (sized code bytes at (Call Pop)) c9 in
    let c6 = cond (eqb code 6) (sized code bytes at (Call (Push (operand 1 4 bytes) (operand 5 4 bytes)))) c7 in
    let c5 = cond (eqb code 5) (sized code bytes at (Call (Step (operand 1 1 bytes) (operand 2 4 bytes)))) c6 in
    let c4 = cond (eqb code 4) (sized code bytes at Compile) c5 in
    let c3 = cond (eqb code 3) (sized code bytes at (Setup (Limit (operand 1 2 bytes)))) c4 in
    let c2 = cond (eqb code 2) (sized code bytes at (Setup (Target (operand 1 1 bytes)))) c3 in
    cond (eqb code 1) (sized code bytes at (Setup (Source (operand 1 1 bytes)))) c2

abbrev pub command_of : List ℕ → ℕ → Read
command_of [] at = End
command_of (code ∷ rest) at = command_by code (code ∷ rest) at

-- what is read at an offset
unfoldable pub read_at : List ℕ → ℕ → Read
read_at script at = command_of (drop at script) at

-- the size of the command that bytes begin with
abbrev pub first_size : List ℕ → ℕ
first_size [] = 0
first_size (code ∷ rest) = size_by code

-- where the next command begins: after the command at an offset, which has `size` bytes, or at that offset if there is none
abbrev pub behind : ℕ → ℕ → Read → ℕ
behind at size End = at
behind at size (Next c offset) = at + size
behind at size (Refused n offset) = at

unfoldable pub next_at : List ℕ → ℕ → ℕ
next_at script at = behind at (first_size (drop at script)) (read_at script at)

-- What a reader reads from an offset on, up to and including the end of the script or a refusal by 20 or 21; `more` is what it reads after the first
-- command.
abbrev pub reads_by : Read → List Read → List Read
reads_by End more = End ∷ []
reads_by (Next c at) more = Next c at ∷ more
reads_by (Refused n at) more = Refused n at ∷ []

abbrev pub reads_from : ℕ → List ℕ → ℕ → List Read
reads_from zero script at = []
reads_from (suc most) script at =
    let more = reads_from most script (next_at script at) in
    reads_by (read_at script at) more

-- A script of n bytes has at most n commands, and its end is one more read.
unfoldable pub reads : List ℕ → ℕ → List Read
reads script at = reads_from (suc (length script)) script at

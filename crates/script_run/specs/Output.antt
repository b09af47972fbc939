-- The text that a script prints, byte by byte, as a definition over the script's bytes.
use Rattle.std.specs.Prelude.{ℕ, List, [], ◌∷◌, ◌++◌, None, cond}
use Rattle.refusal.specs.Numbers.{number}
use Rattle.script_lines.specs.Lines.{in_line, out_line, no_line, map_line}
use Rattle.script_commands.specs.declared.Read.{Read}
use Rattle.script_commands.specs.declared.Read.TheVariants.{End, Next, Refused}
use Rattle.script_commands.specs.Reading.{reads}
use Rattle.script_run.specs.Execute.{Stage, drawing, Reply, silent, mapped, entered, left, refused_by, stops, execute}

-- the line of a reply to the command at an offset
abbrev pub line_of : Reply → ℕ → List ℕ
line_of silent at = []
line_of (mapped m) at = map_line m
line_of (entered n) at = in_line n
line_of (left p) at = out_line p
line_of (refused_by n) at = no_line n at

-- A reply's line, and what follows it unless the script stops.
abbrev pub printed : Reply → ℕ → List ℕ → List ℕ
printed reply at rest = line_of reply at ++ cond (stops reply) [] rest

-- the text of what a reader reads, from a stage on
abbrev pub text_of : List Read → Stage → List ℕ
text_of [] stage = []
text_of (End ∷ rest) stage = []
text_of (Refused r at ∷ rest) stage = line_of (refused_by (number r)) at
text_of (Next c at ∷ rest) stage =
    let r = execute stage c in
    let more = text_of rest r.1 in
    printed r.0 at more

-- the whole output of gatewalk
unfoldable pub output : List ℕ → List ℕ
output script = text_of (reads script 0) (drawing [] [] None)

-- Which commands a script reaches: along its run, so that behind its end, and behind a refusal that stops it, nothing is reached.
use Rattle.std.specs.Prelude.{ℕ, zero, suc, List, [], ◌++◌, None, cond, length, take, drop}
use Rattle.script_commands.specs.declared.Read.{Read}
use Rattle.script_commands.specs.declared.Read.TheVariants.{End, Next, Refused}
use Rattle.script_commands.specs.Reading.{read_at, next_at}
use Rattle.script_run.specs.Execute.{Stage, drawing, stops, execute}

-- what is reached after a read at a stage, if `later` is what is reached from the stage after it
abbrev pub reached_by : Read → Stage → (Stage → List ℕ) → List ℕ
reached_by End stage later = []
reached_by (Refused r at) stage later = []
reached_by (Next c at) stage later =
    let r = execute stage c in
    cond (stops r.0) [] (later r.1)

-- the first bytes of the commands that are reached from an offset on, each known or not, whole or cut short
abbrev pub reached_from : ℕ → List ℕ → ℕ → Stage → List ℕ
reached_from zero script at stage = []
reached_from (suc most) script at stage =
    take 1 (drop at script) ++ reached_by (read_at script at) stage (λ next. reached_from most script (next_at script at) next)

unfoldable pub reached : List ℕ → List ℕ
reached script = reached_from (suc (length script)) script 0 (drawing [] [] None)

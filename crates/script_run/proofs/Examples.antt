-- Paper 01's script and the empty one.
use mathlib.Core.Path.{◌≡◌, refl}
use Prim.Native.Nat.{ℕ}
use mathlib.Core.List.{List, [], ◌∷◌}
use Rattle.topology.specs.Reader.{fault, tree}
use Rattle.topology.specs.Branch.{branch_end, is_above}
use Rattle.embedding_model.specs.Check.{are_nodes, rule1, rule2, rule3, rule4}
use Rattle.embedding_model.specs.Least.{meets_rules, least_map, least_of, search_fault, search_map}
use Rattle.pair_state.specs.Opening.{both_fault}
use Rattle.text.specs.Text.{decimal_last, decimal, hex_digit, hex_last, hex8}
use Rattle.script_lines.specs.Lines.{in_line, out_line, no_line, map_line}
use Rattle.script_commands.specs.Reading.{operand, sized, command_by, read_at, next_at, reads}
use Rattle.script_run.specs.Execute.{execute}
use Rattle.script_run.specs.Output.{output}

pub empty : output [] ≡ []
unfolding output reads read_at
empty = refl

abbrev pub script : List ℕ
script =
    1 ∷ 3 ∷ 1 ∷ 0 ∷ 1 ∷ 0 ∷ 1 ∷ 0 ∷ 2 ∷ 2 ∷ 2 ∷ 2 ∷ 2 ∷ 0 ∷ 2 ∷ 0 ∷ 2 ∷ 0 ∷ 3 ∷ 0 ∷ 2 ∷ 4 ∷ 5 ∷ 3 ∷ 0 ∷ 0 ∷ 0 ∷ 5 ∷ 6 ∷ 0 ∷ 0 ∷ 0 ∷ 10 ∷ 0 ∷ 0 ∷ 0 ∷ 0 ∷ 5 ∷ 1 ∷ 0 ∷ 0 ∷ 0 ∷ 5 ∷ 6 ∷ 0 ∷ 0 ∷ 0 ∷ 11 ∷ 0 ∷ 0 ∷ 0 ∷ 0 ∷ 5 ∷ 2 ∷ 0 ∷ 0 ∷ 0 ∷ 3 ∷ 6 ∷ 0 ∷ 0 ∷ 0 ∷ 12 ∷ 0 ∷ 0 ∷ 0 ∷ 0 ∷ 7 ∷ 5 ∷ 2 ∷ 0 ∷ 0 ∷ 0 ∷ 3 ∷ 6 ∷ 0 ∷ 0 ∷ 0 ∷ 12 ∷ 0 ∷ 0 ∷ 0 ∷ 0 ∷ 7 ∷ 7 ∷ 7 ∷ []

abbrev pub text : List ℕ
text =
    109 ∷ 97 ∷ 112 ∷ 32 ∷ 48 ∷ 32 ∷ 50 ∷ 32 ∷ 51 ∷ 32 ∷ 52 ∷ 10 ∷ 105 ∷ 110 ∷ 32 ∷ 49 ∷ 10 ∷ 105 ∷ 110 ∷ 32 ∷ 50 ∷ 10 ∷ 110 ∷ 111 ∷ 32 ∷ 49 ∷ 53 ∷ 32 ∷ 53 ∷ 56 ∷ 10 ∷ 111 ∷ 117 ∷ 116 ∷ 32 ∷ 48 ∷ 48 ∷ 48 ∷ 48 ∷ 48 ∷ 48 ∷ 48 ∷ 65 ∷ 10 ∷ 105 ∷ 110 ∷ 32 ∷ 50 ∷ 10 ∷ 111 ∷ 117 ∷ 116 ∷ 32 ∷ 48 ∷ 48 ∷ 48 ∷ 48 ∷ 48 ∷ 48 ∷ 48 ∷ 67 ∷ 10 ∷ 111 ∷ 117 ∷ 116 ∷ 32 ∷ 48 ∷ 48 ∷ 48 ∷ 48 ∷ 48 ∷ 48 ∷ 48 ∷ 66 ∷ 10 ∷ 110 ∷ 111 ∷ 32 ∷ 49 ∷ 54 ∷ 32 ∷ 56 ∷ 53 ∷ 10 ∷ []

pub worked : output script ≡ text
unfolding output reads read_at next_at command_by sized operand execute both_fault search_map decimal_last decimal hex_digit hex_last hex8 in_line out_line no_line map_line search_fault fault least_of least_map meets_rules are_nodes rule1 rule2 rule3 rule4 is_above branch_end tree
worked = refl

-- The worked scripts print their texts.
use mathlib.Core.Path.{refl}
use Rattle.topology.specs.Reader.{fault, tree}
use Rattle.topology.specs.Branch.{branch_end, is_above}
use Rattle.embedding_model.specs.Check.{are_nodes, rule1, rule2, rule3, rule4}
use Rattle.embedding_model.specs.Least.{meets_rules, least_map, least_of, search_fault, search_map}
use Rattle.pair_state.specs.Opening.{both_fault}
use Rattle.text.specs.Text.{decimal_last, decimal, hex_digit, hex_last, hex8}
use Rattle.script_lines.specs.Lines.{in_line, out_line, no_line, map_line}
use Rattle.script_commands.specs.Reading.{operand, sized, command_by, read_at, next_at, reads}
use Rattle.script_run.specs.Execute.{execute}
use Rattle.script_run.specs.Output.{output}
use Rattle.script_widths.specs.Reached.{reached}
use Rattle.script_widths.specs.Worked.{ByRank, Cleared, NotReached, CutShort}

pub by_rank : ByRank
unfolding output reads read_at next_at command_by sized operand execute both_fault search_map decimal_last decimal hex_digit hex_last hex8 in_line out_line no_line map_line search_fault fault least_of least_map meets_rules are_nodes rule1 rule2 rule3 rule4 is_above branch_end tree
by_rank = refl

pub cleared : Cleared
unfolding output reads read_at next_at command_by sized operand execute both_fault search_map decimal_last decimal no_line map_line search_fault fault least_of least_map meets_rules are_nodes rule1 rule2 rule3 rule4 is_above branch_end tree
cleared = refl

pub not_reached : NotReached
unfolding reached read_at next_at command_by sized execute
not_reached = refl

pub cut_short : CutShort
unfolding reached read_at command_by sized
cut_short = refl

use Rattle.std.proofs.Common.{rules, ap, sym, length}
use Rattle.exports_topology.proofs.NoPart.{no_part}
use Rattle.exports_topology.proofs.linduvar_branch.Goals as goal

pub returns-in_Err-part : goal.returns-in_Err-part
returns-in_Err-part c = (search rules, ap length (sym (no_part _ _ _ c.in_Err-part.ensures.refusal)))

use Rattle.std.proofs.Common.{refl}
use Rattle.exports_topology.proofs.NoPart.{no_part}
use Rattle.exports_topology.proofs.linduvar_branch_byte.Goals as goal

pub returns-in_Err-part : goal.returns-in_Err-part
returns-in_Err-part c = rw (no_part _ _ _ c.in_Err-part.ensures.refusal) refl

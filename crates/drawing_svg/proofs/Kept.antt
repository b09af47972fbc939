-- The bytes that a setup keeps of a tree at fault give the same sheet as all.
use Rattle.std.proofs.Common.{◌≡◌, refl, ℕ, suc, arith, List, take}
use lib.Seq.{take-take}
use Rattle.topology.proofs.PrefixFault.{prefix-fault}
use Rattle.topology_reading.specs.Accepted.{accepted_bytes}
use Rattle.topology_reading.proofs.FirstFault.{accepted_few, accepted-kept}
use Rattle.drawing_elements.specs.declared.Side.{Side}
use Rattle.drawing_elements.specs.declared.Side.TheVariants.{Source, Chip}
use Rattle.drawing_svg.specs.Sheet.{fault_of, fault_sheet}

part-kept : (side : Side) (limit : ℕ) (tree : List ℕ) (number offset : ℕ)
    → fault_of side limit (take (suc limit) tree) number offset ≡ fault_of side limit tree number offset
unfolding fault_of
part-kept side limit tree number offset =
    rw (accepted-kept limit tree, take-take (suc (accepted_bytes limit tree)) (suc limit) tree (omega (arith, accepted_few limit tree))) refl

pub fault-kept : (s t : List ℕ) (number offset : ℕ) → fault_sheet (take 33 s) (take 65 t) number offset ≡ fault_sheet s t number offset
fault-kept s t number offset = rw (prefix-fault 32 s, part-kept Chip 64 t number offset, part-kept Source 32 s number offset) refl

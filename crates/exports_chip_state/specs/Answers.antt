-- The answer to an opening of both trees as plain numbers.
use Rattle.std.specs.Prelude.{ℕ, Result, replicate}
use Rattle.base.specs.Refusals.{unless_refused}
use Rattle.refusal.specs.Numbers.{as_plain}
use Rattle.refusal.specs.declared.Refusal.{Refusal}
use Rattle.tree_state.specs.Opening.{no_tree}
use Rattle.pair_state.specs.declared.Pair.{Pair}
use Rattle.tree_state.specs.declared.Tree.{Tree}
use Rattle.exports_plain_tree.specs.Trees.{plain_tree}
use Rattle.exports_chip_state.specs.declared.PlainPairOpened.{PlainPairOpened}

-- zeros throughout
abbrev pub nothing : Pair Tree
nothing = record { source = no_tree; chip = no_tree; map = replicate 32 0 }

-- an opening's answer in C, from a number, both trees and a map
abbrev pub both_with : ℕ → Pair Tree → PlainPairOpened
both_with n b = record { source = plain_tree b.source; chip = plain_tree b.chip; map = b.map; refusal = n }

-- the answer of the code to an opening
abbrev pub plain_pair : Result (Pair Tree) Refusal → PlainPairOpened
plain_pair = as_plain both_with nothing

-- the answer to an opening with the fault n or 0: both trees and the map, or zeros
abbrev pub plain_both : ℕ → Pair Tree → PlainPairOpened
plain_both n b = both_with n (unless_refused n b nothing)

-- A tree with disciplines as plain numbers, and what they stand for.
use Rattle.tree_state.specs.declared.Tree.{Tree}
use Rattle.exports_plain_state.specs.Plain.{state_of, plain_of}
use Rattle.exports_plain_tree.specs.declared.PlainTree.{PlainTree}

abbrev pub tree_from : PlainTree → Tree
tree_from t = record { state = state_of t.state; disciplines = t.disciplines }

-- a tree as plain numbers
abbrev pub plain_tree : Tree → PlainTree
plain_tree t = record { state = plain_of t.state; disciplines = t.disciplines }

-- What the test of a tree's rules promises: whether they have a fault 24 in the tree's own drawing, if that is a tree.
use Rattle.std.specs.Prelude.{◌≡◌, ◌≤◌, true, Result, IfErr, is_ok, eqb}
use Rattle.refusal.specs.declared.Refusal.{Refusal}
use Rattle.refusal.specs.declared.Refusal.TheVariants as r
use Rattle.topology.specs.Reader.{fault}
use Rattle.queue_state.specs.State.{bytes}
use Rattle.discipline_model.specs.Figure.{rule_fault}
use Rattle.tree_state.specs.Calls.{drawing}
use Rattle.tree_state.specs.declared.Tree.{Tree}

-- the rules pass, or they are refused by 18
pub record TestsRules (t : Tree) (o : Result Unit Refusal) : Type 0 where
  pub within : is_ok o ≡ true → t.state.frame.nodes ≤ 64
  pub passes : t.state.frame.nodes ≤ 64 → fault 64 (bytes t.state) ≡ 0 → is_ok o ≡ eqb (rule_fault (drawing t) t.disciplines.rules) 0
  pub refusal : IfErr o (λ e. e ≡ r.State)

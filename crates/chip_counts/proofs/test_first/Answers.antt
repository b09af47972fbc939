-- `test_first` meets its contract.
use Rattle.std.proofs.Common.{Bool, sym, ap, ◌∙◌}
use mathlib.Core.Bool.{cond}
use Rattle.chip_counts.proofs.FirstFault.{drawing-fault, too_many, judged}
use Rattle.chip_counts.proofs.test_first.Goals as goal
use Rattle.refusal.proofs.Numbers.{residual_is}
use Rattle.chip_counts.proofs.test_first.Goals.{then-tree-gt-TARGET_NODES-via-then-tree-gt-TARGET_NODES, then-tree-gt-TARGET_NODES-via-else-tree-gt-TARGET_NODES+then-is_err}

pub returns-in_err-read : goal.returns-in_err-read
returns-in_err-read c =
    rw (residual_is _ _ c.from_residual.ensures.1) (drawing-fault _ _ _ _ c.in_err-read.ensures)

pub returns-then-tree-gt-TARGET_NODES : goal.returns-then-tree-gt-TARGET_NODES
returns-then-tree-gt-TARGET_NODES c =
    elim c.then-tree-gt-TARGET_NODES.branch [
      | then-tree-gt-TARGET_NODES-via-then-tree-gt-TARGET_NODES w ↦ too_many _ _ _ c.in_ok-read.ensures w.if-tree-gt-TARGET_NODES.true
      | then-tree-gt-TARGET_NODES-via-else-tree-gt-TARGET_NODES+then-is_err w ↦
          sym (judged _ _ _ c.in_ok-read.ensures w.if-tree-gt-TARGET_NODES.false _ w.check_rules.ensures ∙ ap (λ (b : Bool). cond b 0 18) w.if-is_err.ensures.negation)
    ]

pub returns : goal.returns
returns c =
    sym (judged _ _ _ c.in_ok-read.ensures c.if-tree-gt-TARGET_NODES.false _ c.check_rules.ensures ∙ ap (λ (b : Bool). cond b 0 18) c.if-is_err.ensures.negation)

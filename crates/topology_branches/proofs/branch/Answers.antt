-- `branch` meets its contract: each answer is one law of `Cases`; the part stays within the bytes by `end_bounds`.
use Rattle.std.proofs.Common.{rules}
use Rattle.topology.proofs.BranchEnd.{end_bounds}
use Rattle.topology.proofs.Cases.{branch-refused, branch_missing, branch_there}
use Rattle.refusal.proofs.Numbers.{residual_is}
use Rattle.topology_branches.proofs.branch.Goals as goal

pub returns-in_err-read-clause-refusal : goal.returns-in_err-read-clause-refusal
returns-in_err-read-clause-refusal c =
    rw (residual_is _ _ c.from_residual.ensures.1) (branch-refused _ _ _ c.in_err-read.ensures).0

pub returns-then-bytes-node-clause-refusal : goal.returns-then-bytes-node-clause-refusal
returns-then-bytes-node-clause-refusal c = (branch_missing _ _ c.in_ok-read.ensures c.if-bytes-node.true).0

pub slice_bounds-result-count : goal.slice_bounds-result-count
slice_bounds-result-count c =
    let b = end_bounds c.args.bytes.now c.args.node (search rules) in
    search (rules, c.branch_end.ensures)

pub slice_bounds-result-start : goal.slice_bounds-result-start
slice_bounds-result-start c =
    let b = end_bounds c.args.bytes.now c.args.node (search rules) in
    search (rules, c.branch_end.ensures)

pub slice_bounds-result-end : goal.slice_bounds-result-end
slice_bounds-result-end c =
    let b = end_bounds c.args.bytes.now c.args.node (search rules) in
    search (rules, c.branch_end.ensures)

pub returns-clause-refusal : goal.returns-clause-refusal
returns-clause-refusal c = (branch_there _ _ c.in_ok-read.ensures c.if-bytes-node.false _ c.branch_end.ensures).0

pub returns-clause-part : goal.returns-clause-part
returns-clause-part c = (branch_there _ _ c.in_ok-read.ensures c.if-bytes-node.false _ c.branch_end.ensures).1

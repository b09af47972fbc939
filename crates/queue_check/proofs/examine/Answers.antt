-- `examine` meets its contract: the number of nodes, the opening's test, and the pass over the queues.
use Rattle.std.proofs.Common.{sym, ◌∙◌, arith, rules}
use Rattle.queue_state.proofs.Arrays.{Arrays}
use Rattle.queue_check.proofs.ExamineCases.{says_no, refused, valid, tests}
use Rattle.queue_check.proofs.examine.Goals as goal

pub returns-in_err-bytes : goal.returns-in_err-bytes
returns-in_err-bytes c =
    let a : Arrays c.args.state = search rules in
    rw c.from_residual.ensures (says_no _ (λ f. grind (arith, c.in_err-bytes.ensures.lookup, f.nodes)))

pub returns-in_err-ok : goal.returns-in_err-ok
returns-in_err-ok c =
    rw c.from_residual-in_err-ok.ensures
    (refused _ _ c.in_ok-bytes.ensures.lookup.0.2 _ c.check_opening.ensures (sym c.ok.ensures.value ∙ c.in_err-ok.was))

pub tally-requires : goal.tally-requires
tally-requires c = valid c.args.state _ c.in_ok-bytes.ensures.lookup.0.2 _ c.check_opening.ensures _ (sym c.ok.ensures.value ∙ c.in_ok-ok.was)

pub returns : goal.returns
returns c =
    let a : Arrays c.args.state = search rules in
    tests _ _ c.in_ok-bytes.ensures.lookup.0.2 _ c.check_opening.ensures _ (sym c.ok.ensures.value ∙ c.in_ok-ok.was) a (omega (arith, c.in_ok-bytes.ensures.lookup.0.1)) _ c.tally.ensures

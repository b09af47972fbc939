-- `open` meets its contract: the opening is refused by the search, refused for the limit, or not refused.
use Rattle.std.proofs.Common.{sym, ◌∙◌}
use Rattle.pair_state.proofs.OpensBoth.{search_refused, source_decides}
use Rattle.refusal.proofs.Numbers.{residual_is}
use Rattle.pair_state.proofs.open.Goals as goal

pub returns-in_err-map-clause-refusal : goal.returns-in_err-map-clause-refusal
returns-in_err-map-clause-refusal c =
    rw (residual_is _ _ c.from_residual.ensures.1) (search_refused _ _ _ _ c.in_err-map.ensures.answer.number)

pub returns-in_err-drawn-clause-refusal : goal.returns-in_err-drawn-clause-refusal
returns-in_err-drawn-clause-refusal c =
    let r = c.from_residual-in_err-drawn in
    rw (residual_is _ _ r.ensures.1) (c.in_err-drawn.ensures.refusal ∙ source_decides _ _ _ (sym c.in_ok-map.ensures.answer.number))

pub returns-clause-refusal : goal.returns-clause-refusal
returns-clause-refusal c = c.in_ok-drawn.ensures.refusal ∙ source_decides _ _ _ (sym c.in_ok-map.ensures.answer.number)

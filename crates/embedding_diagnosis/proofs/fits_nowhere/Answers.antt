use Rattle.std.proofs.Common.{◌∙◌, ◌&&◌, ℕ, not, length, ap, arith, rules, tests}
use Rattle.std.proofs.lemmas.Iterator.{YieldsList-from_range}
use Rattle.std.proofs.lemmas.Iterator.Search.{all_from_yields_List}
use Rattle.base.specs.Tests.{all}
use Rattle.base.proofs.Chains.{list_all_range}
use Rattle.embedding_diagnosis.specs.Misfit.{may_go, fits_at, fits_nowhere}
use Rattle.embedding_diagnosis.proofs.fits_nowhere.Goals as goal

pub returns : goal.returns
unfolding fits_nowhere
returns c =
    let source = c.args.source.now in
    let target = c.args.target.now in
    let shut = λ (above t : ℕ). not (may_go above target t && fits_at source target c.args.s t) in
    all_from_yields_List (shut c.kept_above-above.result) c.all.new.self _ _ c.all.ensures.ran
    (YieldsList-from_range 0 (length target) (length target) (cc) (omega arith)) (λ x b q k. search (rules, tests))
    ∙ list_all_range (shut c.kept_above-above.result) (length target)
    ∙ ap (λ (above : ℕ). all (length target) (shut above)) c.kept_above-above.ensures

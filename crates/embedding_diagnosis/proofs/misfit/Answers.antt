use Rattle.std.proofs.Common.{◌∙◌, ◌&&◌, length, refl, rules, tests}
use Rattle.topology_places.proofs.Chains.{last_found}
use Rattle.embedding_diagnosis.specs.Misfit.{is_kept, fits_nowhere, misfit}
use Rattle.embedding_diagnosis.proofs.misfit.Goals as goal

pub returns : goal.returns
unfolding misfit
returns c =
    let source = c.args.source.now in
    c.unwrap_or.ensures
    ∙ last_found (λ s. is_kept source s && fits_nowhere source c.args.target.now s) (length source) _ _ _ _ refl c.rfind.ensures.ran
    (λ x b q k. search (rules, tests))

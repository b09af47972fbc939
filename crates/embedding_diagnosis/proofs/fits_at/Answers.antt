use Rattle.std.proofs.Common.{◌∙◌}
use Rattle.embedding_diagnosis.specs.Misfit.{fits_at}
use Rattle.refusal.proofs.Numbers.{is_ok-number}
use Rattle.embedding_diagnosis.proofs.fits_at.Goals as goal

pub returns : goal.returns
unfolding fits_at
returns c = c.is_ok.ensures.value ∙ is_ok-number _ _ (rw (c.part.ensures, c.part-2.ensures) at c.least_map.ensures.number)

-- The search's number is 0, 12 or a reader's.
use Rattle.std.proofs.Common.{◌∙◌, sym, ap}
use Rattle.refusal.specs.Numbers.{number}
use Rattle.embedding_diagnosis.specs.Diagnosis.{lack_at}
use Rattle.embedding_diagnosis.proofs.WhyCases.{diagnosis_loads, diagnosis_lack, diagnosis_refused}
use Rattle.embedding_diagnosis.proofs.why.Goals as goal

pub returns-in_default : goal.returns-in_default
returns-in_default c = diagnosis_loads _ _ (sym c.in_default.ensures.number)

pub returns-in-NoMap : goal.returns-in-NoMap
returns-in-NoMap c =
    c.lack_at.ensures ∙ ap (lack_at c.args.source.now c.args.target.now) c.misfit.ensures
    ∙ diagnosis_lack _ _ (sym c.in-Err.ensures.number ∙ ap number c.in-NoMap.is)

pub returns-in_default-refusal : goal.returns-in_default-refusal
returns-in_default-refusal c = diagnosis_refused _ _ _ c.in_default-refusal.not-NoMap c.in-Err.ensures.number

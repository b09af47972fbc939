use Rattle.std.proofs.Common.{◌∙◌, refl, ap, List, ℕ, Bor}
use Rattle.embedding_diagnosis.proofs.WhyCases.{part_is}
use Rattle.embedding_diagnosis.proofs.part.Goals as goal

pub returns : goal.returns
returns c =
    ap (λ (b : Bor (List ℕ)). b.now) c.unwrap_or.ensures
    ∙ part_is _ _ _ _ c.branch-bytes.ensures.refusal c.branch-bytes.ensures.part refl

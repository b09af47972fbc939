use Rattle.std.proofs.Common.{◌∙◌, ℕ, eqb, rules, tests}
use Rattle.std.proofs.lemmas.Iterator.{YieldsList-from_slice}
use Rattle.std.proofs.lemmas.Iterator.Consumers.{YieldsList-at, YieldsList-from_filter, count_from_yields_List}
use Rattle.std.proofs.lemmas.List.Sums.{length-filter}
use Rattle.embedding_diagnosis.specs.Diagnosis.{leaves}
use Rattle.embedding_diagnosis.proofs.WhyCases.{counted_items}
use Rattle.embedding_diagnosis.proofs.leaves.Goals as goal

pub returns : goal.returns
unfolding leaves
returns c =
    let bytes = c.args.bytes.now in
    let test = λ (b : ℕ). eqb b 0 in
    count_from_yields_List _ _ c.count.ensures.ran
    (YieldsList-from_filter _ test (YieldsList-at c.filter.ensures.source (YieldsList-from_slice bytes cc)) c.filter.ensures.closure
    (λ x b q k. search (rules, tests)))
    ∙ length-filter test bytes ∙ counted_items test bytes

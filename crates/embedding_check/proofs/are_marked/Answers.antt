use Rattle.std.proofs.Common.{◌∙◌, ℕ, rules, tests}
use Rattle.std.proofs.lemmas.Iterator.{YieldsList-from_slice, YieldsList-from_zip}
use Rattle.std.proofs.lemmas.Iterator.Search.{all_from_yields_List}
use Rattle.embedding_model.specs.Check.{are_marked, marked}
use Rattle.base.proofs.Chains.{list_all_zip}
use Rattle.embedding_check.proofs.are_marked.Goals as goal

pub returns : goal.returns
unfolding are_marked marked
returns c =
    let s = c.args.source.now in
    let m = c.args.map.now in
    let test = λ (p : ℕ × ℕ). marked p.0 p.1 in
    all_from_yields_List test c.all.new.self _ _ c.all.ensures.ran
    (YieldsList-from_zip (YieldsList-from_slice s cc) (YieldsList-from_slice m cc)) (λ x b q k. search (rules, tests))
    ∙ list_all_zip s m c.requires test

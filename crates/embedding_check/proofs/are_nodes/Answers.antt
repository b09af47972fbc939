-- Each image of the chain is tested.
use Rattle.std.proofs.Common.{◌∙◌, ℕ, length, ltb, rules, tests, refl}
use Rattle.std.proofs.lemmas.Iterator.{YieldsList-from_slice}
use Rattle.std.proofs.lemmas.Iterator.Search.{all_from_yields_List}
use Rattle.embedding_model.specs.Rules.{image}
use Rattle.embedding_model.specs.Check.{are_nodes}
use Rattle.base.proofs.Chains.{list_all_places}
use Rattle.embedding_check.proofs.are_nodes.Goals as goal

pub returns : goal.returns
unfolding are_nodes
returns c =
    let m = c.args.map.now in
    let test = λ (x : ℕ). ltb x (length c.args.target.now) in
    all_from_yields_List test c.all.new.self _ _ c.all.ensures.ran
    (YieldsList-from_slice m cc) (λ x b q k. search (rules, tests))
    ∙ list_all_places test (λ a. test (image m a)) m 0 (length m) refl (λ i h. refl)

use Rattle.std.proofs.Common.{◌≡◌, ◌≢◌, ◌∙◌, sym, refl, rules, tests, arith}
use Rattle.std.proofs.lemmas.Iterator.{YieldsList-from_slice, IsFirst-from_position, index_from_first}
use borrow.Author.Tests.{eq-eqb, ne_eqb}
use Rattle.embedding_model.specs.FirstLeaf.{first_leaf}
use Rattle.embedding_least.proofs.first_leaf.Goals as goal

pub returns : goal.returns
returns c =
    let bytes = c.args.bytes.now in
    c.unwrap_or.ensures
    ∙ sym (index_from_first first_leaf (λ b. b ≡ 0) (λ b. b ≢ 0) refl (λ b bs e. rw (eq-eqb b 0 e)) (λ b bs d. rw (ne_eqb b 0 d) (omega arith)) bytes
    _ (IsFirst-from_position c.position.new.self _ c.position.result (λ b. b ≡ 0) (λ b. b ≢ 0) c.position.ensures.ran (YieldsList-from_slice bytes cc)
    (λ x q k. search (rules, tests)) (λ x q k. search (rules, tests))))

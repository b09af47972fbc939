-- A drawing whose first byte is 0 is a lone leaf.
use Rattle.std.proofs.Common.{◌∙◌, List, ℕ, ap}
use Rattle.embedding_model.specs.Least.{least_map}
use Rattle.embedding_least.specs.InnerImages.{in_places}
use Rattle.embedding_least.proofs.Searches.{lone}
use Rattle.embedding_least.proofs.least_images.Goals as goal

pub returns-then-is_leaf : goal.returns-then-is_leaf
returns-then-is_leaf c =
    c.place_leaf.ensures ∙ ap (λ (b : List ℕ). in_places (least_map b c.args.target.now)) (lone c.args.source.now c.requires.0 c.if-is_leaf.true)

use Rattle.embedding_least.proofs.Searches.{search_trees, kept-is, both-draw, search_none, search_found}
use Rattle.refusal.proofs.Numbers.{residual_is}
use Rattle.embedding_least.proofs.least_map.Goals as goal

pub returns-in_err-read_both : goal.returns-in_err-read_both
returns-in_err-read_both c =
    rw (residual_is _ _ c.from_residual.ensures.1) (search_trees c.args.source.now c.args.target.now _ c.in_err-read_both.ensures)

pub least_images-requires : goal.least_images-requires
least_images-requires c =
    let z = c.in_ok-read_both.ensures in
    rw (kept-is c.args.source.now c.args.target.now z _ _ c.restrict-kept.ensures c.as_slice.ensures.items) (both-draw c.args.source.now c.args.target.now z)

pub returns-in_err-images : goal.returns-in_err-images
returns-in_err-images c =
    let z = c.in_ok-read_both.ensures in
    let kept = kept-is c.args.source.now c.args.target.now z _ _ c.restrict-kept.ensures c.as_slice.ensures.items in
    rw (residual_is _ _ c.from_residual-in_err-images.ensures.1) (search_none c.args.source.now c.args.target.now z _ (rw (c.least_images.ensures, kept) at c.in_err-images.ensures.value))

pub returns : goal.returns
returns c =
    let z = c.in_ok-read_both.ensures in
    let kept = kept-is c.args.source.now c.args.target.now z _ _ c.restrict-kept.ensures c.as_slice.ensures.items in
    search_found c.args.source.now c.args.target.now z _ _ (rw (c.least_images.ensures, kept) at c.in_ok-images.ensures.value) c.spread_out.ensures

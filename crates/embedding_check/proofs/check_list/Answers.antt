-- `check_list` tests the images of the kept nodes as a map of the reduced drawing.
use Rattle.std.proofs.Common.{◌≡◌, ◌∙◌, ℕ, List, length, take, ap, sym, arith, rules}
use Rattle.topology.specs.Reader.{fault}
use Rattle.topology_reduction.specs.Reduced.{kept_bytes, restricted}
use Rattle.topology_reduction.proofs.RestrictLoop.{restricted-alike, restrict-held}
use Rattle.topology_reduction.proofs.Limits.{kept-fault}
use Rattle.embedding_model.specs.Check.{list_fault}
use Rattle.embedding_trees.proofs.TreesFault.{tree-fits}
use Rattle.embedding_check.proofs.check_list.Goals as goal

-- a list read by 32 bytes of the source at the most is restricted as by all of them
held : (source list items now : List ℕ) → fault 32 source ≡ 0 → items ≡ restricted (take 32 source) list → now ≡ items → now ≡ restricted source list
held source list items now z e f = f ∙ e ∙ restrict-held source list (tree-fits 32 source z).1

pub check_images-requires : goal.check_images-requires
check_images-requires c =
    let source = c.args.source.now in
    let z = c.requires.0 in
    let kept = held source source _ _ z c.restrict-kept.ensures c.as_slice.ensures.items in
    let images = held source c.args.map.now _ _ z c.restrict-images.ensures c.as_slice-2.ensures.items in
    let fits = tree-fits 32 (kept_bytes source) (kept-fault 32 source z) in (
      ap length images ∙ restricted-alike source c.args.map.now source c.if-map-source.false ∙ sym (ap length kept),
      omega (arith, fits, ap length kept),
      omega (arith, fits, ap length kept),
      c.requires.1,
    )

pub returns : goal.returns
unfolding list_fault
returns c =
    let source = c.args.source.now in
    let kept = held source source _ _ c.requires.0 c.restrict-kept.ensures c.as_slice.ensures.items in
    let images = held source c.args.map.now _ _ c.requires.0 c.restrict-images.ensures c.as_slice-2.ensures.items in
    search rules

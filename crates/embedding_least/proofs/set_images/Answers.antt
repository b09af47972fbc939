use Rattle.embedding_program.proofs.Images.{put_next}
use Rattle.embedding_least.proofs.set_images.Goals as goal

pub loop-place-preserved : goal.loop-place-preserved
loop-place-preserved c = put_next _ _ _ c.requires _ _ _ c.loop-place.invariant c.loop-place-test.true

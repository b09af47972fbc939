use Rattle.text.proofs.Appending.{appends_none, appends_next}
use Rattle.text.proofs.Text.put_word.Goals as goal

pub loop-byte-init : goal.loop-byte-init
loop-byte-init c = appends_none _

pub loop-byte-preserved : goal.loop-byte-preserved
loop-byte-preserved c = appends_next _ _ c.loop-byte-test.true c.loop-byte.invariant c.put.ensures

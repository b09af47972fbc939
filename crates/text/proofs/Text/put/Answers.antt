-- `put` meets its contract: a byte inside the buffer, or one past its end.
use Rattle.std.proofs.Common.{◌≡◌, length, refl, arith}
use Rattle.text.proofs.Written.{byte_in, byte_out}
use Rattle.text.proofs.Text.put.Goals as goal

pub returns-then-self : goal.returns-then-self
returns-then-self c = record { same = refl; puts = byte_in _ _ _ c.if-self.true }

pub returns-else-self : goal.returns-else-self
returns-else-self c =
    let end : c.args.self.now.at ≡ length c.args.self.now.out.now = omega (arith, c.args.self.now.within) in
    record { same = refl; puts = rw end (byte_out _ _ _ (omega arith)) }

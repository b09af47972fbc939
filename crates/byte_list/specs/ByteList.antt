-- What a contract sees of a `ByteList`.
use Rattle.std.specs.Prelude.{ℕ, List}

-- the bytes in order
pub record ByteList : Type 0 where
  pub items : List ℕ

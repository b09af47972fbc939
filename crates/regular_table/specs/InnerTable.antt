-- The promise of the private function that puts the lines for a source.
use Rattle.std.specs.Prelude.{ℕ, List}
use Rattle.text.specs.declared.Text.{Text}
use Rattle.text.specs.Appending.{Appends}

-- a text of which `Is` holds is put behind the text `before`
pub record Adds (Is : List ℕ → Type 0) (before after : Text) : Type 0 where
  pub bytes : List ℕ
  pub is : Is bytes
  pub appends : Appends before bytes after

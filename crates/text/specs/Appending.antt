-- What a call that puts text does to the text of a caller's buffer.
use Rattle.std.specs.Prelude.{◌≡◌, ℕ, min, List, length}
use Rattle.std.specs.Borrow.{MutBor}
use Rattle.text.specs.Text.{Puts}
use Rattle.text.specs.declared.Text.{Text}

-- the text puts into the buffer from place `at` on, but not past the end; the buffer holds what it held, and nothing is put yet
pub record Begins (buffer : MutBor (List ℕ)) (at : ℕ) (text : Text) : Type 0 where
  pub same : text.out.ghost_name ≡ buffer.ghost_name
  pub kept : text.out.now ≡ buffer.now
  pub place : text.at ≡ min at (length buffer.now)

-- the bytes are put behind the text `before`, and `after` is the text then, in the same buffer
pub record Appends (before : Text) (bytes : List ℕ) (after : Text) : Type 0 where
  pub same : after.out.ghost_name ≡ before.out.ghost_name
  pub puts : Puts before.out.now before.at bytes after.out.now after.at

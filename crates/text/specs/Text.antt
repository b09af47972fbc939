-- Numbers as text in ASCII, and text that is written into a buffer, as far as the buffer has room.
use Rattle.std.specs.Prelude.{◌≡◌, ℕ, zero, suc, ◌+◌, ◌/◌, ◌%◌, min, cond, List, [], ◌∷◌, ◌++◌, length, set, ltb}

-- the last digits of n in base ten, at most `most` of them, without leading zeros
unfoldable pub decimal_last : ℕ → ℕ → List ℕ
decimal_last zero n = []
decimal_last (suc most) n =
    let before = decimal_last most (n / 10) in
    cond (ltb n 10) [] before ++ ((48 + n % 10) ∷ [])

-- n in base ten, which takes no more than n + 1 digits; 0 is the digit 0
unfoldable pub decimal : ℕ → List ℕ
decimal n = decimal_last (suc n) n

-- a digit below 16: `0` to `9`, then `A` to `F`
unfoldable pub hex_digit : ℕ → ℕ
hex_digit d = cond (ltb d 10) (48 + d) (55 + d)

-- the last k digits of n in base sixteen
unfoldable pub hex_last : ℕ → ℕ → List ℕ
hex_last zero n = []
hex_last (suc k) n = hex_last k (n / 16) ++ (hex_digit (n % 16) ∷ [])

unfoldable pub hex8 : ℕ → List ℕ
hex8 n = hex_last 8 n

-- The buffer with the text written from place `at` on; bytes past the buffer's end are left out.
unfoldable pub written : List ℕ → ℕ → List ℕ → List ℕ
written buffer at [] = buffer
written buffer at (byte ∷ text) = written (set buffer at byte) (suc at) text

-- The text is put into the buffer `before` at place `at`, and `after` is the buffer then; `place` is the one after the text, but not past the
-- buffer's end.
pub record Puts (before : List ℕ) (at : ℕ) (text after : List ℕ) (place : ℕ) : Type 0 where
  pub bytes : after ≡ written before at text
  pub next : place ≡ min (at + length text) (length before)

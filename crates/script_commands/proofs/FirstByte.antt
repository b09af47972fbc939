-- What is read by the first byte of a command: the command, if the script has all its bytes; 21, if it ends within them; 20, if no command begins
-- with this byte. A property of these three is a property of every read (`by_code`).
use Rattle.std.proofs.Common.{◌≡◌, ℕ, ◌≤◌, ◌<◌, List, length, Bool, true, false, cond, eqb, leb, refl, arith}
use borrow.Author.Tests.{leb-true, leb-false, le-leb, eqb-true}
use Rattle.refusal.specs.declared.Refusal.TheVariants.{CutShort, UnknownCommand}
use Rattle.script_commands.specs.declared.Command.{Command}
use Rattle.script_commands.specs.declared.Read.{Read}
use Rattle.script_commands.specs.declared.Read.TheVariants.{Next, Refused}
use Rattle.script_commands.specs.Reading.{size_by, sized, command_by}

pub complete : (code : ℕ) (bytes : List ℕ) (at : ℕ) (c : Command) → size_by code ≤ length bytes → Next c at ≡ sized code bytes at c
unfolding sized
complete code bytes at c h = simp (le-leb (size_by code) (length bytes) h)

module _ (P : Read → Type 0) (at code : ℕ) (bytes : List ℕ) (command : (c : Command) → 0 < size_by code → size_by code ≤ length bytes → P (Next c at))
    (short : length bytes < size_by code → P (Refused CutShort at)) where
  of_size : (c : Command) → 0 < size_by code → P (sized code bytes at c)
  unfolding sized
  of_size c z = by_test (leb (size_by code) (length bytes)) refl
    where
      by_test : (t : Bool) → leb (size_by code) (length bytes) ≡ t → P (cond t (Next c at) (Refused CutShort at))
      by_test true q = command c z (leb-true (size_by code) (length bytes) q)
      by_test false q = short (leb-false (size_by code) (length bytes) q)

  -- one byte k of a command, and the others
  one : (k : ℕ) (c : Command) (others : Read) → 0 < size_by k → (eqb code k ≡ false → P others) → P (cond (eqb code k) (sized code bytes at c) others)
  one k c others z more = by_test (eqb code k) refl
    where
      by_test : (t : Bool) → eqb code k ≡ t → P (cond t (sized code bytes at c) others)
      by_test true q = of_size c (rw (eqb-true code k q) z)
      by_test false q = more q

  pub by_code : (size_by code ≡ 0 → P (Refused UnknownCommand at)) → P (command_by code bytes at)
  unfolding command_by
  by_code unknown =
      one 1 _ _ (omega arith) (λ e1.
      one 2 _ _ (omega arith) (λ e2.
      one 3 _ _ (omega arith) (λ e3.
      one 4 _ _ (omega arith) (λ e4.
      one 5 _ _ (omega arith) (λ e5.
      one 6 _ _ (omega arith) (λ e6.
      one 7 _ _ (omega arith) (λ e7.
      one 9 _ _ (omega arith) (λ e9.
      one 10 _ _ (omega arith) (λ e10.
      unknown (rw (e1, e2, e3, e4, e5, e6, e7, e9, e10) refl))))))))))

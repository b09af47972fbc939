-- What the reader reads at an offset: the end, a command that ends within the script, or refusal 20 or 21 at that offset. A property of these three
-- is a property of every read (`read_all`).
use Rattle.std.proofs.Common.{◌≡◌, ℕ, ◌+◌, ◌-◌, ◌≤◌, ◌<◌, List, [], ◌∷◌, length, take, drop, get_or, refl, sym, ap, ◌∙◌, arith, length-drop, drop-cons}
use Rattle.std.proofs.lemmas.List.{take_all}
use Rattle.refusal.specs.Numbers.{number}
use Rattle.refusal.specs.declared.Refusal.{Refusal}
use Rattle.refusal.specs.declared.Refusal.TheVariants.{CutShort, UnknownCommand}
use Rattle.script_commands.specs.declared.Command.{Command}
use Rattle.script_commands.specs.declared.Read.{Read}
use Rattle.script_commands.specs.declared.Read.TheVariants.{End, Next, Refused}
use Rattle.script_commands.specs.Reading.{size_by, first_size, command_by, command_of, read_at, behind, next_at}
use Rattle.script_commands.proofs.FirstByte.{by_code}

module _ (script : List ℕ) (at : ℕ) where
  -- the size of the command at the offset
  abbrev pub size_at : ℕ
  size_at = first_size (drop at script)

  size_at_lem : at < length script → size_by (get_or script at 0) ≡ size_at
  size_at_lem h = rw (drop-cons script at 0 h) refl

  read_all : (P : Read → Type 0) → P End → ((c : Command) → 0 < size_at → at + size_at ≤ length script → P (Next c at))
      → ((e : Refusal) → number e ≤ 21 → at < length script → P (Refused e at)) → P (read_at script at)
  unfolding read_at
  read_all P end command refusal = by_bytes (drop at script) (length-drop at script) command
    where
      by_bytes : (bytes : List ℕ) → length bytes ≡ length script - at
          → ((c : Command) → 0 < first_size bytes → at + first_size bytes ≤ length script → P (Next c at)) → P (command_of bytes at)
      by_bytes [] l command = end
      by_bytes (code ∷ rest) l command =
          by_code P at code (code ∷ rest) (λ c z h. command c z (omega (arith, l, h, z))) (λ h. refusal CutShort (omega arith) (omega (arith, l)))
          (λ e. refusal UnknownCommand (omega arith) (omega (arith, l)))

  -- before the script's end what is read is what the bytes from the offset on are
  pub read_command : (r : Read) → at < length script → r ≡ command_by (get_or script at 0) (take (length script - at) (drop at script)) at
      → r ≡ read_at script at
  unfolding read_at
  read_command r h e =
      let whole = take_all (length script - at) (drop at script) (omega (arith, length-drop at script)) in
      e ∙ rw (whole, drop-cons script at 0 h)

  -- a command is at its offset, ends within the script, and has the size that its first byte says
  pub record Within (offset : ℕ) : Type 0 where
    pub is_at : offset ≡ at
    pub some : 0 < size_at
    pub inside : at + size_at ≤ length script
    pub first : size_by (get_or script at 0) ≡ size_at

  pub within : (c : Command) (offset : ℕ) → read_at script at ≡ Next c offset → Within offset
  within =
      read_all (λ r. (c : Command) (offset : ℕ) → r ≡ Next c offset → Within offset) (λ c offset e. absurd (cc))
      (λ d z h c offset e. record { is_at = cc; some = z; inside = h; first = size_at_lem (omega arith) }) (λ n h z c offset e. absurd (cc))

  -- a refusal is 20 or 21, at the offset, which is before the end of the script
  pub told : (r : Refusal) (offset : ℕ) → read_at script at ≡ Refused r offset → (number r ≤ 21) × (offset ≡ at) × (at < length script)
  told =
      read_all (λ x. (r : Refusal) (offset : ℕ) → x ≡ Refused r offset → (number r ≤ 21) × (offset ≡ at) × (at < length script))
      (λ r offset e. absurd (cc)) (λ c z h r offset e. absurd (cc)) (λ q h z r offset e. let f : r ≡ q = cc in (rw f h, cc, z))

  -- the next command is at a greater offset
  pub further : (c : Command) (offset : ℕ) → read_at script at ≡ Next c offset → (at < next_at script at) × (next_at script at ≤ length script)
  unfolding next_at
  further c offset e = let w = within c offset e in rw e (omega (arith, w.some), w.inside)

  pub next-is : (r : Read) → read_at script at ≡ r → behind at size_at r ≡ next_at script at
  unfolding next_at
  next-is r e = ap (behind at size_at) (sym e)

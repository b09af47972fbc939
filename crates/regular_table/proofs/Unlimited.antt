-- Which 04 is refused before the search: one without a limit, by 22, and no other.
use Rattle.std.proofs.Common.{◌≡◌, ℕ, zero, suc, ◌<◌, List, [], ◌∷◌, ◌++◌, Option, None, Some, length, get_or, drop}
use Rattle.std.proofs.Common.{refl, sym, ap, ◌∙◌, arith, drop-cons}
use borrow.Author.Tests.{le-leb}
use Rattle.refusal.specs.declared.Refusal.{Refusal}
use Rattle.refusal.specs.declared.Refusal.TheVariants.{OutOfTurn}
use Rattle.script_commands.specs.declared.Setup.TheVariants.{Source, Target, Limit}
use Rattle.script_commands.specs.declared.Command.TheVariants.{Setup, Compile, Call}
use Rattle.script_commands.specs.declared.Read.{Read}
use Rattle.script_commands.specs.declared.Read.TheVariants.{End, Next, Refused}
use Rattle.script_commands.specs.Reading.{sized, command_by, command_of, read_at, next_at, reads_by, reads_from, reads}
use Rattle.script_commands.proofs.ReadAt.{within, told}
use Rattle.script_setup.specs.Gathering.{gather_reads, gathered}
use Rattle.script_setup.specs.declared.Ending.{Ending}
use Rattle.script_setup.specs.declared.Ending.TheVariants.{End as AtEnd, Refused as AtRefusal, Compile as AtCompile}
use Rattle.script_setup.proofs.Endings.{Inside, ends_inside}

module _ (script : List ℕ) where
  -- a byte 4 at a command's offset is that command
  read_04 : (at : ℕ) → at < length script → get_or script at 0 ≡ 4 → read_at script at ≡ Next Compile at
  unfolding read_at command_by sized
  read_04 at h e =
      let rest = drop (suc at) script in
      let there : drop at script ≡ 4 ∷ rest = drop-cons script at 0 h ∙ ap (λ (b : ℕ). b ∷ rest) e in
      ap (λ (l : List ℕ). command_of l at) there ∙ rw (le-leb 1 (suc (length rest)) (omega arith)) refl

  -- each read is the one at its offset
  abbrev AllRead : List Read → Type 0
  AllRead [] = Unit
  AllRead (End ∷ rs) = AllRead rs
  AllRead (Next c at ∷ rs) = (read_at script at ≡ Next c at) × AllRead rs
  AllRead (Refused n at ∷ rs) = (read_at script at ≡ Refused n at) × AllRead rs

  all_read : (most at : ℕ) → AllRead (reads_from most script at)
  all_read zero at = tt
  all_read (suc most) at = by_read (read_at script at) refl (reads_from most script (next_at script at)) (all_read most (next_at script at))
    where
      by_read : (r : Read) → read_at script at ≡ r → (more : List Read) → AllRead more → AllRead (reads_by r more)
      by_read End e more all = tt
      by_read (Next c offset) e more all = let w = within script at c offset e in (ap (read_at script) w.is_at ∙ e, all)
      by_read (Refused n offset) e more all = let t = told script at n offset e in (ap (read_at script) t.1 ∙ e, tt)

  -- an 04 that is refused
  abbrev Unlimited : Ending → Option ℕ → Type 0
  Unlimited AtEnd l = Unit
  Unlimited (AtRefusal r at) l = read_at script at ≡ Next Compile at → (r ≡ OutOfTurn) × (l ≡ None)
  Unlimited (AtCompile at) l = Unit

  gather_unlimited : (rs : List Read) (s t : List ℕ) (l : Option ℕ) → AllRead rs
      → Unlimited (gather_reads rs s t l).ending (gather_reads rs s t l).limit
  gather_unlimited [] s t l all = tt
  gather_unlimited (End ∷ rs) s t l all = tt
  gather_unlimited (Refused n at ∷ rs) s t l all = λ e. absurd (let q = sym all.0 ∙ e in cc)
  gather_unlimited (Next (Setup (Source b)) at ∷ rs) s t l all = gather_unlimited rs (s ++ (b ∷ [])) t l all.1
  gather_unlimited (Next (Setup (Target b)) at ∷ rs) s t l all = gather_unlimited rs s (t ++ (b ∷ [])) l all.1
  gather_unlimited (Next (Setup (Limit n)) at ∷ rs) s t None all = gather_unlimited rs s t (Some n) all.1
  gather_unlimited (Next (Setup (Limit n)) at ∷ rs) s t (Some m) all = λ e. absurd (let q = sym all.0 ∙ e in cc)
  gather_unlimited (Next Compile at ∷ rs) s t None all = λ e. (refl, refl)
  gather_unlimited (Next Compile at ∷ rs) s t (Some n) all = tt
  gather_unlimited (Next (Call c) at ∷ rs) s t l all = λ e. absurd (let q = sym all.0 ∙ e in cc)

  -- An 04 that gatewalk refuses before the search has no limit before it.
  pub unlimited : (r : Refusal) (at : ℕ) → (gathered script).ending ≡ AtRefusal r at → get_or script at 0 ≡ 4
      → (r ≡ OutOfTurn) × ((gathered script).limit ≡ None)
  unfolding gathered reads
  unlimited r at q e =
      let inside : Inside (length script) (AtRefusal r at) = rw q at (ends_inside script) in
      let known : Unlimited (AtRefusal r at) (gathered script).limit =
      rw q at (gather_unlimited (reads script 0) [] [] None (all_read (suc (length script)) 0)) in
      known (read_04 at inside.1 e)

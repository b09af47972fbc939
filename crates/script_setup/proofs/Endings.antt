-- The end of the setup: it is at an offset of the script. A refusal there is 20, 21 or 22.
use Rattle.std.proofs.Common.{◌≡◌, ℕ, zero, suc, ◌≤◌, ◌<◌, List, [], ◌∷◌, ◌++◌, Option, None, Some, length, refl, arith}
use Rattle.refusal.specs.Numbers.{number}
use Rattle.script_commands.specs.declared.Setup.TheVariants.{Source, Target, Limit}
use Rattle.script_commands.specs.declared.Command.TheVariants.{Setup, Compile, Call}
use Rattle.script_commands.specs.declared.Read.{Read}
use Rattle.script_commands.specs.declared.Read.TheVariants.{End, Next, Refused}
use Rattle.script_commands.specs.Reading.{read_at, next_at, reads_by, reads_from, reads}
use Rattle.script_commands.proofs.ReadAt.{within, told}
use Rattle.script_setup.specs.Gathering.{gather_reads, gathered}
use Rattle.script_setup.specs.declared.Ending.{Ending}
use Rattle.script_setup.specs.declared.Ending.TheVariants.{End as AtEnd, Refused as AtRefusal, Compile as AtCompile}

-- an ending at an offset below a script's length
abbrev pub Inside : ℕ → Ending → Type 0
Inside size AtEnd = Unit
Inside size (AtRefusal r at) = (number r ≤ 22) × (at < size)
Inside size (AtCompile at) = at < size

-- the same for each read
abbrev AllInside : ℕ → List Read → Type 0
AllInside size [] = Unit
AllInside size (End ∷ rs) = AllInside size rs
AllInside size (Next c at ∷ rs) = (at < size) × AllInside size rs
AllInside size (Refused r at ∷ rs) = (number r ≤ 22) × (at < size) × AllInside size rs

module _ (script : List ℕ) where
  reads_inside : (most at : ℕ) → AllInside (length script) (reads_from most script at)
  reads_inside zero at = tt
  reads_inside (suc most) at = by_read (read_at script at) refl (reads_from most script (next_at script at)) (reads_inside most (next_at script at))
    where
      by_read : (r : Read) → read_at script at ≡ r → (more : List Read) → AllInside (length script) more → AllInside (length script) (reads_by r more)
      by_read End e more all = tt
      by_read (Next c offset) e more all = let w = within script at c offset e in (omega (arith, w.is_at, w.some, w.inside), all)
      by_read (Refused n offset) e more all = let known = told script at n offset e in (omega (arith, known.0), omega (arith, known.1, known.2), tt)

  gather_inside : (rs : List Read) (s t : List ℕ) (l : Option ℕ) → AllInside (length script) rs → Inside (length script) (gather_reads rs s t l).ending
  gather_inside [] s t l all = tt
  gather_inside (End ∷ rs) s t l all = tt
  gather_inside (Refused r at ∷ rs) s t l all = (all.0, all.1)
  gather_inside (Next (Setup (Source b)) at ∷ rs) s t l all = gather_inside rs (s ++ (b ∷ [])) t l all.1
  gather_inside (Next (Setup (Target b)) at ∷ rs) s t l all = gather_inside rs s (t ++ (b ∷ [])) l all.1
  gather_inside (Next (Setup (Limit n)) at ∷ rs) s t None all = gather_inside rs s t (Some n) all.1
  gather_inside (Next (Setup (Limit n)) at ∷ rs) s t (Some m) all = (omega arith, all.0)
  gather_inside (Next Compile at ∷ rs) s t None all = (omega arith, all.0)
  gather_inside (Next Compile at ∷ rs) s t (Some n) all = all.0
  gather_inside (Next (Call c) at ∷ rs) s t l all = (omega arith, all.0)

  pub ends_inside : Inside (length script) (gathered script).ending
  unfolding gathered reads
  ends_inside = gather_inside (reads script 0) [] [] None (reads_inside (suc (length script)) 0)

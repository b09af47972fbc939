-- The text for a script is unique, since the depths are.
use mathlib.Core.Path.{◌≡◌, refl, sym, ◌∙◌}
use Prim.Native.Nat.{ℕ, zero, suc, ◌+◌, ◌≤◌, ◌<◌}
use native.Mathlib.Omega.{arith}
use mathlib.Core.List.{List}
use lib.ListN.{length}
use Rattle.topology.specs.Reader.{fault, tree}
use Rattle.regular_model.proofs.Depth.{depth_once}
use Rattle.script_setup.specs.Gathering.{gathered}
use Rattle.script_setup.specs.declared.Ending.{Ending}
use Rattle.script_setup.specs.declared.Ending.TheVariants.{End, Refused, Compile}
use Rattle.regular_table.specs.Table.{chip_lines, TableBy, ending, TextBy, Prints}

lines_same : (n d : ℕ) (f g : ℕ → ℕ) → ((e : ℕ) → d ≤ e → e < d + n → f e ≡ g e) → chip_lines n d f ≡ chip_lines n d g
lines_same zero d f g h = refl
lines_same (suc n) d f g h = rw (h d (omega arith) (omega arith), lines_same n (suc d) f g (λ e a b. h e (omega (arith, a)) (omega (arith, b)))) refl

by_fault : (n : ℕ) (source : List ℕ) (at : ℕ) (s t : List ℕ) → TableBy n source at s → TableBy n source at t → s ≡ t
by_fault zero source at s t a b =
    let same : (d : ℕ) → 2 ≤ d → d < 2 + 7 → a.0 d ≡ b.0 d =
    λ d from to. depth_once (tree source) d (a.0 d) (b.0 d) (a.1 d from (omega (arith, to))) (b.1 d from (omega (arith, to))) in
    a.2 ∙ lines_same 7 2 a.0 b.0 same ∙ sym b.2
by_fault (suc n) source at s t a b = a ∙ sym b

-- Two texts that buychip's contract allows for a script are equal.
pub table_once : (script s t : List ℕ) → Prints script s → Prints script t → s ≡ t
table_once script s t a b = by_ending (ending script (gathered script).ending) a b
  where
    by_ending : (e : Ending) → TextBy e script (gathered script).source s → TextBy e script (gathered script).source t → s ≡ t
    by_ending End a b = by_fault (fault 32 (gathered script).source) (gathered script).source (length script) s t a b
    by_ending (Refused n at) a b = a ∙ sym b
    by_ending (Compile at) a b = by_fault (fault 32 (gathered script).source) (gathered script).source at s t a b

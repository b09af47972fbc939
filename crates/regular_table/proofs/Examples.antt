-- What buychip prints, from the definitions: for paper 02's drawing of three leaves, for a drawing that ends too early, and for a script with a pop
-- before 04; and the lines of the largest chip that can be loaded and of the smallest that cannot.
use mathlib.Core.Path.{◌≡◌, refl}
use Prim.Native.Nat.{ℕ}
use mathlib.Core.List.{List, [], ◌∷◌, ◌++◌}
use Rattle.topology.specs.Reader.{fault, tree}
use Rattle.regular_model.specs.InnerNeed.{enough, need}
use Rattle.regular_model.proofs.ReducedNeed.{depth_needed}
use Rattle.text.specs.Text.{decimal_last, decimal}
use Rattle.text_templates.specs.Template.{bytes, filled}
use Rattle.script_lines.specs.Lines.{no_line}
use Rattle.script_commands.specs.Reading.{operand, sized, command_by, read_at, next_at, reads}
use Rattle.script_setup.specs.Gathering.{gathered}
use Rattle.regular_table.specs.Table.{loadable, chip_line, Prints}

-- the commands of a source, and 04 without a limit
abbrev drawn : List ℕ → List ℕ
drawn [] = 4 ∷ []
drawn (b ∷ bs) = 1 ∷ b ∷ drawn bs

pub record Printed : Type 0 where
  pub three-leaves : Prints (drawn (3 ∷ 0 ∷ 0 ∷ 0 ∷ []))
      (bytes "d 2: depth 2, 7 nodes, 4 leaves\n"
      ++ (bytes "d 3: depth 1, 4 nodes, 3 leaves\n"
      ++ (bytes "d 4: depth 1, 5 nodes, 4 leaves\n"
      ++ (bytes "d 5: depth 1, 6 nodes, 5 leaves\n"
      ++ (bytes "d 6: depth 1, 7 nodes, 6 leaves\n"
      ++ (bytes "d 7: depth 1, 8 nodes, 7 leaves\n"
      ++ bytes "d 8: depth 1, 9 nodes, 8 leaves\n"))))))
  pub too_short : Prints (drawn (3 ∷ 0 ∷ [])) (bytes "no 1 4\n")
  pub popped : Prints (1 ∷ 0 ∷ 7 ∷ 4 ∷ []) (bytes "no 22 2\n")
  pub largest : chip_line 2 5 ≡ bytes "d 2: depth 5, 63 nodes, 32 leaves\n"
  pub too_large : chip_line 8 2 ≡ bytes "d 8: depth 2, 73 nodes, 64 leaves, cannot be loaded by this software\n"

pub printed : Printed
unfolding gathered reads read_at next_at command_by sized operand fault tree enough loadable chip_line filled decimal decimal_last no_line
printed =
    let source = tree (3 ∷ 0 ∷ 0 ∷ 0 ∷ []) in
    record {
      three-leaves = (λ d. need d source, (λ d a b. depth_needed d a source), refl);
      too_short = refl;
      popped = refl;
      largest = refl;
      too_large = refl;
    }

-- The text of buychip, for a script: a line for each d from 2 to 8, with the least depth of a chip and how large that chip is, or a refusal.
use Rattle.std.specs.Prelude.{◌≡◌, ℕ, zero, suc, ◌≤◌, List, [], ◌∷◌, ◌++◌, Bool, true, false, cond, length, get_or, eqb}
use Rattle.refusal.specs.Numbers.{number}
use Rattle.topology.specs.Tree.{code, size}
use Rattle.topology.specs.Reader.{fault, tree}
use Rattle.regular_model.specs.Regular.{complete, leaves}
use Rattle.regular_model.specs.Depth.{LeastDepth}
use Rattle.text_templates.specs.Template.{bytes, filled}
use Rattle.text.specs.Text.{Puts}
use Rattle.script_lines.specs.Lines.{no_line}
use Rattle.script_setup.specs.declared.Ending.{Ending}
use Rattle.script_setup.specs.declared.Ending.TheVariants.{End, Refused, Compile}
use Rattle.script_setup.specs.Gathering.{gathered}

-- Whether this software can load the complete tree of depth k with d children at each inner node: the reader accepts its bytes as those of a target.
-- For d from 2 to 8 this is so if it has at most 64 nodes (`loadable-nodes` in proofs/Loadable).
unfoldable pub loadable : ℕ → ℕ → Bool
loadable d k = eqb (fault 64 (code (complete d k))) 0

-- the line of a chip before its numbers are filled in; a chip that cannot be loaded is marked
abbrev pub chip_text : Bool → List ℕ
chip_text true = bytes "d #: depth #, # nodes, # leaves\n"
chip_text false = bytes "d #: depth #, # nodes, # leaves, cannot be loaded by this software\n"

-- the line of that complete tree
unfoldable pub chip_line : ℕ → ℕ → List ℕ
chip_line d k = filled (chip_text (loadable d k)) (d ∷ k ∷ size (complete d k) ∷ leaves (complete d k) ∷ []) 0

-- the lines for n numbers of children from d on, by the depth for each
abbrev pub chip_lines : ℕ → ℕ → (ℕ → ℕ) → List ℕ
chip_lines zero d depth = []
chip_lines (suc n) d depth = chip_line d (depth d) ++ chip_lines n (suc d) depth

-- The text for a source, by its fault; `at` is the offset at which a fault is reported. The depths are unique (`depth_once` in
-- regular_model/proofs/Depth), and so is the text (`table_once` in proofs/TableOnce).
abbrev pub TableBy : ℕ → List ℕ → ℕ → List ℕ → Type 0
TableBy zero source at text =
    (depth : ℕ → ℕ) × ((d : ℕ) → 2 ≤ d → d ≤ 8 → LeastDepth (tree source) d (depth d)) × (text ≡ chip_lines 7 2 depth)
TableBy (suc f) source at text = text ≡ no_line (suc f) at

abbrev pub Table : List ℕ → ℕ → List ℕ → Type 0
Table source at text = TableBy (fault 32 source) source at text

-- How the setup of a script ends for buychip. An 04 is out of turn only if no limit was given (`unlimited` in proofs/Unlimited). Buychip needs no
-- limit, so it accepts such an 04.
abbrev pub ending : List ℕ → Ending → Ending
ending script End = End
ending script (Refused r at) = cond (eqb (get_or script at 0) 4) (Compile at) (Refused r at)
ending script (Compile at) = Compile at

-- The text by how the setup ends. Without an 04 a fault of the source is reported at the end of the script.
abbrev pub TextBy : Ending → List ℕ → List ℕ → List ℕ → Type 0
TextBy End script source text = Table source (length script) text
TextBy (Refused r at) script source text = text ≡ no_line (number r) at
TextBy (Compile at) script source text = Table source at text

-- the whole text of buychip
abbrev pub Prints : List ℕ → List ℕ → Type 0
Prints script text = TextBy (ending script (gathered script).ending) script (gathered script).source text

-- A text of which `Is` holds is put into a buffer at a place (`Puts` in text/specs/Text).
pub record Writes (Is : List ℕ → Type 0) (before : List ℕ) (at : ℕ) (after : List ℕ) (place : ℕ) : Type 0 where
  pub text : List ℕ
  pub is : Is text
  pub puts : Puts before at text after place

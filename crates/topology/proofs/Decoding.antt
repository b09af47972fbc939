-- The preorder bytes of a tree determine it, and `tree` reads them back; the bytes from node n on begin with the code of n's branch.
use mathlib.Core.Path.{◌≡◌, refl, sym, ap, ◌∙◌, subst}
use Prim.Native.Nat.{ℕ, zero, suc, ◌<◌}
use native.Mathlib.Nat.{not-suc-le-zero, le_of_suc-le-suc, add-zero}
use native.Mathlib.Numerals.{one-add}
use native.Mathlib.Omega.{arith}
use mathlib.Core.List.{List, [], ◌∷◌, ◌++◌, append_assoc, append-nil}
use lib.ListN.{length, get_or, length-append}
use Rattle.base.proofs.Part.{Part, part-append, part-behind, part-part, get_d_part}
use Rattle.topology.specs.Tree.{Topo, Forest, node, fnil, fcons, count, width, code, codes, size, sizes}
use Rattle.topology.specs.Address.{Addr, nth, In, sub, addr, ahead, num, subtree}
use Rattle.topology.specs.Reader.{first, others, forest, head, tree}
use Rattle.topology.proofs.Numbering.{addr_in, num-addr}
use Rattle.topology.proofs.Ancestry.{size_pos}

abbrev join : Forest → Forest → Forest
join fnil us = us
join (fcons t ts) us = fcons t (join ts us)

first_join : (ts us : Forest) → first (count ts) (join ts us) ≡ ts
first_join fnil us = refl
first_join (fcons t ts) us = ap (fcons t) (first_join ts us)

others-join : (ts us : Forest) → others (count ts) (join ts us) ≡ us
others-join fnil us = refl
others-join (fcons t ts) us = others-join ts us

mutual
  pub forest_code : (t : Topo) (bs : List ℕ) → forest (code t ++ bs) ≡ fcons t (forest bs)
  forest_code (node ts) bs = rw (forest_codes ts bs, first_join, others-join)

  forest_codes : (ts : Forest) (bs : List ℕ) → forest (codes ts ++ bs) ≡ join ts (forest bs)
  forest_codes fnil bs = refl
  forest_codes (fcons t ts) bs =
      ap forest (append_assoc (code t) (codes ts) bs) ∙ forest_code t (codes ts ++ bs) ∙ ap (fcons t) (forest_codes ts bs)

pub tree_code : (t : Topo) → tree (code t) ≡ t
unfolding tree
tree_code t = ap (λ (bs : List ℕ). head (forest bs)) (sym (append-nil (code t))) ∙ ap head (forest_code t [])

pub code_inj : (t u : Topo) → code t ≡ code u → t ≡ u
code_inj t u e = sym (tree_code t) ∙ ap tree e ∙ tree_code u

mutual
  pub length_code : (t : Topo) → length (code t) ≡ size t
  length_code (node ts) = ap suc (length_codes ts)

  length_codes : (ts : Forest) → length (codes ts) ≡ sizes ts
  length_codes fnil = refl
  length_codes (fcons t ts) = omega (arith, length-append (code t) (codes ts), length_code t, length_codes ts)

-- the code of a subtree is in the code of the tree, at the subtree's number
codes_nth : (ts : Forest) (i : ℕ) → i < count ts → Part (codes ts) (ahead ts i) (code (nth ts i))
codes_nth fnil i h = absurd (not-suc-le-zero h)
codes_nth (fcons t ts) zero h = part-append (code t) (codes ts)
codes_nth (fcons t ts) (suc i) h = rw (← length_code t) (part-behind (code t) (codes_nth ts i (le_of_suc-le-suc h)))

code_sub : (t : Topo) (a : Addr) → In t a → Part (code t) (num t a) (code (sub t a))
code_sub t [] i = rw append-nil at (part-append (code t) [])
code_sub t (zero ∷ a) i = absurd (not-suc-le-zero i.0)
code_sub (node ts) (suc i ∷ a) (p, l, r) =
    rw one-add at (part-behind (count ts ∷ []) (part-part (codes_nth ts i l) (code_sub (nth ts i) a r)))

pub code_at : (t : Topo) (n : ℕ) → n < size t → Part (code t) n (code (subtree t n))
code_at t n h = subst (λ (k : ℕ). Part (code t) k (code (subtree t n))) (num-addr t n h) (code_sub t (addr t n) (addr_in t n h))

-- byte n is node n's number of children
pub byte_width : (t : Topo) (n : ℕ) → n < size t → get_or (code t) n 0 ≡ width (subtree t n)
byte_width t n h =
    ap (λ (k : ℕ). get_or (code t) k 0) (sym (add-zero n))
    ∙ get_d_part (code_at t n h) 0 0 (omega (arith, length_code (subtree t n), size_pos (subtree t n)))
    ∙ first_byte (subtree t n)
  where
    first_byte : (t : Topo) → get_or (code t) 0 0 ≡ width t
    first_byte (node ts) = refl

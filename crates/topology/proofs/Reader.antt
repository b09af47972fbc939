-- The reader accepts exactly the codes of the trees within the limits.
--
-- It accepts them (`accepts`), by induction over trees: reading the code of a tree that fits reduces the debt by one and leaves the marks of the
-- branches that are then not complete. Conversely, bytes without fault owe nothing, so they draw one tree (`drawn`), and by the same induction over
-- that tree it is within the limits (`within`).
use mathlib.Core.Path.{◌≡◌, refl, sym, ap, ◌∙◌}
use mathlib.Core.Logic.{◌≢◌}
use Prim.Native.Nat.{ℕ, suc, ◌+◌, ◌≤◌, ◌<◌}
use native.Mathlib.Omega.{arith}
use mathlib.Core.List.{List, [], ◌∷◌, ◌++◌, append_assoc, append-nil}
use mathlib.Core.Bool.{Bool, true, false, cond}
use lib.ListN.{length}
use lib.Dec.{eqb, leb, ltb}
use borrow.Author.Tests.{eqb-false, leb-false, ltb-false, ne_eqb, lt-leb, le-ltb}
use Rattle.base.proofs.Refusals.{or_else_none}
use Rattle.topology.specs.Tree.{Topo, Forest, node, fnil, fcons, count, code, codes, size, sizes, height, heights, breadth, breadths}
use Rattle.topology.specs.Reader.{Within, pending, fault_at, fault_from, fault, tree}
use Rattle.topology.specs.Debt.{Accepted}
use Rattle.topology.proofs.Marks.{at_open, at_met}
use Rattle.topology.proofs.Forests.{draws-tree}
use Rattle.topology.proofs.Accepted.{nothing_owed, draws-begun}

-- a byte without fault
pub record Sound (limit n debt depth b : ℕ) : Type 0 where
  pub owed : 0 < debt
  pub nodes : n < limit
  pub children : b ≤ 8
  pub steps : depth ≤ 8

fault_at_none : (limit n debt depth b : ℕ) → Sound limit n debt depth b → fault_at limit n debt depth b ≡ 0
fault_at_none limit n debt depth b s =
    simp (ne_eqb debt 0 (omega arith), lt-leb limit n s.nodes, le-ltb 8 b s.children, le-ltb 8 depth s.steps)

pub sound : (limit n debt depth b : ℕ) → fault_at limit n debt depth b ≡ 0 → Sound limit n debt depth b
sound limit n debt depth b e = by_tests (eqb debt 0) (leb limit n) (ltb 8 b) (ltb 8 depth) refl refl refl refl e
  where
    by_tests : (w x y z : Bool) → eqb debt 0 ≡ w → leb limit n ≡ x → ltb 8 b ≡ y → ltb 8 depth ≡ z
        → ◌≡◌ {A = ℕ} (cond w 2 (cond x 3 (cond y 4 (cond z 5 0)))) 0 → Sound limit n debt depth b
    by_tests true x y z ew ex ey ez e = absurd (omega arith)
    by_tests false true y z ew ex ey ez e = absurd (omega arith)
    by_tests false false true z ew ex ey ez e = absurd (omega arith)
    by_tests false false false true ew ex ey ez e = absurd (omega arith)
    by_tests false false false false ew ex ey ez e =
        let owed : debt ≢ 0 = eqb-false debt 0 ew in
        omega (arith, leb-false limit n ex, ltb-false 8 b ey, ltb-false 8 depth ez)

-- What s nodes with at most b children each require, on h levels below a node at the given depth, where n nodes came before them.
record Room (limit n depth s b h : ℕ) : Type 0 where
  nodes : n + s ≤ limit
  children : b ≤ 8
  steps : depth + h ≤ 8

abbrev RoomFor : ℕ → ℕ → List ℕ → Topo → Type 0
RoomFor limit n marks t = Room limit n (length marks) (size t) (breadth t) (height t)

abbrev RoomsFor : ℕ → ℕ → List ℕ → Forest → Type 0
RoomsFor limit n marks ts = Room limit n (length marks) (sizes ts) (breadths ts) (heights ts)

-- the first fault of the bytes that are left, where the branches that are complete at the debt may still have marks
abbrev onward : ℕ → ℕ → ℕ → List ℕ → List ℕ → ℕ
onward limit n debt marks bs = fault_from limit n debt (pending debt marks) bs

-- the same for an equal n
onward_at : (limit debt : ℕ) (marks bs : List ℕ) {n m : ℕ} → n ≡ m → onward limit n debt marks bs ≡ onward limit m debt marks bs
onward_at limit debt marks bs e = ap (λ (m : ℕ). onward limit m debt marks bs) e

-- a branch before one of its children, and behind its last one
onward-open : (limit n k m : ℕ) (marks bs : List ℕ) → onward limit n (suc k + m) (m ∷ marks) bs ≡ fault_from limit n (suc (k + m)) (m ∷ marks) bs
onward-open limit n k m marks bs =
    at_open (λ (d : ℕ) (ms : List ℕ). fault_from limit n d ms bs ≡ fault_from limit n (suc (k + m)) (m ∷ marks) bs) k m marks refl

onward_met : (limit n m : ℕ) (marks bs : List ℕ) → onward limit n (0 + m) (m ∷ marks) bs ≡ onward limit n m marks bs
onward_met limit n m marks bs =
    at_met (λ (d : ℕ) (ms : List ℕ). fault_from limit n d ms bs ≡ onward limit n m marks bs) m marks refl

mutual
  accepts-tree : (t : Topo) (limit n m : ℕ) (marks bs : List ℕ) → RoomFor limit n marks t
      → fault_from limit n (suc m) marks (code t ++ bs) ≡ onward limit (n + size t) m marks bs
  accepts-tree (node ts) limit n m marks bs r =
      rw (fault_at_none limit n (suc m) (length marks) (count ts) (omega arith))
      (accepts-forest ts limit (suc n) m marks bs (omega arith) ∙ onward_at limit m marks bs (omega arith))

  accepts-forest : (ts : Forest) (limit n m : ℕ) (marks bs : List ℕ) → RoomsFor limit n marks ts
      → onward limit n (count ts + m) (m ∷ marks) (codes ts ++ bs) ≡ onward limit (n + sizes ts) m marks bs
  accepts-forest fnil limit n m marks bs r = onward_met limit n m marks bs ∙ onward_at limit m marks bs (omega arith)
  accepts-forest (fcons t ts) limit n m marks bs r =
      onward-open limit n (count ts) m marks ((code t ++ codes ts) ++ bs)
      ∙ ap (fault_from limit n (suc (count ts + m)) (m ∷ marks)) (append_assoc (code t) (codes ts) bs)
      ∙ accepts-tree t limit n (count ts + m) (m ∷ marks) (codes ts ++ bs) (omega arith)
      ∙ accepts-forest ts limit (n + size t) m marks bs (omega arith)
      ∙ onward_at limit m marks bs (omega arith)

mutual
  fits-tree : (t : Topo) (limit n m : ℕ) (marks bs : List ℕ) → fault_from limit n (suc m) marks (code t ++ bs) ≡ 0
      → RoomFor limit n marks t × (onward limit (n + size t) m marks bs ≡ 0)
  fits-tree (node ts) limit n m marks bs e =
      let o = or_else_none (fault_at limit n (suc m) (length marks) (count ts)) (onward limit (suc n) (count ts + m) (m ∷ marks) (codes ts ++ bs)) e in
      let s = sound limit n (suc m) (length marks) (count ts) o.0 in
      let r = fits-forest ts limit (suc n) m marks bs s.nodes s.steps o.1 in
      (omega (arith, s, r.0), sym (onward_at limit m marks bs (omega arith)) ∙ r.1)

  fits-forest : (ts : Forest) (limit n m : ℕ) (marks bs : List ℕ) → n ≤ limit → length marks ≤ 8
      → onward limit n (count ts + m) (m ∷ marks) (codes ts ++ bs) ≡ 0 → RoomsFor limit n marks ts × (onward limit (n + sizes ts) m marks bs ≡ 0)
  fits-forest fnil limit n m marks bs l d e =
      (omega arith, onward_at limit m marks bs (omega arith) ∙ sym (onward_met limit n m marks bs) ∙ e)
  fits-forest (fcons t ts) limit n m marks bs l d e =
      let f : fault_from limit n (suc (count ts + m)) (m ∷ marks) (code t ++ (codes ts ++ bs)) ≡ 0 =
      ap (fault_from limit n (suc (count ts + m)) (m ∷ marks)) (sym (append_assoc (code t) (codes ts) bs))
      ∙ sym (onward-open limit n (count ts) m marks ((code t ++ codes ts) ++ bs)) ∙ e in
      let a = fits-tree t limit n (count ts + m) (m ∷ marks) (codes ts ++ bs) f in
      let b = fits-forest ts limit (n + size t) m marks bs a.0.nodes d a.1 in
      (omega (arith, a.0, b.0), onward_at limit m marks bs (omega arith) ∙ b.1)

-- The bytes of a tree within the limits have no fault.
pub accepts : (limit : ℕ) (t : Topo) → Within limit t → fault limit (code t) ≡ 0
unfolding fault
accepts limit t w = ap (fault_from limit 0 1 []) (sym (append-nil (code t))) ∙ accepts-tree t limit 0 0 [] [] (omega arith)

-- Bytes without fault are the code of a tree within the limits, the one that `tree` gives.
pub drawn : (limit : ℕ) (bytes : List ℕ) → fault limit bytes ≡ 0 → code (tree bytes) ≡ bytes
drawn limit bytes e =
    let a : Accepted limit bytes = omega arith in
    let z = nothing_owed limit bytes e in
    let d = draws-begun limit bytes a in
    draws-tree bytes (rw (z, append-nil bytes) at d)

pub within : (limit : ℕ) (bytes : List ℕ) → fault limit bytes ≡ 0 → Within limit (tree bytes)
unfolding fault
within limit bytes e =
    let f : fault_from limit 0 1 [] (code (tree bytes) ++ []) ≡ 0 = rw append-nil (rw (drawn limit bytes e) e) in
    let r = fits-tree (tree bytes) limit 0 0 [] [] f in
    omega (arith, r.0)

-- Bytes without fault under one limit have none under a wider limit.
pub fault_wider : (limit wider : ℕ) (bytes : List ℕ) → limit ≤ wider → fault limit bytes ≡ 0 → fault wider bytes ≡ 0
fault_wider limit wider bytes h e =
    let w = within limit bytes e in
    let f = accepts wider (tree bytes) (record { nodes = omega (arith, w.nodes); children = w.children; steps = w.steps }) in
    rw (drawn limit bytes e) at f

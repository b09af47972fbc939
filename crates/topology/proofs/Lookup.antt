-- The meaning of the definitions over bytes where the bytes are the code of a tree: the end of a branch, the branch, the children, ancestry and the
-- child toward a node.
use mathlib.Core.Path.{◌≡◌, refl, sym, ap, ◌∙◌, subst}
use mathlib.Core.Logic.{◌≢◌}
use Prim.Native.Nat.{ℕ, zero, suc, ◌+◌, ◌-◌, ◌≤◌, ◌<◌}
use native.Mathlib.Nat.{zero-add, not-suc-le-zero}
use native.Mathlib.Decide.{dec_lt, ℕ_discrete}
use native.Mathlib.Omega.{arith}
use mathlib.Core.List.{List, ◌++◌, append_assoc}
use mathlib.Core.Bool.{Bool, true, false, ◌&&◌, cond}
use lib.ListN.{length, take, drop, get_or, get_or-eq_default}
use lib.Dec.{leb, ltb}
use borrow.Author.Tests.{leb-true, ltb-true, le-leb, lt-ltb}
use Rattle.base.proofs.Part.{drop-part, take_part}
use Rattle.base.proofs.Tests.{clash}
use Rattle.topology.specs.Tree.{Topo, Forest, node, fnil, fcons, count, width, code, codes, size, sizes}
use Rattle.topology.specs.Address.{Above, addr, subtree, child_of}
use Rattle.topology.specs.Reader.{fault, tree}
use Rattle.topology.specs.Branch.{span, branch_end, start, child_at, is_above, toward_from, toward_at, branch_part}
use Rattle.std.specs.Prelude.{Option, None, Some}
use Rattle.topology.specs.declared.Child.{Child}
use Rattle.topology.proofs.Numbering.{addr_in}
use Rattle.topology.proofs.Ancestry.{above_from, above_to, in_breadth}
use Rattle.topology.proofs.Children.{HasChild, child_of_lt, child_of_first, child_of_next, subtree-child_of, child-toward}
use Rattle.topology.proofs.Decoding.{code_at, length_code, byte_width}
use Rattle.topology.proofs.BranchEnd.{span-zero}
use Rattle.topology.proofs.Cases.{child_found, branch_there}
use Rattle.topology.proofs.Reader.{drawn, within}

mutual
  span_code : (t : Topo) (k : ℕ) (bs : List ℕ) → span (suc k) (code t ++ bs) ≡ size t + span k bs
  span_code (node ts) k bs = omega (arith, span_codes ts k bs)

  span_codes : (ts : Forest) (k : ℕ) (bs : List ℕ) → span (count ts + k) (codes ts ++ bs) ≡ sizes ts + span k bs
  span_codes fnil k bs = ap (λ (n : ℕ). span n bs) (zero-add k) ∙ sym (zero-add (span k bs))
  span_codes (fcons t ts) k bs =
      let e : suc (count ts) + k ≡ suc (count ts + k) = omega arith in
      ap (λ (n : ℕ). span n (codes (fcons t ts) ++ bs)) e
      ∙ ap (span (suc (count ts + k))) (append_assoc (code t) (codes ts) bs)
      ∙ omega (arith, span_code t (count ts + k) (codes ts ++ bs), span_codes ts k bs)

-- the branch under node n has as many nodes as the subtree there
pub end_code : (t : Topo) (n : ℕ) → n < size t → branch_end (code t) n ≡ n + size (subtree t n)
unfolding branch_end
end_code t n h =
    let p = code_at t n h in
    ap (λ (l : List ℕ). n + span 1 l) (drop-part p)
    ∙ omega (arith, span_code (subtree t n) 0 p.back, span-zero p.back)

-- The branch under a node of a valid topology is the code of the subtree there.
pub part_code : (bytes : List ℕ) (n : ℕ) → fault 64 bytes ≡ 0 → n < length bytes → branch_part bytes n ≡ code (subtree (tree bytes) n)
part_code bytes n e h = within-tree (tree bytes) (drawn 64 bytes e)
  where
    within-tree : (t : Topo) → code t ≡ bytes → branch_part bytes n ≡ code (subtree t n)
    within-tree t c =
        let l : n < size t = omega (arith, length_code t, ap length c) in
        let s : branch_end bytes n - n ≡ length (code (subtree t n)) =
        omega (arith, end_code t n l, ap (λ (bs : List ℕ). branch_end bs n) c, length_code (subtree t n)) in
        sym (branch_there bytes n (sym e) h (branch_end bytes n) refl).1
        ∙ ap (λ (k : ℕ). take k (drop n bytes)) s
        ∙ ap (λ (bs : List ℕ). take (length (code (subtree t n))) (drop n bs)) (sym c)
        ∙ take_part (code_at t n l)

-- child i of node n is where the code finds it
pub start_code : (t : Topo) (n i : ℕ) → n < size t → i < width (subtree t n) → start (code t) n i ≡ child_of t n (suc i)
start_code t n zero h g = sym (child_of_first t n h)
start_code t n (suc i) h g =
    let has : HasChild t n (suc i) = (h, omega arith, omega arith) in
    ap (branch_end (code t)) (start_code t n i h (omega arith))
    ∙ end_code t (child_of t n (suc i)) (child_of_lt t n (suc i) has)
    ∙ ap (λ (s : Topo). child_of t n (suc i) + size s) (subtree-child_of t n (suc i) has)
    ∙ sym (child_of_next t n (suc i) has)

pub child_code : (t : Topo) (n i : ℕ) → HasChild t n i → child_at (code t) n i ≡ Some (child_of t n i)
child_code t n zero h = absurd (not-suc-le-zero h.1)
child_code t n (suc i) h =
    let e : i ≡ suc i - 1 = omega arith in
    sym (child_found (code t) n (suc i) (suc i) (start (code t) n i) (ap (start (code t) n) e) refl (omega arith) (omega (arith, byte_width t n h.0, h.2)))
    ∙ ap Some (start_code t n i h.0 h.2)

-- and a node has no other children
pub child_there : (t : Topo) (n i m : ℕ) → child_at (code t) n i ≡ Some m → HasChild t n i
unfolding child_at
child_there t n zero m e = absurd (clash (cc))
child_there t n (suc i) m e = by_tests (ltb i (get_or (code t) n 0)) refl e (dec_lt n (size t))
  where
    by_tests : (b : Bool) → ltb i (get_or (code t) n 0) ≡ b → cond b (Some (start (code t) n i)) None ≡ Some m → Dec (n < size t) → HasChild t n (suc i)
    by_tests true q e (yes h) = (h, omega arith, omega (arith, ltb-true i (get_or (code t) n 0) q, byte_width t n h))
    by_tests true q e (no g) =
        let d = get_or-eq_default (code t) 0 {n = n} (omega (arith, length_code t)) in
        absurd (omega (arith, ltb-true i (get_or (code t) n 0) q))
    by_tests false q e d = absurd (clash (cc))

-- Some a is b or lies above it exactly where the code says so.
pub above_code : (t : Topo) (a b : ℕ) → a < size t → b < size t → Above (addr t a) (addr t b) → is_above (code t) a b ≡ true
unfolding is_above
above_code t a b h g u =
    let i = above_from t a b h g u in
    simp (le-leb a b i.0, lt-ltb b (branch_end (code t) a) (omega (arith, i.1, end_code t a h)))

pub code_above : (t : Topo) (a b : ℕ) → a < size t → is_above (code t) a b ≡ true → Above (addr t a) (addr t b)
unfolding is_above
code_above t a b h e = by_tests (leb a b) (ltb b (branch_end (code t) a)) refl refl e
  where
    by_tests : (x y : Bool) → leb a b ≡ x → ltb b (branch_end (code t) a) ≡ y → x && y ≡ true → Above (addr t a) (addr t b)
    by_tests true true p q e = above_to t a b h (leb-true a b p) (omega (arith, ltb-true b (branch_end (code t) a) q, end_code t a h))
    by_tests true false p q e = absurd (clash (cc))
    by_tests false y p q e = absurd (clash (cc))

-- Child i of node x is node n, which is node y or lies above it.
pub record IsToward (t : Topo) (x y i n : ℕ) : Type 0 where
  pub has : HasChild t x i
  pub node : n ≡ child_of t x i
  pub above : Above (addr t n) (addr t y)

-- the answer is such a child
abbrev pub Leads : Topo → ℕ → ℕ → Option Child → Type 0
Leads t x y (Some c) = IsToward t x y c.number c.node
Leads t x y None = ⊥

-- The children are tried in order, and child `last` is y or lies above it. So one is found there at the latest.
module _ (t : Topo) (x y last : ℕ) (has : HasChild t x last) (below : y < size t) (above : Above (addr t (child_of t x last)) (addr t y)) where
  module _ (i : ℕ) (l : i < last) where
    here : HasChild t x (suc i)
    here = (has.0, omega arith, omega (arith, has.2))

    at : start (code t) x i ≡ child_of t x (suc i)
    at = start_code t x i has.0 here.2

    further : is_above (code t) (start (code t) x i) y ≡ false → suc i < last
    further e = by_last (ℕ_discrete (suc i) last)
      where
        by_last : Dec (suc i ≡ last) → suc i < last
        by_last (yes q) =
            let is = above_code t (child_of t x last) y (child_of_lt t x last has) below above in
            let same = ap (λ (n : ℕ). is_above (code t) n y) (at ∙ ap (child_of t x) q) in
            absurd (clash (cc))
        by_last (no q) = omega arith

    toward_by : (k : ℕ) (b : Bool) → is_above (code t) (start (code t) x i) y ≡ b
        → (suc i < last → Leads t x y (toward_from (code t) x y (suc i) k))
        → Leads t x y (cond b (Some (record { number = suc i; node = start (code t) x i })) (toward_from (code t) x y (suc i) k))
    toward_by k true e rest =
        let lt : start (code t) x i < size t = omega (arith, at, child_of_lt t x (suc i) here) in
        record { has = here; node = at; above = code_above t (start (code t) x i) y lt e }
    toward_by k false e rest = rest (further e)

  toward_from_lem : (i k : ℕ) → i + k ≡ width (subtree t x) → i < last → Leads t x y (toward_from (code t) x y i k)
  toward_from_lem i zero s l = absurd (omega (arith, has.2))
  toward_from_lem i (suc k) s l = toward_by i l k (is_above (code t) (start (code t) x i) y) refl (toward_from_lem (suc i) k (omega arith))

-- A node strictly above y has a child that is y or lies above it, and the code finds it.
pub toward_code : (t : Topo) (x y : ℕ) → x < size t → y < size t → Above (addr t x) (addr t y) → x ≢ y → Leads t x y (toward_at (code t) x y)
unfolding toward_at
toward_code t x y h g a n =
    let c = child-toward t x y h g a n in
    toward_from_lem t x y c.0 c.1 g c.2 0 (get_or (code t) x 0) (omega (arith, byte_width t x h)) c.1.1

-- ---- the same for valid bytes

module _ (limit : ℕ) (bytes : List ℕ) (e : fault limit bytes ≡ 0) where
  pub valid_size : size (tree bytes) ≡ length bytes
  valid_size = sym (length_code (tree bytes)) ∙ ap length (drawn limit bytes e)

  pub valid_length : length bytes ≤ limit
  valid_length = omega (arith, valid_size, (within limit bytes e).nodes)

  pub valid_width : (n : ℕ) → n < length bytes → width (subtree (tree bytes) n) ≡ get_or bytes n 0
  valid_width n h =
      sym (byte_width (tree bytes) n (omega (arith, valid_size))) ∙ ap (λ (bs : List ℕ). get_or bs n 0) (drawn limit bytes e)

  pub valid_byte : (n : ℕ) → get_or bytes n 0 ≤ 8
  valid_byte n = by_length (dec_lt n (length bytes))
    where
      by_length : Dec (n < length bytes) → get_or bytes n 0 ≤ 8
      by_length (yes h) =
          let i = addr_in (tree bytes) n (omega (arith, valid_size)) in
          omega (arith, valid_width n h, in_breadth (tree bytes) (addr (tree bytes) n) i, (within limit bytes e).children)
      by_length (no h) = omega (arith, get_or-eq_default bytes 0 {n = n} (omega arith))

  module _ (n i : ℕ) (h : n < length bytes) (g : i < get_or bytes n 0) where
    valid_has : HasChild (tree bytes) n (suc i)
    valid_has = (omega (arith, valid_size), omega arith, omega (arith, valid_width n h))

    pub valid_start : start bytes n i ≡ child_of (tree bytes) n (suc i)
    valid_start =
        ap (λ (bs : List ℕ). start bs n i) (sym (drawn limit bytes e))
        ∙ start_code (tree bytes) n i valid_has.0 valid_has.2

    pub start_lt : start bytes n i < length bytes
    start_lt = omega (arith, valid_start, child_of_lt (tree bytes) n (suc i) valid_has, valid_size)

  -- a child that the bytes have, and one that they do not have
  pub valid_child : (n c next : ℕ) → child_at bytes n c ≡ Some next → HasChild (tree bytes) n c × (next ≡ child_of (tree bytes) n c)
  valid_child n c next f =
      let g : child_at (code (tree bytes)) n c ≡ Some next = ap (λ (bs : List ℕ). child_at bs n c) (drawn limit bytes e) ∙ f in
      let h = child_there (tree bytes) n c next g in
      (h, same_node (sym g ∙ child_code (tree bytes) n c h))
    where
      same_node : {a b : ℕ} → Some a ≡ Some b → a ≡ b
      same_node q = cc

  pub valid_missing : (n c : ℕ) → child_at bytes n c ≡ None → HasChild (tree bytes) n c → ⊥
  valid_missing n c f h =
      apart (sym f ∙ ap (λ (bs : List ℕ). child_at bs n c) (sym (drawn limit bytes e)) ∙ child_code (tree bytes) n c h)
    where
      apart : {a : ℕ} → None ≡ Some a → ⊥
      apart q = clash (cc)

  pub valid_toward : (x y : ℕ) → x < length bytes → y < length bytes → Above (addr (tree bytes) x) (addr (tree bytes) y) → x ≢ y
      → Leads (tree bytes) x y (toward_at bytes x y)
  valid_toward x y h g a n =
      subst (λ (bs : List ℕ). Leads (tree bytes) x y (toward_at bs x y)) (drawn limit bytes e)
      (toward_code (tree bytes) x y (omega (arith, valid_size)) (omega (arith, valid_size)) a n)

-- The reader as it was before request 2.4, which counted the owed nodes level by level, and the proof that every topology and every fault is read as
-- before (`reads_as_before`). The levels correspond to a debt, the sum over all levels, and to marks, for each level except the last the nodes owed
-- behind it. To skip complete levels is to skip the marks that the debt has reached.
use mathlib.Core.Path.{◌≡◌, refl, sym, ap, ap₂, ◌∙◌}
use Prim.Native.Nat.{ℕ, zero, suc, pred, ◌+◌, ◌<◌}
use native.Mathlib.Decide.{dec_lt}
use native.Mathlib.Omega.{arith}
use mathlib.Core.List.{List, [], ◌∷◌}
use mathlib.Core.Bool.{Bool, cond}
use lib.ListN.{length}
use lib.Dec.{leb, ltb, eqb}
use borrow.Author.Tests.{lt-ltb, le-ltb, ne_eqb}
use Rattle.base.specs.Sum.{sum}
use Rattle.base.specs.Refusals.{or_else}
use Rattle.topology.specs.Reader.{owing, pending, marking, fault_at, fault_from, fault}

-- ---- the reader before request 2.4

-- The owed nodes are counted level by level, the deepest first; at the start only the root is owed. So the next node belongs to the first level, and
-- its depth is the number of levels behind that one. The first level is never complete.
abbrev settle : List ℕ → List ℕ
settle [] = []
settle (zero ∷ ks) = settle ks
settle (suc k ∷ ks) = suc k ∷ ks

-- what is owed after the next node, which has b children
abbrev after : ℕ → List ℕ → List ℕ
after b [] = []
after b (k ∷ ks) = settle (b ∷ pred k ∷ ks)

-- the fault of byte b, the first in the order of the tests, where n nodes came before it and nodes are owed at so many levels; 0: none
abbrev fault_by_levels_at : ℕ → ℕ → ℕ → ℕ → ℕ
fault_by_levels_at limit n levels b = cond (eqb levels 0) 2 (cond (leb limit n) 3 (cond (ltb 8 b) 4 (cond (ltb 9 levels) 5 0)))

-- the first fault of the bytes that are left
abbrev fault_by_levels_from : ℕ → ℕ → List ℕ → List ℕ → ℕ
fault_by_levels_from limit n owed [] = cond (eqb (length owed) 0) 0 1
fault_by_levels_from limit n owed (b ∷ bs) =
    let rest = fault_by_levels_from limit (suc n) (after b owed) bs in or_else (fault_by_levels_at limit n (length owed) b) rest

pub fault_by_levels : ℕ → List ℕ → ℕ
fault_by_levels limit bytes = fault_by_levels_from limit 0 (1 ∷ []) bytes

-- ---- the reader now

-- the first level is not complete
abbrev Settled : List ℕ → Type 0
Settled [] = Unit
Settled (zero ∷ ks) = ⊥
Settled (suc k ∷ ks) = Unit

settled : (ks : List ℕ) → Settled (settle ks)
settled [] = tt
settled (zero ∷ ks) = settled ks
settled (suc k ∷ ks) = tt

-- the marks that correspond to nodes owed level by level
abbrev marks_of : List ℕ → List ℕ
marks_of [] = []
marks_of (k ∷ []) = []
marks_of (k ∷ j ∷ ks) = sum (j ∷ ks) ∷ marks_of (j ∷ ks)

marks_length : (k : ℕ) (ks : List ℕ) → length (marks_of (k ∷ ks)) ≡ length ks
marks_length k [] = refl
marks_length k (j ∷ ks) = ap suc (marks_length j ks)

-- the marks do not depend on the number of nodes owed at the first level
marks_first : (k j : ℕ) (ks : List ℕ) → marks_of (k ∷ ks) ≡ marks_of (j ∷ ks)
marks_first k j [] = refl
marks_first k j (i ∷ ks) = refl

settle-sum : (ks : List ℕ) → sum (settle ks) ≡ sum ks
settle-sum [] = refl
settle-sum (zero ∷ ks) = omega (arith, settle-sum ks)
settle-sum (suc k ∷ ks) = refl

settle_marks : (k : ℕ) (ks : List ℕ) → marks_of (settle (k ∷ ks)) ≡ pending (sum (k ∷ ks)) (marks_of (k ∷ ks))
settle_marks zero [] = refl
settle_marks (suc k) [] = refl
settle_marks zero (j ∷ ks) =
    let e : sum (j ∷ ks) ≡ 0 + sum (j ∷ ks) = omega arith in
    rw (le-ltb (sum (j ∷ ks)) (0 + sum (j ∷ ks)) (omega arith))
    (settle_marks j ks ∙ ap (λ (n : ℕ). pending n (marks_of (j ∷ ks))) e)
settle_marks (suc k) (j ∷ ks) = rw (lt-ltb (sum (j ∷ ks)) (suc k + sum (j ∷ ks)) (omega arith))

same_fault : (limit n b k : ℕ) (ks : List ℕ)
    → fault_at limit n (sum (suc k ∷ ks)) (length (marks_of (suc k ∷ ks))) b ≡ fault_by_levels_at limit n (suc (length ks)) b
same_fault limit n b k ks =
    rw (ne_eqb (suc k + sum ks) 0 (omega arith), ne_eqb (suc (length ks)) 0 (omega arith), marks_length (suc k) ks)
    (ap (λ (t : Bool). cond (leb limit n) 3 (cond (ltb 8 b) 4 (cond {A = ℕ} t 5 0))) (deeper (dec_lt 8 (length ks))))
  where
    deeper : Dec (8 < length ks) → ltb 8 (length ks) ≡ ltb 9 (suc (length ks))
    deeper (yes l) = lt-ltb 8 (length ks) l ∙ sym (lt-ltb 9 (suc (length ks)) (omega arith))
    deeper (no l) = le-ltb 8 (length ks) (omega arith) ∙ sym (le-ltb 9 (suc (length ks)) (omega arith))

same_next : (b k : ℕ) (ks : List ℕ) → marking (sum (suc k ∷ ks)) (marks_of (suc k ∷ ks)) b ≡ marks_of (settle (b ∷ k ∷ ks))
same_next b k ks =
    let owed : owing (suc k + sum ks) b ≡ sum (b ∷ k ∷ ks) = omega arith in
    let less : pred (suc k + sum ks) ≡ sum (k ∷ ks) = omega arith in
    ap₂ (λ (x y : ℕ). pending x (y ∷ marks_of (suc k ∷ ks))) owed less
    ∙ ap (λ (ms : List ℕ). pending (sum (b ∷ k ∷ ks)) (sum (k ∷ ks) ∷ ms)) (marks_first (suc k) k ks)
    ∙ sym (settle_marks b (k ∷ ks))

same_from : (limit n : ℕ) (ks bs : List ℕ) → Settled ks → fault_from limit n (sum ks) (marks_of ks) bs ≡ fault_by_levels_from limit n ks bs
same_from limit n [] [] s = refl
same_from limit n (zero ∷ ks) [] s = absurd s
same_from limit n (suc k ∷ ks) [] s = rw (ne_eqb (suc k + sum ks) 0 (omega arith), ne_eqb (suc (length ks)) 0 (omega arith))
same_from limit n [] (b ∷ bs) s = refl
same_from limit n (zero ∷ ks) (b ∷ bs) s = absurd s
same_from limit n (suc k ∷ ks) (b ∷ bs) s =
    let owed : owing (suc k + sum ks) b ≡ sum (b ∷ k ∷ ks) = omega arith in
    ap₂ or_else (same_fault limit n b k ks)
    (ap₂ (λ (x : ℕ) (ms : List ℕ). fault_from limit (suc n) x ms bs) (owed ∙ sym (settle-sum (b ∷ k ∷ ks))) (same_next b k ks)
    ∙ same_from limit (suc n) (settle (b ∷ k ∷ ks)) bs (settled (b ∷ k ∷ ks)))

-- Every topology and every fault reads as before.
pub reads_as_before : (limit : ℕ) (bytes : List ℕ) → fault limit bytes ≡ fault_by_levels limit bytes
unfolding fault fault_by_levels
reads_as_before limit bytes = same_from limit 0 (1 ∷ []) bytes tt

-- The marks of the branches that are not complete, by the index of the first; and a bound on the debt.
use mathlib.Core.Path.{◌≡◌, refl, sym, subst}
use Prim.Native.Nat.{ℕ, suc, pred, ◌+◌, ◌*◌, ◌≤◌}
use native.Mathlib.Nat.{zero-add, suc-add}
use native.Mathlib.Numerals.{add-one}
use native.Mathlib.Omega.{arith}
use mathlib.Core.List.{List, [], ◌∷◌}
use mathlib.Core.Bool.{Bool, true, false, cond}
use lib.ListN.{length, drop}
use lib.Dec.{ltb}
use borrow.Author.Tests.{lt-ltb, le-ltb, ltb-false}
use Rattle.topology.specs.Reader.{pending, owing, marking}

-- the branch with mark m is complete when the debt is m, and not complete when the debt is greater
pub mark_met : (m : ℕ) (ms : List ℕ) → pending m (m ∷ ms) ≡ pending m ms
mark_met m ms = rw (le-ltb m m (omega arith))

pub mark-open : (k m : ℕ) (ms : List ℕ) → pending (suc (k + m)) (m ∷ ms) ≡ m ∷ ms
mark-open k m ms = rw (lt-ltb m (suc (k + m)) (omega arith))

-- a fact of the debt and of the marks that are left of it, before a child is read and behind the last one
pub at_open : (P : ℕ → List ℕ → Type 0) (k m : ℕ) (ms : List ℕ) → P (suc (k + m)) (m ∷ ms) → P (suc k + m) (pending (suc k + m) (m ∷ ms))
at_open P k m ms h =
    subst (λ (d : ℕ). P d (pending d (m ∷ ms))) (sym (suc-add k m)) (subst (P (suc (k + m))) (sym (mark-open k m ms)) h)

pub at_met : (P : ℕ → List ℕ → Type 0) (m : ℕ) (ms : List ℕ) → P m (pending m ms) → P (0 + m) (pending (0 + m) (m ∷ ms))
at_met P m ms h = subst (λ (d : ℕ). P d (pending d (m ∷ ms))) (sym (zero-add m)) (subst (P m) (sym (mark_met m ms)) h)

-- ---- by index

-- how many marks stand in front of the first that is less than the debt
abbrev pub met : ℕ → List ℕ → ℕ
met debt [] = 0
met debt (m ∷ ms) = cond (ltb m debt) 0 (met debt ms + 1)

pub drop_met : (debt : ℕ) (marks : List ℕ) → drop (met debt marks) marks ≡ pending debt marks
drop_met debt [] = refl
drop_met debt (m ∷ ms) = by_test (ltb m debt) (drop_met debt ms)
  where
    by_test : (t : Bool) → drop (met debt ms) ms ≡ pending debt ms
        → drop (cond t 0 (met debt ms + 1)) (m ∷ ms) ≡ cond t (m ∷ ms) (pending debt ms)
    by_test true e = refl
    by_test false e = rw (add-one (met debt ms)) e

pub met_bound : (debt : ℕ) (marks : List ℕ) → met debt marks ≤ length marks
met_bound debt [] = omega arith
met_bound debt (m ∷ ms) = by_test (ltb m debt) (met_bound debt ms)
  where
    by_test : (t : Bool) → met debt ms ≤ length ms → cond t 0 (met debt ms + 1) ≤ suc (length ms)
    by_test true h = omega arith
    by_test false h = omega arith

-- ---- a bound on the debt

-- A node has at most 8 children: the debt is at most 8 above the first mark, and each mark at most 8 above the next.
abbrev pub Bounded : ℕ → List ℕ → Type 0
Bounded debt [] = debt ≤ 1
Bounded debt (m ∷ ms) = (debt ≤ m + 8) × Bounded m ms

pub bounded_most : (debt : ℕ) (marks : List ℕ) → Bounded debt marks → debt ≤ 1 + 8 * length marks
bounded_most debt [] b = omega arith
bounded_most debt (m ∷ ms) b = omega (arith, b.0, bounded_most m ms b.1)

bounded_less : (less debt : ℕ) (marks : List ℕ) → less ≤ debt → Bounded debt marks → Bounded less marks
bounded_less less debt [] l b = omega arith
bounded_less less debt (m ∷ ms) l b = (omega (arith, b.0), b.1)

bounded_pending : (debt : ℕ) (marks : List ℕ) → Bounded debt marks → Bounded debt (pending debt marks)
bounded_pending debt [] b = b
bounded_pending debt (m ∷ ms) b = by_test (ltb m debt) refl (λ l. bounded_pending debt ms (bounded_less debt m ms l b.1))
  where
    by_test : (t : Bool) → ltb m debt ≡ t → (debt ≤ m → Bounded debt (pending debt ms)) → Bounded debt (cond t (m ∷ ms) (pending debt ms))
    by_test true e r = b
    by_test false e r = r (ltb-false m debt e)

pub bounded_marking : (debt : ℕ) (marks : List ℕ) (b : ℕ) → b ≤ 8 → Bounded debt marks → Bounded (owing debt b) (marking debt marks b)
bounded_marking debt marks b h r =
    bounded_pending (owing debt b) (pred debt ∷ marks) (omega arith, bounded_less (pred debt) debt marks (omega arith) r)

-- Accepted bytes. The reader continues after them with the debt and the marks that they leave (`goes_on`). They are refused, by 1, exactly where nodes
-- are still owed (`accepted-fault`). Bytes before accepted ones are accepted (`accepted_before`), and the first byte that is not accepted determines
-- the fault (`first_decides`). Accepted bytes begin the code of some tree (`begins-tree`): as many leaves as are owed complete it.
use mathlib.Core.Path.{◌≡◌, refl, sym, ap, ◌∙◌}
use Prim.Native.Nat.{ℕ, zero, suc, ◌+◌, ◌≤◌, ◌<◌}
use native.Mathlib.Nat.{add-zero, zero-add}
use native.Mathlib.Omega.{arith}
use mathlib.Core.List.{List, [], ◌∷◌, ◌++◌, append-nil}
use mathlib.Core.Bool.{Bool, true, false, cond}
use lib.ListN.{length, replicate}
use lib.Dec.{eqb, leb, ltb, eqb-suc-zero}
use Rattle.base.specs.Refusals.{or_else}
use Rattle.base.proofs.Refusals.{or_else_same, cond_most}
use Rattle.topology.specs.Tree.{code}
use Rattle.topology.specs.Reader.{owing, marking, fault_at, fault_from, fault, tree}
use Rattle.topology.specs.Debt.{debt_after, marks_after, Accepted}
use Rattle.topology.proofs.Forests.{Draws, draws_node, draws-leaves, draws-tree}

-- an accepted byte has no fault, and the bytes after it are accepted
pub accepted_byte : (limit n debt : ℕ) (marks : List ℕ) (b : ℕ) (bs : List ℕ) → fault_from limit n debt marks (b ∷ bs) ≤ 1
    → (fault_at limit n debt (length marks) b ≡ 0) × (fault_from limit (suc n) (owing debt b) (marking debt marks b) bs ≤ 1)
accepted_byte limit n debt marks b bs h =
    by_tests (eqb debt 0) (leb limit n) (ltb 8 b) (ltb 8 (length marks)) (fault_from limit (suc n) (owing debt b) (marking debt marks b) bs) h
  where
    by_tests : (w x y z : Bool) (rest : ℕ) → or_else (cond w 2 (cond x 3 (cond y 4 (cond z 5 0)))) rest ≤ 1
        → (◌≡◌ {A = ℕ} (cond w 2 (cond x 3 (cond y 4 (cond z 5 0)))) 0) × (rest ≤ 1)
    by_tests true x y z rest h = absurd (omega arith)
    by_tests false true y z rest h = absurd (omega arith)
    by_tests false false true z rest h = absurd (omega arith)
    by_tests false false false true rest h = absurd (omega arith)
    by_tests false false false false rest h = (refl, h)

-- ---- after each byte

goes_on_from : (limit n debt : ℕ) (marks bs cs : List ℕ) → fault_from limit n debt marks bs ≤ 1
    → fault_from limit n debt marks (bs ++ cs) ≡ fault_from limit (n + length bs) (debt_after debt bs) (marks_after debt marks bs) cs
goes_on_from limit n debt marks [] cs h = ap (λ (k : ℕ). fault_from limit k debt marks cs) (sym (add-zero n))
goes_on_from limit n debt marks (b ∷ bs) cs h =
    let a = accepted_byte limit n debt marks b bs h in
    let e : suc n + length bs ≡ n + suc (length bs) = omega arith in
    rw a.0
    (goes_on_from limit (suc n) (owing debt b) (marking debt marks b) bs cs a.1
    ∙ ap (λ (k : ℕ). fault_from limit k (debt_after (owing debt b) bs) (marks_after (owing debt b) (marking debt marks b) bs) cs) e)

pub goes_on : (limit : ℕ) (bytes rest : List ℕ) → Accepted limit bytes
    → fault limit (bytes ++ rest) ≡ fault_from limit (length bytes) (debt_after 1 bytes) (marks_after 1 [] bytes) rest
unfolding fault
goes_on limit bytes rest h =
    goes_on_from limit 0 1 [] bytes rest h
    ∙ ap (λ (k : ℕ). fault_from limit k (debt_after 1 bytes) (marks_after 1 [] bytes) rest) (zero-add (length bytes))

-- so accepted bytes are refused, by 1, exactly where nodes are still owed
pub accepted-fault : (limit : ℕ) (bytes : List ℕ) → Accepted limit bytes → fault limit bytes ≡ cond (eqb (debt_after 1 bytes) 0) 0 1
accepted-fault limit bytes h = ap (fault limit) (sym (append-nil bytes)) ∙ goes_on limit bytes [] h

pub nothing_owed : (limit : ℕ) (bytes : List ℕ) → fault limit bytes ≡ 0 → debt_after 1 bytes ≡ 0
nothing_owed limit bytes e = by_debt (debt_after 1 bytes) (sym (accepted-fault limit bytes (omega arith)) ∙ e)
  where
    by_debt : (debt : ℕ) → ◌≡◌ {A = ℕ} (cond (eqb debt 0) 0 1) 0 → debt ≡ 0
    by_debt zero e = refl
    by_debt (suc m) e = absurd (omega (arith, rw (eqb-suc-zero m) at e))

before_from : (limit n debt : ℕ) (marks bs cs : List ℕ) → fault_from limit n debt marks (bs ++ cs) ≤ 1 → fault_from limit n debt marks bs ≤ 1
before_from limit n debt marks [] cs h = cond_most 1 (eqb debt 0) 0 1 (omega arith) (omega arith)
before_from limit n debt marks (b ∷ bs) cs h =
    let a = accepted_byte limit n debt marks b (bs ++ cs) h in
    rw a.0 (before_from limit (suc n) (owing debt b) (marking debt marks b) bs cs a.1)

pub accepted_before : (limit : ℕ) (bytes rest : List ℕ) → Accepted limit (bytes ++ rest) → Accepted limit bytes
unfolding fault
accepted_before limit bytes rest h = before_from limit 0 1 [] bytes rest h

decides_from : (limit n debt : ℕ) (marks bs cs : List ℕ) → 1 < fault_from limit n debt marks bs
    → fault_from limit n debt marks (bs ++ cs) ≡ fault_from limit n debt marks bs
decides_from limit n debt marks [] cs h = absurd (omega (arith, cond_most 1 (eqb debt 0) 0 1 (omega arith) (omega arith)))
decides_from limit n debt marks (b ∷ bs) cs h =
    let rest : List ℕ → ℕ = fault_from limit (suc n) (owing debt b) (marking debt marks b) in
    or_else_same (fault_at limit n debt (length marks) b) (rest (bs ++ cs)) (rest bs)
    (λ z. decides_from limit (suc n) (owing debt b) (marking debt marks b) bs cs (rw z at h))

pub first_decides : (limit : ℕ) (bytes rest : List ℕ) → (Accepted limit bytes → ⊥) → fault limit (bytes ++ rest) ≡ fault limit bytes
unfolding fault
first_decides limit bytes rest h = decides_from limit 0 1 [] bytes rest (omega arith)

-- accepted bytes, followed by as many leaves as are still owed, draw as many trees as were owed before them
begins_from : (limit n debt : ℕ) (marks bs : List ℕ) → fault_from limit n debt marks bs ≤ 1 → Draws (bs ++ replicate (debt_after debt bs) 0) debt
begins_from limit n debt marks [] h = draws-leaves debt
begins_from limit n zero marks (b ∷ bs) h = absurd (omega arith)
begins_from limit n (suc m) marks (b ∷ bs) h =
    let a = accepted_byte limit n (suc m) marks b bs h in
    let next = owing (suc m) b in
    draws_node b m (bs ++ replicate (debt_after next bs) 0) (begins_from limit (suc n) next (marking (suc m) marks b) bs a.1)

pub draws-begun : (limit : ℕ) (bytes : List ℕ) → Accepted limit bytes → Draws (bytes ++ replicate (debt_after 1 bytes) 0) 1
unfolding fault
draws-begun limit bytes h = begins_from limit 0 1 [] bytes h

pub begins-tree : (limit : ℕ) (bytes : List ℕ) → Accepted limit bytes → (rest : List ℕ) × (code (tree (bytes ++ rest)) ≡ bytes ++ rest)
begins-tree limit bytes h =
    let leaves : List ℕ = replicate (debt_after 1 bytes) 0 in
    (leaves, draws-tree (bytes ++ leaves) (draws-begun limit bytes h))

-- The running debt, as in paper 02, 2.4. After accepted bytes, and so after each accepted byte (proofs/Accepted), it is one plus the child counts read
-- so far, minus the number of bytes read (`debt_value`). The tree is complete, that is, the bytes are the code of a tree, exactly when the debt is 0
-- (`debt_complete`).
use mathlib.Core.Path.{◌≡◌, refl, sym, ap, ◌∙◌}
use mathlib.Core.Logic.{◌↔◌}
use Prim.Native.Nat.{ℕ, suc, ◌+◌, ◌≤◌}
use native.Mathlib.Omega.{arith}
use mathlib.Core.List.{List, [], ◌∷◌, ◌++◌, append_assoc, append-nil}
use lib.ListN.{length}
use borrow.Author.Tests.{eq-eqb}
use Rattle.base.specs.Sum.{sum}
use Rattle.topology.specs.Tree.{Topo, Forest, node, fnil, fcons, count, code, codes}
use Rattle.topology.specs.Reader.{owing, pending, marking, fault_from, fault, tree}
use Rattle.topology.specs.Debt.{debt_after, marks_after, Accepted}
use Rattle.topology.proofs.Marks.{at_open, at_met}
use Rattle.topology.proofs.Accepted.{accepted_byte, accepted-fault}
use Rattle.topology.proofs.Reader.{sound, drawn}

-- ---- the value

value_from : (limit n debt : ℕ) (marks bs : List ℕ) → fault_from limit n debt marks bs ≤ 1 → debt_after debt bs + length bs ≡ debt + sum bs
value_from limit n debt marks [] h = refl
value_from limit n debt marks (b ∷ bs) h =
    let a = accepted_byte limit n debt marks b bs h in
    let s = sound limit n debt (length marks) b a.0 in
    omega (arith, s.owed, value_from limit (suc n) (owing debt b) (marking debt marks b) bs a.1)

pub debt_value : (limit : ℕ) (bytes : List ℕ) → Accepted limit bytes → debt_after 1 bytes + length bytes ≡ 1 + sum bytes
unfolding fault
debt_value limit bytes h = value_from limit 0 1 [] bytes h

-- ---- after the code of a tree

-- bs read from debt d and marks ms leave the same debt and marks as cs read from e and ns
abbrev pub LeadAlike : ℕ → List ℕ → List ℕ → ℕ → List ℕ → List ℕ → Type 0
LeadAlike d ms bs e ns cs = (debt_after d bs ≡ debt_after e cs) × (marks_after d ms bs ≡ marks_after e ns cs)

-- The code of a tree takes one from the debt and leaves the marks of the branches that are then not complete.
mutual
  pub past_tree : (t : Topo) (m : ℕ) (ms bs : List ℕ) → LeadAlike (suc m) ms (code t ++ bs) m (pending m ms) bs
  past_tree (node ts) m ms bs = past_forest ts m ms bs

  past_forest : (ts : Forest) (m : ℕ) (ms bs : List ℕ)
      → LeadAlike (count ts + m) (pending (count ts + m) (m ∷ ms)) (codes ts ++ bs) m (pending m ms) bs
  past_forest fnil m ms bs = at_met (λ (d : ℕ) (ns : List ℕ). LeadAlike d ns bs m (pending m ms) bs) m ms (refl, refl)
  past_forest (fcons t ts) m ms bs =
      let a = past_tree t (count ts + m) (m ∷ ms) (codes ts ++ bs) in
      let b = past_forest ts m ms bs in
      at_open (λ (d : ℕ) (ns : List ℕ). LeadAlike d ns ((code t ++ codes ts) ++ bs) m (pending m ms) bs) (count ts) m ms
      (rw (append_assoc (code t) (codes ts) bs) (a.0 ∙ b.0, a.1 ∙ b.1))

-- ---- the tree is complete

pub debt_complete : (limit : ℕ) (bytes : List ℕ) → Accepted limit bytes → ((t : Topo) × (code t ≡ bytes)) ↔ (debt_after 1 bytes ≡ 0)
debt_complete limit bytes h = (
  λ d. ap (debt_after 1) (sym (append-nil (code d.0) ∙ d.1)) ∙ (past_tree d.0 0 [] []).0,
  λ z. (tree bytes, drawn limit bytes (accepted-fault limit bytes h ∙ rw (eq-eqb (debt_after 1 bytes) 0 z))),
)

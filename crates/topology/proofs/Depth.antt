-- The depth of the next node: it is the number of marks (`depth_next`). So refusal 5 is for a node 9 steps down.
--
-- In a forest, behind its first trees, reading goes on as in the tree at that index (`in_forest`). The law follows by induction along the way down to
-- a node. The debt alone does not determine the depth (`depth-apart`).
use mathlib.Core.Path.{◌≡◌, refl, sym, ap, ◌∙◌}
use Prim.Native.Nat.{ℕ, zero, suc, ◌+◌, ◌<◌}
use native.Mathlib.Nat.{add-zero, zero-add, not-suc-le-zero, le_of_suc-le-suc}
use native.Mathlib.Omega.{arith}
use mathlib.Core.List.{List, [], ◌∷◌}
use lib.ListN.{length, take}
use lib.Seq.{take-append-le, take-append-add}
use Rattle.topology.specs.Tree.{Topo, Forest, node, fnil, fcons, count, kids, width, code, codes, size}
use Rattle.topology.specs.Address.{nth, ahead, addr, depth}
use Rattle.topology.specs.Reader.{pending, tree}
use Rattle.topology.specs.Debt.{debt_after, marks_after}
use Rattle.topology.proofs.Numbering.{node_ind, addr_root, addr-child}
use Rattle.topology.proofs.Decoding.{length_code}
use Rattle.topology.proofs.Marks.{at_open}
use Rattle.topology.proofs.Debt.{past_tree}

module _ (m : ℕ) (ms : List ℕ) where
  in_forest : (ts : Forest) (i k : ℕ) → i < count ts → k < size (nth ts i)
      → (d : ℕ)
      × (marks_after (count ts + m) (pending (count ts + m) (m ∷ ms)) (take (ahead ts i + k) (codes ts))
      ≡ marks_after (suc d) (m ∷ ms) (take k (code (nth ts i))))
  in_forest fnil i k h g = absurd (not-suc-le-zero h)
  in_forest (fcons t ts) zero k h g = (
    count ts + m,
    at_open (λ (d : ℕ) (ns : List ℕ). marks_after d ns (take (0 + k) (codes (fcons t ts))) ≡ marks_after (suc (count ts + m)) (m ∷ ms) (take k (code t)))
        (count ts) m ms
        (rw (zero-add k) (ap (marks_after (suc (count ts + m)) (m ∷ ms)) (take-append-le k (code t) (codes ts) (omega (arith, length_code t))))),
  )
  in_forest (fcons t ts) (suc i) k h g =
      let r = in_forest ts i k (le_of_suc-le-suc h) g in
      let f : size t + ahead ts i + k ≡ length (code t) + (ahead ts i + k) = omega (arith, length_code t) in (
        r.0,
        at_open
            (λ (d : ℕ) (ns : List ℕ). marks_after d ns (take (size t + ahead ts i + k) (codes (fcons t ts)))
            ≡ marks_after (suc r.0) (m ∷ ms) (take k (code (nth ts i))))
            (count ts)
            m
            ms
            (rw f
            (ap (marks_after (suc (count ts + m)) (m ∷ ms)) (take-append-add (code t) (codes ts) (ahead ts i + k))
            ∙ (past_tree t (count ts + m) (m ∷ ms) (take (ahead ts i + k) (codes ts))).1
            ∙ r.1)),
      )

abbrev MarksDown : Topo → ℕ → Type 0
MarksDown t n = (m : ℕ) (ms : List ℕ) → length (marks_after (suc m) ms (take n (code t))) ≡ length ms + depth t n

marks_root : (t : Topo) → MarksDown t 0
marks_root (node ts) m ms = rw addr_root (sym (add-zero (length ms)))

marks_child : (t : Topo) (i k : ℕ) → i < width t → k < size (nth (kids t) i) → MarksDown (nth (kids t) i) k → MarksDown t (suc (ahead (kids t) i + k))
marks_child (node ts) i k h g r m ms =
    let f = in_forest m ms ts i k h g in
    rw (addr-child (node ts) i k h g) (ap length f.1 ∙ r f.0 (m ∷ ms) ∙ omega arith)

pub depth_next : (t : Topo) (n : ℕ) → n < size t → length (marks_after 1 [] (take n (code t))) ≡ depth t n
depth_next t n h = node_ind MarksDown marks_root marks_child t n h 0 [] ∙ zero-add (depth t n)

-- After `2 2` and after `4 0` three nodes are owed. The next one lies 2 steps down in the tree `2 2 0 0 0`, and 1 step down in `4 0 0 0 0`.
pub depth-apart : (debt_after 1 (2 ∷ 2 ∷ []) ≡ 3) × (debt_after 1 (4 ∷ 0 ∷ []) ≡ 3)
    × (depth (tree (2 ∷ 2 ∷ 0 ∷ 0 ∷ 0 ∷ [])) 2 ≡ 2) × (depth (tree (4 ∷ 0 ∷ 0 ∷ 0 ∷ 0 ∷ [])) 2 ≡ 1)
unfolding tree addr
depth-apart = (refl, refl, refl, refl)

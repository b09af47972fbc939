-- The queues of a tree as a list, in the order of node numbers, and the tree assembled from this list.
use mathlib.Core.Path.{◌≡◌, refl, sym, ap, ap₂, ◌∙◌}
use Prim.Native.Nat.{ℕ, suc, ◌+◌, ◌<◌}
use native.Mathlib.Nat.{add-zero}
use native.Mathlib.Omega.{arith}
use mathlib.Core.List.{List, [], ◌∷◌, ◌++◌}
use lib.ListN.{length, get_or, length-append, get_or-append}
use lib.Seq.{get_or-append-add}
use Rattle.topology.specs.Tree.{size, sizes}
use Rattle.pifo_model.specs.Queue.{Entry}
use Rattle.pifo_model.specs.Tree.{PTree, PForest, pnode, pnil, pcons, shape, shapes}
use Rattle.pifo_model.specs.Assembled.{Queues, assemble, assemble_all}

module _ {P : Type 0} where
  abbrev mutual
    pub queues_of : PTree P → List (List (Entry P))
    queues_of (pnode q ts) = q ∷ queues_in ts

    pub queues_in : PForest P → List (List (Entry P))
    queues_in pnil = []
    queues_in (pcons t ts) = queues_of t ++ queues_in ts

  mutual
    pub queues_size : (t : PTree P) → length (queues_of t) ≡ size (shape t)
    queues_size (pnode q ts) = ap suc (queues_sizes ts)

    queues_sizes : (ts : PForest P) → length (queues_in ts) ≡ sizes (shapes ts)
    queues_sizes pnil = refl
    queues_sizes (pcons t ts) = omega (arith, length-append (queues_of t) (queues_in ts), queues_size t, queues_sizes ts)

  mutual
    pub assemble_listed : (t : PTree P) (r : Queues P) (k : ℕ) → ((i : ℕ) → i < size (shape t) → r (k + i) ≡ get_or (queues_of t) i [])
        → assemble (shape t) r k ≡ t
    assemble_listed (pnode q ts) r k e =
        ap₂ pnode
        (ap r (sym (add-zero k)) ∙ e 0 (omega arith))
        (assemble_all_listed ts r (suc k) (λ i h. let n : suc k + i ≡ k + suc i = omega arith in ap r n ∙ e (suc i) (omega arith)))

    assemble_all_listed : (ts : PForest P) (r : Queues P) (k : ℕ) → ((i : ℕ) → i < sizes (shapes ts) → r (k + i) ≡ get_or (queues_in ts) i [])
        → assemble_all (shapes ts) r k ≡ ts
    assemble_all_listed pnil r k e = refl
    assemble_all_listed (pcons t ts) r k e =
        let l = queues_size t in
        ap₂ pcons
        (assemble_listed t r k (λ i h. e i (omega arith) ∙ get_or-append (queues_of t) (queues_in ts) [] i (omega arith)))
        (assemble_all_listed ts r (k + size (shape t)) (λ i h.
        let n : k + size (shape t) + i ≡ k + (size (shape t) + i) = omega arith in
        let m : size (shape t) + i ≡ length (queues_of t) + i = omega arith in
        ap r n
        ∙ e (size (shape t) + i) (omega arith)
        ∙ ap (λ (j : ℕ). get_or (queues_of t ++ queues_in ts) j []) m
        ∙ get_or-append-add (queues_of t) (queues_in ts) i []))

-- The queue of a node whose ancestors all have one child has as many entries as the tree holds packets: every packet's path goes through it.
use mathlib.Core.Path.{◌≡◌, refl, sym, ap, ◌∙◌}
use Prim.Native.Nat.{ℕ, zero, suc, ◌≤◌, ◌<◌}
use native.Mathlib.Nat.{not-suc-le-zero, le_of_suc-le-suc}
use native.Mathlib.Omega.{arith}
use mathlib.Core.List.{List, [], ◌∷◌, ◌++◌, append-nil}
use mathlib.Core.Bool.{true}
use lib.ListN.{length}
use Rattle.std.proofs.lemmas.Bool.{and_parts}
use Rattle.topology.specs.Tree.{Topo, node, count, width}
use Rattle.topology.specs.Address.{Addr, child, nth, In, sub}
use Rattle.pifo_model.specs.Queue.{Entry, allowed, every}
use Rattle.pifo_model.specs.Tree.{PTree, PForest, pnode, pnil, pcons, shape, shapes, packets, held, well, wells}
use Rattle.pifo_model.specs.Addressed.{queue_at, queue_in}
use Rattle.pifo_model.proofs.Well.{well_parts}
use Rattle.pifo_model.proofs.Queues.{root_held}

-- every node strictly above has one child
abbrev pub OneAbove : Topo → Addr → Type 0
OneAbove t b = (c : Addr) (x : ℕ) (d : Addr) → b ≡ c ++ (x ∷ d) → width (sub t c) ≡ 1

module _ {P : Type 0} where
  chain-last : (q : List (Entry P)) (t : PTree P) (ts : PForest P) (x : ℕ) (b : Addr) → count (shapes ts) ≡ 0 → x ≤ 0
      → In (nth (shapes (pcons t ts)) x) b → OneAbove (node (shapes (pcons t ts))) (suc x ∷ b)
      → (In (shape t) b → OneAbove (shape t) b → length (queue_at t b) ≡ held t)
      → length (queue_at (pnode q (pcons t ts)) (suc x ∷ b)) ≡ held (pnode q (pcons t ts))
  chain-last q t (pcons u ts) x b e l i one r = absurd (omega arith)
  chain-last q t pnil (suc x) b e l i one r = absurd (omega arith)
  chain-last q t pnil zero b e l i one r =
      r i (λ c z d g. one (1 ∷ c) z d (ap (λ (k : Addr). 1 ∷ k) g)) ∙ sym (ap length (append-nil (packets t)))

  mutual
    pub chain_held : (t : PTree P) (b : Addr) → well t ≡ true → In (shape t) b → OneAbove (shape t) b → length (queue_at t b) ≡ held t
    chain_held (pnode q ts) [] w i one = root_held (pnode q ts) w
    chain_held (pnode q ts) (x ∷ b) w i one = chain_in q ts x b (well_parts q ts w).below i.0 i.1 i.2 one (one [] x b refl)

    chain_in : (q : List (Entry P)) (ts : PForest P) (x : ℕ) (b : Addr) → wells ts ≡ true → 0 < x → x ≤ count (shapes ts)
        → In (child (node (shapes ts)) x) b → OneAbove (node (shapes ts)) (x ∷ b) → count (shapes ts) ≡ 1
        → length (queue_at (pnode q ts) (x ∷ b)) ≡ held (pnode q ts)
    chain_in q pnil x b w p l i one e = absurd (omega arith)
    chain_in q (pcons t ts) zero b w p l i one e = absurd (not-suc-le-zero p)
    chain_in q (pcons t ts) (suc x) b w p l i one e =
        chain-last q t ts x b (omega arith) (omega arith) i one (λ j o. chain_held t b (and_parts (well t) (wells ts) w).0 j o)

  -- every queue of a well-formed tree has only items that its node may hold
  mutual
    pub queue_own : (t : PTree P) (a : Addr) → well t ≡ true → In (shape t) a → every (allowed (width (sub (shape t) a))) (queue_at t a) ≡ true
    queue_own (pnode q ts) [] h i = (well_parts q ts h).own
    queue_own (pnode q ts) (zero ∷ a) h i = refl
    queue_own (pnode q ts) (suc k ∷ a) h (p, l, i) = queues_own ts k a (well_parts q ts h).below l i

    queues_own : (ts : PForest P) (k : ℕ) (a : Addr) → wells ts ≡ true → k < count (shapes ts) → In (nth (shapes ts) k) a
        → every (allowed (width (sub (nth (shapes ts) k) a))) (queue_in ts k a) ≡ true
    queues_own pnil k a h l i = refl
    queues_own (pcons t ts) zero a h l i = queue_own t a (and_parts (well t) (wells ts) h).0 i
    queues_own (pcons t ts) (suc k) a h l i = queues_own ts k a (and_parts (well t) (wells ts) h).1 (le_of_suc-le-suc l) i

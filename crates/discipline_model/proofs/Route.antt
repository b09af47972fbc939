-- The way from the root down to a node.
use mathlib.Core.Path.{◌≡◌, sym, ap, ◌∙◌, subst}
use Prim.Native.Nat.{ℕ, ◌<◌}
use mathlib.Core.List.{[], ◌∷◌, ◌++◌, append-nil, append_assoc}
use Rattle.topology.specs.Tree.{Topo, size}
use Rattle.topology.specs.Address.{Addr, In, Above, addr, child_of}
use Rattle.topology.proofs.Numbering.{addr_root, addr_in}
use Rattle.topology.proofs.Ancestry.{in_below, size_pos, addr_inj}
use Rattle.topology.proofs.Children.{HasChild, child_of_lt, addr-child_of}

-- The way to a node leads from node n to its child i: the child is that node or lies above it.
pub record OnWay (t : Topo) (to n i : ℕ) : Type 0 where
  pub has : HasChild t n i
  pub above : Above (addr t (child_of t n i)) (addr t to)

-- the node's address after that of n
pub way_on : (t : Topo) (to n i : ℕ) (w : OnWay t to n i) → addr t to ≡ addr t n ++ (i ∷ w.above.0)
way_on t to n i w =
    w.above.1
    ∙ ap (λ (a : Addr). a ++ w.above.0) (addr-child_of t n i w.has)
    ∙ append_assoc (addr t n) (i ∷ []) w.above.0

-- Induction along a way, from its end up: if Q holds at the end, and at each node of the way where it holds at the next, it holds at every node of the
-- way, and so at the root. Q is a statement about a node and the rest of the address there.
module _ (t : Topo) (to : ℕ) (l : to < size t) (Q : ℕ → Addr → Type 0) (end : Q to [])
    (up : (n i : ℕ) (a : Addr) → OnWay t to n i → Q (child_of t n i) a → Q n (i ∷ a)) where
  pub way_from : (n : ℕ) (a : Addr) → n < size t → addr t to ≡ addr t n ++ a → Q n a
  way_from n [] h e = subst (λ (m : ℕ). Q m []) (addr_inj t to n l h (e ∙ append-nil (addr t n))) end
  way_from n (i ∷ a) h e =
      let there = in_below t (addr t n) (i ∷ a) (subst (In t) e (addr_in t to l)) in
      let has : HasChild t n i = (h, there.0, there.1) in
      let on : addr t to ≡ addr t (child_of t n i) ++ a =
      e ∙ sym (append_assoc (addr t n) (i ∷ []) a) ∙ ap (λ (b : Addr). b ++ a) (sym (addr-child_of t n i has)) in
      up n i a record { has = has; above = (a, on) } (way_from (child_of t n i) a (child_of_lt t n i has) on)

  pub way_ind : Q 0 (addr t to)
  way_ind = way_from 0 (addr t to) (size_pos t) (rw (addr_root t))

-- Carried paths by node number, for code: a child's image lies below its parent's image or is equal to it; and a path carried from node to node is the
-- carried path.
use mathlib.Core.Path.{◌≡◌, refl, ap, ap₂, ◌∙◌}
use Prim.Native.Nat.{ℕ, ◌<◌}
use mathlib.Core.List.{List, [], ◌∷◌, ◌++◌}
use lib.ListN.{length, drop}
use Rattle.topology.specs.Tree.{Topo, size}
use Rattle.topology.specs.Address.{Addr, Above, addr, subtree, child_of, route}
use Rattle.topology.proofs.Numbering.{addr_in, num_lt, addr-num, addr_root}
use Rattle.topology.proofs.Children.{HasChild, child_of_lt, addr-child_of, subtree-child_of}
use Rattle.pifo_model.specs.Tree.{Step, step, path_fault}
use Rattle.pifo_model.proofs.PathFault.{fault_step}
use Rattle.embedding_model.specs.Rules.{image, Passes}
use Rattle.pair_model.specs.Embedding.{image_at}
use Rattle.pair_model.specs.Carrying.{steps, carry_from, carry}
use Rattle.pair_model.proofs.Keeps.{keeps}
use Rattle.topology_reduction.specs.InnerNodes.{kept_node}
use Rattle.pair_model.specs.InnerCarryNodes.{carry_nodes, carry_root}

pub image-below : (S T : Topo) (m : List ℕ) → Passes S T m → (n i : ℕ) → HasChild S n i
    → Above (addr T (image m (kept_node S n))) (addr T (image m (kept_node S (child_of S n i))))
image-below S T m E n i h =
    let l = child_of_lt S n i h in
    (keeps S T m E).down (addr S n) (addr S (child_of S n i)) (addr_in S n h.0) (addr_in S (child_of S n i) l) (i ∷ [], addr-child_of S n i h)

module _ (S T : Topo) (m : List ℕ) where
  nodes_from : (n : ℕ) (ss : List Step) → n < size S → path_fault (subtree S n) ss ≡ 0 → carry_nodes S T m n ss ≡ carry_from (image_at S T m) (addr S n) ss
  nodes_from n [] h e = refl
  nodes_from n (step i r ∷ ss) h e =
      let f = fault_step (subtree S n) i r ss e in
      let has : HasChild S n i = (h, f.low, f.high) in
      let c : ℕ = child_of S n i in
      let rest = nodes_from c ss (child_of_lt S n i has) (rw (subtree-child_of S n i has) f.rest) in
      ap (λ (l : List Step). steps r (drop (length (image_at S T m (addr S n))) (image_at S T m (addr S c))) ++ l) rest
      ∙ ap (λ (a : Addr). steps r (drop (length (image_at S T m (addr S n))) (image_at S T m a)) ++ carry_from (image_at S T m) a ss) (addr-child_of S n i has)

  pub carry-nodes : (ss : List Step) → path_fault S ss ≡ 0 → carry_root S T m ss ≡ carry S T m ss
  carry-nodes ss e =
      let root = addr-num S [] tt in
      let above : route T 0 (image m (kept_node S 0)) ≡ image_at S T m [] =
      ap (λ (a : Addr). drop (length a) (addr T (image m (kept_node S 0)))) (addr_root T) ∙ ap (image_at S T m) root in
      ap₂ (λ (g : Addr) (l : List Step). steps 0 g ++ l) above
      (nodes_from 0 ss (num_lt S [] tt) (rw root e) ∙ ap (λ (a : Addr). carry_from (image_at S T m) a ss) root)

-- A pop that departs takes the same rank at a kept source node and at its image.
use mathlib.Core.Path.{◌≡◌, refl, ap, ◌∙◌}
use Prim.Native.Nat.{ℕ, ◌<◌}
use mathlib.Core.List.{List, [], ◌∷◌, ◌++◌}
use mathlib.Core.Option.{Option, none, some}
use Rattle.topology.specs.Tree.{Topo, size}
use Rattle.topology.specs.Address.{Addr, In, addr, num}
use Rattle.topology.proofs.Numbering.{addr_in, num-addr}
use Rattle.pifo_model.specs.Queue.{Entry, child, packet, entry}
use Rattle.pifo_model.specs.Tree.{PTree, pop}
use Rattle.pifo_model.specs.Way.{takes}
use Rattle.pifo_model.specs.Machine.{Machine}
use Rattle.pifo_model.proofs.Way.{Named, takes_named}
use Rattle.topology_reduction.specs.Kept.{Kept}
use Rattle.topology_reduction.proofs.Kept.{kept_self}
use Rattle.embedding_model.specs.Rules.{Passes}
use Rattle.pair_model.specs.Embedding.{image_at}
use Rattle.pair_model.specs.Mirror.{toward, Owns, ranked, lift}
use Rattle.pair_model.specs.Simulation.{Paired}
use Rattle.pair_model.proofs.Images.{Keeps}
use Rattle.pair_model.proofs.Keeps.{keeps, kept_owns}
use Rattle.pair_model.proofs.Toward.{toward_over}
use Rattle.pair_model.proofs.Lift.{after}
use Rattle.pair_model.proofs.Owns.{lower}
use Rattle.pair_model.proofs.Mirrors.{mirrors_pop}
use Rattle.discipline_model.specs.Scheduler.{rank_of, rank_at}
use Rattle.pair_schedule.specs.Chip.{image_rank}
use Rattle.topology_reduction.specs.InnerNodes.{kept_node}

module _ {P : Type 0} where
  -- The lift of an entry at a node that owns its image has the same rank there: the image of the child that the entry names lies below.
  rank_lifted : {S T : Topo} {F : Addr → Addr} → Keeps S T F → (b : Addr) → Owns S F b (F b) → (o : Option (Entry P)) → Named S b o
      → rank_of (after (lift F b (F b)) o) ≡ rank_of o
  rank_lifted K b own none h = refl
  rank_lifted K b own (some (entry r (packet p))) h = refl
  rank_lifted {F = F} K b own (some (entry r (child k))) h =
      let g = lower K b k h own in
      let e : toward (F b) (F (b ++ (k ∷ []))) ≡ some g.0 = ap (toward (F b)) g.2 ∙ toward_over (F b) g.0 g.1 in
      ap (λ (j : Option ℕ). rank_of {P = P} (ranked r j)) e

  module _ (S T : Topo) (m : List ℕ) (E : Passes S T m) (x y : Machine P) (h : Paired S T m x y) where
    pub rank_alike : (p : P) (u : PTree P) → pop x.tree ≡ some (p, u) → (n : ℕ) → n < size S → Kept S n → image_rank m y n ≡ rank_at x n
    unfolding rank_at
    rank_alike p u e n l kept =
        let K = keeps S T m E in
        let b : Addr = addr S n in
        let there : In S b = addr_in S n l in
        let own = kept_owns S T m E b there kept in
        let source_shape = h.source.topology ∙ h.source_topology in
        let z = mirrors_pop K x.tree y.tree h.source.tree source_shape (h.chip.topology ∙ h.chip_topology) h.trees p u e in
        let named : Named S b (takes x.tree b) = rw source_shape at (takes_named x.tree b h.source.tree) in
        let same : rank_of (takes y.tree (image_at S T m b)) ≡ rank_of (takes x.tree b) =
        ap rank_of (z.entries b (image_at S T m b) there (K.there b there) own) ∙ rank_lifted K b own (takes x.tree b) named in
        let itself : kept_node S n ≡ n = ap (num S) (kept_self S b kept) ∙ num-addr S n l in
        rw (h.chip_topology, h.source_topology) (rw itself at same)

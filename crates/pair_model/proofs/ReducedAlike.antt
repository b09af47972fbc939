-- A drawing and its reduced drawing answer every list of calls alike: the list of places is a map that meets the rules (`places_pass`), and the
-- simulation is proved for such maps.
use mathlib.Core.Path.{◌≡◌, sym, ◌∙◌}
use Prim.Native.Nat.{ℕ, ◌<◌}
use Rattle.base.proofs.Tabulate.{tabulate, length_tabulate, get_d_tabulate}
use Rattle.topology.specs.Tree.{Topo, size}
use Rattle.topology.proofs.Ancestry.{size_pos}
use Rattle.topology_reduction.specs.Reduced.{reduced}
use Rattle.embedding_model.specs.Rules.{image, Passes, Embeds}
use Rattle.embedding_model.proofs.Passes.{embeds_passes}
use Rattle.pair_model.specs.Reduced.{places_of, ReducedAlike}
use Rattle.pair_model.proofs.MachinesAlike.{machines_alike}

-- a tree is embedded in itself
itself : (R : Topo) → Embeds R R (tabulate (size R) (λ i. i))
itself R =
    record {
      long = length_tabulate (size R) (λ i. i);
      within = λ a h. rw (at a h) h;
      once = λ a b h g e. sym (at a h) ∙ e ∙ at b g;
      root = λ w. at 0 (size_pos R);
      leaf = λ a h e. rw (at a h) e;
      order = λ a b h g. (λ u. rw (at a h, at b g) u, λ u. rw (at a h, at b g) at u);
    }
  where
    at : (a : ℕ) → a < size R → image (tabulate (size R) (λ i. i)) a ≡ a
    at a h = get_d_tabulate (size R) (λ i. i) a 0 h

pub places_pass : (S : Topo) → Passes S (reduced S) (places_of S)
places_pass S =
    let numbers = tabulate (size (reduced S)) (λ i. i) in
    embeds_passes S (reduced S) numbers (length_tabulate (size (reduced S)) (λ i. i)) (itself (reduced S))

pub reduced_alike : ReducedAlike
reduced_alike P S limit calls = machines_alike P S (reduced S) (places_of S) (places_pass S) limit calls

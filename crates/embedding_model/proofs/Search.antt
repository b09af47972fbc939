-- The meaning of the search's number and map, for a source and a target with none of the faults 1 to 5: 12 exactly where no list of numbers is a map;
-- else 0 with the least map, in 32 places.
use mathlib.Core.Path.{◌≡◌, refl, sym, ap, ◌∙◌, subst}
use mathlib.Core.Logic.{◌↔◌}
use Prim.Native.Nat.{ℕ, zero, suc, ◌-◌, ◌≤◌}
use native.Mathlib.Omega.{arith}
use mathlib.Core.List.{List, ◌++◌}
use mathlib.Core.Option.{Option, none, some}
use lib.ListN.{length, take, replicate, length-append, length-replicate}
use lib.Seq.{take-append_seam}
use Rattle.base.specs.Refusals.{or_else, unless_refused}
use Rattle.base.proofs.Refusals.{or_else_none, or_else_most}
use Rattle.topology.specs.Tree.{Topo, width, code}
use Rattle.topology.specs.Reader.{fault, tree}
use Rattle.topology.proofs.Reader.{drawn}
use Rattle.topology.proofs.Lookup.{valid_size}
use Rattle.topology.proofs.FaultMost.{fault_most}
use Rattle.topology_reduction.specs.Reduced.{reduced, restricted, kept_bytes, spread}
use Rattle.topology_reduction.proofs.Reduced.{code_reduced, size_reduced}
use Rattle.embedding_model.specs.Rules.{Passes}
use Rattle.embedding_model.specs.Least.{LeastPassing, least_map, least_of, spread_some, none_fault, padded, search_fault, search_map}
use Rattle.embedding_model.proofs.Least.{least_none, least_embedding}
use Rattle.embedding_model.proofs.LoneLeaf.{leaf_code, lone_least}
use Rattle.embedding_model.proofs.Passes.{embeds_passes, passes_reduced, least-spread}
use Rattle.embedding_model.specs.InnerLeast.{least}

module _ (source target : List ℕ) (s : fault 32 source ≡ 0) (t : fault 64 target ≡ 0) where
  abbrev S : Topo
  S = tree source

  abbrev T : Topo
  T = tree target

  -- the definition over bytes agrees with the one over the trees, the source's tree reduced
  by_trees : least_map (kept_bytes source) target ≡ least (reduced S) T
  by_trees =
      sym (ap (λ (b : List ℕ). least_map b (code T)) (code_reduced S ∙ ap kept_bytes (drawn 32 source s)) ∙ ap (least_map (kept_bytes source)) (drawn 64 target t))

  by_least : search_fault source target ≡ none_fault (least_map (kept_bytes source) target)
  unfolding search_fault least_of
  by_least = rw (s, t) (spread-fault (least_map (kept_bytes source) target))
    where
      spread-fault : (f : Option (List ℕ)) → none_fault (spread_some source f) ≡ none_fault f
      spread-fault none = refl
      spread-fault (some l) = refl

  -- a list that is found has a number for each kept node
  pub found_long : (l : List ℕ) → least_map (kept_bytes source) target ≡ some l → length l ≡ length (kept_bytes source)
  found_long l q =
      (least_embedding (reduced S) T l (sym by_trees ∙ q)).embeds.long ∙ size_reduced S ∙ ap (λ (b : List ℕ). length (kept_bytes b)) (drawn 32 source s)

  pub search-twelve : (search_fault source target ≡ 12) ↔ ((l : List ℕ) → Passes (tree source) (tree target) l → ⊥)
  search-twelve = (there, back)
    where
      by_answer : (f : Option (List ℕ)) → f ≡ least (reduced S) T → none_fault f ≡ 12 → least (reduced S) T ≡ none
      by_answer none q e = sym q
      by_answer (some m) q e = absurd (omega arith)

      there : search_fault source target ≡ 12 → (l : List ℕ) → Passes S T l → ⊥
      there e l p =
          (least_none (reduced S) T).0 (by_answer (least_map (kept_bytes source) target) by_trees (sym by_least ∙ e)) (restricted (code S) l)
          (passes_reduced S T l p).1

      back : ((l : List ℕ) → Passes S T l → ⊥) → search_fault source target ≡ 12
      back n =
          by_least
          ∙ ap none_fault (by_trees ∙ (least_none (reduced S) T).1 (λ l e. n (spread (code S) l) (embeds_passes S T l e.long e)))

  -- 0 where some list is a map
  pub search_found : (l : List ℕ) → Passes (tree source) (tree target) l → search_fault source target ≡ 0
  search_found l p = by_least ∙ by_answer (least_map (kept_bytes source) target) refl
    where
      by_answer : (f : Option (List ℕ)) → least_map (kept_bytes source) target ≡ f → none_fault f ≡ 0
      by_answer none q = absurd (search-twelve.0 (by_least ∙ ap none_fault q) l p)
      by_answer (some m) q = refl

  -- Never 12 for a drawing whose reduced drawing is a lone leaf: every target has a leaf.
  pub lone_loads : width (reduced (tree source)) ≡ 0 → search_fault source target ≡ 0
  lone_loads w =
      by_least
      ∙ ap none_fault (by_trees ∙ ap (λ (b : List ℕ). least_map b (code T)) (leaf_code (reduced S) w) ∙ lone_least T)

  pub search-map : search_fault source target ≡ 0
      → (m : List ℕ) × LeastPassing (tree source) (tree target) m × (search_map source target ≡ m ++ replicate (32 - length m) 0)
  unfolding search_map least_of
  search-map e = by_answer (least_map (kept_bytes source) target) by_trees (sym by_least ∙ e)
    where
      by_answer : (f : Option (List ℕ)) → f ≡ least (reduced S) T → none_fault f ≡ 0
          → (m : List ℕ) × LeastPassing S T m × (unless_refused (search_fault source target) (padded (spread_some source f)) (replicate 32 0) ≡ m ++ replicate (32 - length m) 0)
      by_answer none q z = absurd (omega arith)
      by_answer (some l) q z =
          let b : code S ≡ source = drawn 32 source s in
          (spread source l, subst (λ (b : List ℕ). LeastPassing S T (spread b l)) b (least-spread S T l (least_embedding (reduced S) T l (sym q))), rw e)

pub search_most : (source target : List ℕ) → search_fault source target ≤ 12
unfolding search_fault
search_most source target =
    let s = fault_most 32 source in
    let t = fault_most 64 target in
    or_else_most 12 (fault 32 source) _ (omega (arith, s)) (or_else_most 12 (fault 64 target) _ (omega (arith, t)) (none_most (least_of source target)))
  where
    none_most : (f : Option (List ℕ)) → none_fault f ≤ 12
    none_most none = omega arith
    none_most (some m) = omega arith

-- the map of the answer has a place for each of 32 nodes
pub map-room : (source target m : List ℕ) → m ≡ search_map source target → 32 ≤ length m
unfolding search_map
map-room source target m e = rw e (unless_room (search_fault source target) (padded (least_of source target)) (padded-room (least_of source target)))
  where
    unless_room : (f : ℕ) (l : List ℕ) → 32 ≤ length l → 32 ≤ length (unless_refused f l (replicate 32 0))
    unless_room zero l h = h
    unless_room (suc f) l h = omega (arith, length-replicate {A = ℕ} 32 0)

    padded-room : (f : Option (List ℕ)) → 32 ≤ length (padded f)
    padded-room none = omega (arith, length-replicate {A = ℕ} 32 0)
    padded-room (some m) = omega (arith, length-append m (replicate (32 - length m) 0), length-replicate {A = ℕ} (32 - length m) 0)

-- if nothing is refused, the trees have no fault and the images meet the rules
module _ (source target : List ℕ) (e : search_fault source target ≡ 0) where
  pub faultless : (fault 32 source ≡ 0) × (fault 64 target ≡ 0)
  unfolding search_fault
  faultless =
      let rest = none_fault (least_of source target) in
      let a = or_else_none (fault 32 source) (or_else (fault 64 target) rest) e in
      (a.0, (or_else_none (fault 64 target) rest a.1).0)

  pub images_pass : Passes (tree source) (tree target) (take (length source) (search_map source target))
  images_pass =
      let s = search-map source target faultless.0 faultless.1 e in
      let m = s.0 in
      let n : length m ≡ length source = s.1.passes.long ∙ valid_size 32 source faultless.0 in
      let t : take (length source) (search_map source target) ≡ m =
      ap (take (length source)) s.2
      ∙ ap (λ (k : ℕ). take k (m ++ replicate (32 - length m) 0)) (sym n)
      ∙ take-append_seam m (replicate (32 - length m) 0) in
      rw t s.1.passes

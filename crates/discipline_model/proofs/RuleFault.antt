-- Rules without fault 24: a weighted node of the drawing has children, and each child has a weight.
use mathlib.Core.Path.{◌≡◌, refl}
use Prim.Native.Nat.{ℕ, zero, suc, ◌≤◌, ◌<◌}
use native.Mathlib.Decide.{ℕ_discrete}
use native.Mathlib.Omega.{arith}
use mathlib.Core.List.{List}
use mathlib.Core.Bool.{Bool, true, false, cond}
use lib.Dec.{ltb}
use borrow.Author.Tests.{ltb-true}
use Rattle.std.proofs.lemmas.Bool.{and_parts}
use Rattle.topology.specs.Tree.{Topo, width, size}
use Rattle.topology.specs.Address.{subtree, child_of}
use Rattle.topology.proofs.Children.{HasChild}
use Rattle.discipline_model.specs.Figure.{weighted, kind_at, weight_at, weighs, sound_at, all_sound_below, rule_fault}
use Rattle.discipline_model.specs.declared.Rule.{Rule}

module _ (t : Topo) (rules : List Rule) where
  pub sound-below : (k n : ℕ) → n < k → all_sound_below t rules k ≡ true → sound_at t rules n ≡ true
  sound-below zero n l h = absurd (omega arith)
  sound-below (suc k) n l h =
      let b = and_parts (all_sound_below t rules k) (sound_at t rules k) h in
      by_last (ℕ_discrete n k) (λ g. sound-below k n g b.0) b.1
    where
      by_last : Dec (n ≡ k) → (n < k → sound_at t rules n ≡ true) → sound_at t rules k ≡ true → sound_at t rules n ≡ true
      by_last (yes e) below last = rw e last
      by_last (no e) below last = below (omega arith)

  pub weight-below : (n k i : ℕ) → 0 < i → i ≤ k → weighs t rules n k ≡ true → 0 < weight_at rules (child_of t n i)
  weight-below n zero i p l h = absurd (omega arith)
  weight-below n (suc k) i p l h =
      let b = and_parts (weighs t rules n k) (ltb 0 (weight_at rules (child_of t n (suc k)))) h in
      by_last (ℕ_discrete i (suc k)) (λ g. weight-below n k i p g b.0) (ltb-true 0 (weight_at rules (child_of t n (suc k))) b.1)
    where
      by_last : Dec (i ≡ suc k) → (i ≤ k → 0 < weight_at rules (child_of t n i)) → 0 < weight_at rules (child_of t n (suc k))
          → 0 < weight_at rules (child_of t n i)
      by_last (yes e) below last = rw e last
      by_last (no e) below last = below (omega arith)

  module _ (h : rule_fault t rules ≡ 0) (n : ℕ) (l : n < size t) (w : kind_at rules n ≡ weighted) where
    all_sound : all_sound_below t rules (size t) ≡ true
    unfolding rule_fault
    all_sound = by_test (all_sound_below t rules (size t)) h
      where
        by_test : (b : Bool) → ◌≡◌ {A = ℕ} (cond b 0 24) 0 → b ≡ true
        by_test true e = refl
        by_test false e = absurd (omega (arith, e))

    tests : (ltb 0 (width (subtree t n)) ≡ true) × (weighs t rules n (width (subtree t n)) ≡ true)
    tests = and_parts (ltb 0 (width (subtree t n))) (weighs t rules n (width (subtree t n))) (rw w at (sound-below (size t) n l all_sound))

    pub weighted_inner : 0 < width (subtree t n)
    weighted_inner = ltb-true 0 (width (subtree t n)) tests.0

  pub child-weight : rule_fault t rules ≡ 0 → (n i : ℕ) → HasChild t n i → kind_at rules n ≡ weighted → 0 < weight_at rules (child_of t n i)
  child-weight h n i (l, p, q) w = weight-below n (width (subtree t n)) i p q (tests h n l w).1

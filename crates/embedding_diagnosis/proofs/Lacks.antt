-- What each answer of the diagnosis says of two trees (`diagnosis_says`), and that each lack is reason enough for a branch to fit nowhere.
use mathlib.Core.Path.{◌≡◌, refl, sym, ap, ◌∙◌}
use mathlib.Core.Logic.{◌≢◌}
use Prim.Native.Nat.{ℕ, zero, suc, ◌-◌, ◌≤◌, ◌<◌, max}
use native.Mathlib.Nat.{not-suc-le-zero}
use native.Mathlib.Decide.{dec_lt, ℕ_discrete}
use native.Mathlib.Omega.{arith}
use mathlib.Core.List.{List, [], ◌∷◌}
use mathlib.Core.Option.{Option, none, some}
use mathlib.Core.Bool.{Bool, true, false, ◌&&◌, cond}
use lib.ListN.{length, get_or, take, drop, length-take, length-drop}
use lib.Dec.{eqb, ltb}
use borrow.Author.Tests.{eq-eqb, eqb-true, eqb-false, ltb-true, ltb-false}
use Rattle.base.specs.Refusals.{or_else, unless_refused}
use Rattle.refusal.specs.Numbers.{number, refusal_of}
use Rattle.topology.proofs.FaultMost.{fault_most}
use Rattle.embedding_trees.specs.Trees.{trees_fault}
use Rattle.topology.specs.Tree.{Topo, leaf, width, size, code}
use Rattle.topology.specs.Address.{subtree}
use Rattle.topology.specs.Reader.{fault, tree}
use Rattle.topology.specs.Branch.{branch_end, branch_fault, branch_part, is_above}
use Rattle.topology.proofs.Ancestry.{size_pos}
use Rattle.topology.proofs.Decoding.{length_code, byte_width}
use Rattle.topology.proofs.Reader.{fault_wider}
use Rattle.topology.proofs.Lookup.{part_code, valid_size}
use Rattle.topology_reduction.specs.Reduced.{spread}
use Rattle.topology_places.specs.Places.{depth}
use Rattle.topology_places.proofs.Counted.{counted_most, last_most, depth_most}
use Rattle.topology_places.proofs.Passes.{counted_into}
use Rattle.embedding_model.specs.Rules.{image, Passes}
use Rattle.embedding_model.specs.Least.{least_of, none_fault, search_fault}
use Rattle.embedding_model.proofs.Search.{search-map}
use Rattle.embedding_model.specs.FirstLeaf.{first_leaf}
use Rattle.embedding_model.proofs.Least.{least_embedding}
use Rattle.embedding_model.proofs.LoneLeaf.{lone_least}
use Rattle.embedding_model.proofs.Passes.{embeds_passes}
use Rattle.embedding_diagnosis.specs.Misfit.{is_kept, kept_above, may_go, fits_nowhere, misfit, FitsNowhere, Misfit}
use Rattle.embedding_diagnosis.specs.Diagnosis.{greatest, deepest, leaves, leaves_under, most_leaves}
use Rattle.embedding_diagnosis.specs.Diagnosis.{lack_at, diagnosis_by, diagnosis, number_of, Says}
use Rattle.embedding_diagnosis.specs.declared.Diagnosis.{Diagnosis}
use Rattle.embedding_diagnosis.specs.declared.Diagnosis.TheVariants.{Loads, Refused, TooDeep, TooManyLeaves, NotTogether}
use Rattle.embedding_diagnosis.proofs.Nowhere.{may_to, may_depth, drawing, chip, leaf-fits, misfit_is}

-- ---- the greatest value

module _ (test : ℕ → Bool) (f : ℕ → ℕ) where
  pub greatest-above : (n t : ℕ) → t < n → test t ≡ true → f t ≤ greatest test f n
  greatest-above zero t h e = absurd (not-suc-le-zero h)
  greatest-above (suc n) t h e = by_order (dec_lt t n) (λ l. greatest-above n t l e)
    where
      by_order : Dec (t < n) → (t < n → f t ≤ greatest test f n) → f t ≤ max (greatest test f n) (cond (test n) (f n) 0)
      by_order (yes l) r = omega (arith, r l)
      by_order (no g) r =
          let s : n ≡ t = omega arith in
          let here : test n ≡ true = ap test s ∙ e in
          rw here (omega (arith, ap f s))

  -- it is the value of a number that passes, unless it is 0
  pub greatest_at : (n : ℕ) → 0 < greatest test f n → (t : ℕ) × (t < n) × (test t ≡ true) × (f t ≡ greatest test f n)
  greatest_at zero h = absurd (not-suc-le-zero h)
  greatest_at (suc n) h = by_test (test n) refl h (greatest_at n) (dec_lt (greatest test f n) (f n))
    where
      Found : ℕ → Type 0
      Found most = (t : ℕ) × (t < suc n) × (test t ≡ true) × (f t ≡ most)

      by_test : (b : Bool) → test n ≡ b → 0 < max (greatest test f n) (cond b (f n) 0)
          → (0 < greatest test f n → (t : ℕ) × (t < n) × (test t ≡ true) × (f t ≡ greatest test f n)) → Dec (greatest test f n < f n)
          → Found (max (greatest test f n) (cond b (f n) 0))
      by_test true e g r (yes l) = (n, omega arith, e, omega arith)
      by_test true e g r (no l) = let k = r (omega arith) in (k.0, omega (arith, k.1), k.2, omega (arith, k.3))
      by_test false e g r d = let k = r (omega arith) in (k.0, omega (arith, k.1), k.2, omega (arith, k.3))

  pub greatest_most : (n most : ℕ) → ((t : ℕ) → t < n → f t ≤ most) → greatest test f n ≤ most
  greatest_most zero most h = omega arith
  greatest_most (suc n) most h = by_test (test n) (greatest_most n most (λ t l. h t (omega arith)))
    where
      by_test : (b : Bool) → greatest test f n ≤ most → max (greatest test f n) (cond b (f n) 0) ≤ most
      by_test true r = omega (arith, r, h n (omega arith))
      by_test false r = omega (arith, r)

-- no target node lies deeper than the deepest, and no branch where a node may go has more leaves than the most
deepest-above : (target : List ℕ) (t : ℕ) → t < length target → depth target t ≤ deepest target
unfolding deepest
deepest-above target t h = greatest-above (λ t. true) (depth target) (length target) t h refl

deepest_at : (target : List ℕ) → 0 < deepest target → (t : ℕ) × (t < length target) × (depth target t ≡ deepest target)
unfolding deepest
deepest_at target h = let k = greatest_at (λ t. true) (depth target) (length target) h in (k.0, k.1, k.3)

module _ (above : ℕ) (target : List ℕ) where
  most_above : (t : ℕ) → t < length target → may_go above target t ≡ true → leaves_under target t ≤ most_leaves above target
  unfolding most_leaves
  most_above = greatest-above (may_go above target) (leaves_under target) (length target)

  most_at : 0 < most_leaves above target
      → (t : ℕ) × (t < length target) × (may_go above target t ≡ true) × (leaves_under target t ≡ most_leaves above target)
  unfolding most_leaves
  most_at = greatest_at (may_go above target) (leaves_under target) (length target)

-- ---- leaves

-- A map sends the leaves of a tree to different leaves.
pub leaves_fit : (S T : Topo) (m : List ℕ) → Passes S T m → leaves (code S) ≤ leaves (code T)
unfolding leaves
leaves_fit S T m p =
    counted_into (λ k. eqb (get_or (code S) k 0) 0) (λ k. eqb (get_or (code T) k 0) 0) (image m) (length (code S)) (length (code T)) goes
    (λ a b h g e f q. p.once a b (node a h) (node b g) (kept a h e) (kept b g f) q)
  where
    node : (a : ℕ) → a < length (code S) → a < size S
    node a h = omega (arith, length_code S)

    bare : (a : ℕ) → a < length (code S) → eqb (get_or (code S) a 0) 0 ≡ true → width (subtree S a) ≡ 0
    bare a h e = sym (byte_width S a (node a h)) ∙ eqb-true (get_or (code S) a 0) 0 e

    kept : (a : ℕ) → a < length (code S) → eqb (get_or (code S) a 0) 0 ≡ true → width (subtree S a) ≢ 1
    kept a h e w = omega (arith, bare a h e)

    goes : (a : ℕ) → a < length (code S) → eqb (get_or (code S) a 0) 0 ≡ true
        → (image m a < length (code T)) × (eqb (get_or (code T) (image m a) 0) 0 ≡ true)
    goes a h e =
        let there = p.within a (node a h) (kept a h e) in (
          omega (arith, there, length_code T),
          eq-eqb (get_or (code T) (image m a) 0) 0 (byte_width T (image m a) there ∙ p.leaf a (node a h) (bare a h e)),
        )

-- So every tree has a leaf: a lone leaf has a map into it.
leaf_there : (T : Topo) → 0 < leaves (code T)
unfolding leaves
leaf_there T =
    let E = (least_embedding leaf T (first_leaf (code T) ∷ []) (lone_least T)).embeds in
    leaves_fit leaf T (spread (code leaf) (first_leaf (code T) ∷ [])) (embeds_passes leaf T (first_leaf (code T) ∷ []) E.long E)

-- ---- what a branch lacks

module _ (source target : List ℕ) (hs : fault 32 source ≡ 0) (ht : fault 64 target ≡ 0) where
  module _ (s : ℕ) (ls : s < length source) where
    -- No target node lies as deep as a leaf that fits nowhere.
    pub leaf_deeper : get_or source s 0 ≡ 0 → FitsNowhere source target s → deepest target < kept_above source s
    leaf_deeper z n = by_depth (dec_lt (deepest target) (kept_above source s)) (ℕ_discrete (kept_above source s) 0)
      where
        refuted : (t : ℕ) → t < length target → (kept_above source s ≡ 0 → t ≡ 0) → kept_above source s ≤ depth target t → ⊥
        refuted t h r d = leaf-fits source target hs ht s t ls h z (n t h (may_to (kept_above source s) target t r d))

        by_depth : Dec (deepest target < kept_above source s) → Dec (kept_above source s ≡ 0) → deepest target < kept_above source s
        by_depth (yes l) d = l
        by_depth (no g) (yes e) = absurd (refuted 0 (omega (arith, valid_size 64 target ht, size_pos (tree target))) (λ q. refl) (omega arith))
        by_depth (no g) (no q) =
            let k = deepest_at target (omega arith) in
            absurd (refuted k.0 k.1 (λ e. absurd (q e)) (omega (arith, k.2)))

    -- Each lack is reason enough: no target node lies as deep, or no branch where s may go has as many leaves.
    pub depth-enough : deepest target < kept_above source s → FitsNowhere source target s
    depth-enough h t lt g l p = omega (arith, h, may_depth (kept_above source s) target t g, deepest-above target t lt)

    pub leaves-enough : most_leaves (kept_above source s) target < leaves_under source s → FitsNowhere source target s
    leaves-enough h t lt g l p =
        omega (
          arith,
          h,
          most_above (kept_above source s) target t lt g,
          leaves_fit (subtree (tree source) s) (subtree (tree target) t) l p,
          ap leaves (drawing source target hs ht s t ls lt),
          ap leaves (chip source target hs ht s t ls lt),
        )

    some_leaf : 0 < leaves_under source s
    some_leaf =
        omega (
          arith,
          leaf_there (subtree (tree source) s),
          ap leaves (part_code source s (fault_wider 32 64 source (omega arith) hs) ls),
        )

  lack_says : (s : ℕ) → Misfit source target s → Says source target (lack_at source target s)
  unfolding lack_at
  lack_says s M = by_leaf (eqb (get_or source s 0) 0) refl
    where
      above : ℕ
      above = kept_above source s

      needed : ℕ
      needed = leaves_under source s

      most : ℕ
      most = most_leaves (kept_above source s) target

      by_room : (b : Bool) → ltb most needed ≡ b → eqb (get_or source s 0) 0 ≡ false
          → Says source target (cond b (TooManyLeaves s needed most) (NotTogether s))
      by_room true q e =
          record { misfit = M; leaves = refl; room = most_above (kept_above source s) target; short = ltb-true most needed q }
      by_room false q e =
          let enough : needed ≤ most = ltb-false most needed q in
          let k = most_at (kept_above source s) target (omega (arith, some_leaf s M.there, enough)) in
          record { misfit = M; inner = eqb-false (get_or source s 0) 0 e; room = (k.0, k.1, k.2, omega (arith, k.3, enough)) }

      by_leaf : (b : Bool) → eqb (get_or source s 0) 0 ≡ b
          → Says source target (cond b (TooDeep s above (deepest target)) (cond (ltb most needed) (TooManyLeaves s needed most) (NotTogether s)))
      by_leaf true e =
          let z = eqb-true (get_or source s 0) 0 e in
          record { misfit = M; leaf = z; level = refl; depths = deepest-above target; short = leaf_deeper s M.there z M.nowhere }
      by_leaf false e = by_room (ltb most needed) refl e

  -- What the diagnosis says is so.
  pub diagnosis_says : Says source target (diagnosis source target)
  unfolding diagnosis search_fault
  diagnosis_says = rw (hs, ht) (by_least (least_of source target) refl)
    where
      none_number : (f : Option (List ℕ)) → least_of source target ≡ f → search_fault source target ≡ none_fault f
      none_number f e = rw (hs, ht, e) refl

      by_least : (f : Option (List ℕ)) → least_of source target ≡ f → Says source target (diagnosis_by 0 f source target)
      by_least none e = lack_says (misfit source target) (misfit_is source target hs ht (none_number none e))
      by_least (some m) e = let k = search-map source target hs ht (none_number (some m) e) in (k.0, k.1.passes)

-- ---- for any bytes

lack_number : (source target : List ℕ) (s : ℕ) → number_of (lack_at source target s) ≡ 12
unfolding lack_at
lack_number source target s = by_tests (eqb (get_or source s 0) 0) (ltb (most_leaves (kept_above source s) target) (leaves_under source s))
  where
    by_tests : (a b : Bool) → number_of (cond a (TooDeep s (kept_above source s) (deepest target))
        (cond b (TooManyLeaves s (leaves_under source s) (most_leaves (kept_above source s) target)) (NotTogether s))) ≡ 12
    by_tests true b = refl
    by_tests false true = refl
    by_tests false false = refl

-- a fault of a tree is the number of a refusal
tree_number : (limit : ℕ) (bytes : List ℕ) (f : ℕ) → fault limit bytes ≡ suc f → number (refusal_of (suc f)) ≡ suc f
tree_number limit bytes f e = by_number f (omega (arith, fault_most limit bytes))
  where
    by_number : (f : ℕ) → f ≤ 4 → number (refusal_of (suc f)) ≡ suc f
    by_number zero h = refl
    by_number (suc zero) h = refl
    by_number (suc (suc zero)) h = refl
    by_number (suc (suc (suc zero))) h = refl
    by_number (suc (suc (suc (suc zero)))) h = refl
    by_number (suc (suc (suc (suc (suc f))))) h = absurd (omega arith)

pub diagnosis-number : (source target : List ℕ) → number_of (diagnosis source target) ≡ search_fault source target
unfolding diagnosis search_fault
diagnosis-number source target = by_fault (fault 32 source) (fault 64 target) (least_of source target) refl refl
  where
    by_fault : (f g : ℕ) (a : Option (List ℕ)) → fault 32 source ≡ f → fault 64 target ≡ g
        → number_of (diagnosis_by (or_else f g) a source target) ≡ or_else f (or_else g (none_fault a))
    by_fault zero zero none e d = lack_number source target (misfit source target)
    by_fault zero zero (some m) e d = refl
    by_fault zero (suc g) a e d = tree_number 64 target g d
    by_fault (suc f) g a e d = tree_number 32 source f e

-- The numbers of an answer are small.
abbrev pub Small : ℕ → ℕ → Diagnosis → Type 0
Small source_nodes target_nodes Loads = Unit
Small source_nodes target_nodes (Refused r) = Unit
Small source_nodes target_nodes (TooDeep node needed there) = (node ≤ source_nodes) × (needed ≤ source_nodes) × (there ≤ target_nodes)
Small source_nodes target_nodes (TooManyLeaves node needed there) = (node ≤ source_nodes) × (needed ≤ source_nodes) × (there ≤ target_nodes)
Small source_nodes target_nodes (NotTogether node) = node ≤ source_nodes

leaves_most : (bytes : List ℕ) (n : ℕ) → leaves_under bytes n ≤ length bytes
unfolding leaves branch_part
leaves_most bytes n =
    let part = unless_refused (branch_fault bytes n) (take (branch_end bytes n - n) (drop n bytes)) [] in
    omega (arith, counted_most (λ k. eqb (get_or part k 0) 0) (length part), by_refusal (branch_fault bytes n))
  where
    by_refusal : (f : ℕ) → length (unless_refused f (take (branch_end bytes n - n) (drop n bytes)) []) ≤ length bytes
    by_refusal zero = omega (arith, length-take (branch_end bytes n - n) (drop n bytes), length-drop n bytes)
    by_refusal (suc f) = omega arith

deepest_most : (target : List ℕ) → deepest target ≤ length target
unfolding deepest
deepest_most target = greatest_most (λ t. true) (depth target) (length target) (length target) (λ t h. omega (arith, depth_most target t))

most_most : (above : ℕ) (target : List ℕ) → most_leaves above target ≤ length target
unfolding most_leaves
most_most above target = greatest_most (may_go above target) (leaves_under target) (length target) (length target) (λ t h. leaves_most target t)

above_most : (source : List ℕ) (s : ℕ) → kept_above source s ≤ s
unfolding kept_above
above_most source s = counted_most (λ a. is_kept source a && is_above source a s) s

misfit_most : (source target : List ℕ) → misfit source target ≤ length source
unfolding misfit
misfit_most source target = last_most (λ s. is_kept source s && fits_nowhere source target s) (length source)

lack_small : (source target : List ℕ) (s : ℕ) → s ≤ length source → Small (length source) (length target) (lack_at source target s)
unfolding lack_at
lack_small source target s h =
    by_tests (eqb (get_or source s 0) 0) (ltb (most_leaves (kept_above source s) target) (leaves_under source s))
  where
    by_tests : (a b : Bool) → Small (length source) (length target) (cond a (TooDeep s (kept_above source s) (deepest target))
        (cond b (TooManyLeaves s (leaves_under source s) (most_leaves (kept_above source s) target)) (NotTogether s)))
    by_tests true b = (h, omega (arith, above_most source s), deepest_most target)
    by_tests false true = (h, leaves_most source s, most_most (kept_above source s) target)
    by_tests false false = h

pub diagnosis-small : (source target : List ℕ) → Small (length source) (length target) (diagnosis source target)
unfolding diagnosis
diagnosis-small source target = by_fault (trees_fault source target) (least_of source target)
  where
    by_fault : (f : ℕ) (a : Option (List ℕ)) → Small (length source) (length target) (diagnosis_by f a source target)
    by_fault zero none = lack_small source target (misfit source target) (misfit_most source target)
    by_fault zero (some m) = tt
    by_fault (suc f) a = tt

-- The number of kept nodes above a kept node is its depth in the reduced drawing: its place there counts the kept nodes before it, and ancestry of
-- kept nodes is ancestry of their places. So each kept node before it that lies above it is counted in both trees.
use mathlib.Core.Path.{◌≡◌, refl, sym, ap, ◌∙◌}
use Prim.Native.Nat.{ℕ, zero, suc, ◌+◌, ◌≤◌, ◌<◌}
use native.Mathlib.Nat.{add-zero}
use native.Mathlib.Numerals.{add-one}
use native.Mathlib.Omega.{arith}
use mathlib.Core.List.{[], ◌∷◌}
use mathlib.Core.Bool.{Bool, true, false, not, ◌&&◌, cond}
use lib.ListN.{length, get_or}
use lib.Dec.{eqb}
use borrow.Author.Tests.{eqb-false}
use Rattle.topology.specs.Tree.{Topo, code, size}
use Rattle.topology.specs.Address.{depth as address_depth}
use Rattle.topology.specs.Branch.{is_above}
use Rattle.topology.proofs.Decoding.{length_code, byte_width}
use Rattle.topology.proofs.Lookup.{above_code, code_above}
use Rattle.topology_reduction.specs.Kept.{Kept}
use Rattle.topology_reduction.specs.Reduced.{reduced}
use Rattle.topology_reduction.specs.InnerNodes.{place}
use Rattle.topology_reduction.proofs.Reduced.{place_lt, place_next, place_order}
use Rattle.topology_places.specs.Places.{counted, depth}
use Rattle.std.specs.Cmp.{both_ways}
use Rattle.topology_places.proofs.Addresses.{depth_code}
use Rattle.embedding_diagnosis.specs.Misfit.{is_kept, kept_above}

module _ (S : Topo) (s : ℕ) (h : s < size S) (k : Kept S s) where
  -- ancestry by the bytes of both trees
  above_place : (n : ℕ) → n < size S → Kept S n
      → is_above (code (reduced S)) (place (code S) n) (place (code S) s) ≡ is_above (code S) n s
  above_place n g q =
      let order = place_order S n s g h q k in
      both_ways (is_above (code (reduced S)) (place (code S) n) (place (code S) s)) (is_above (code S) n s)
      (λ e. above_code S n s g h (order.1 (code_above (reduced S) (place (code S) n) (place (code S) s) (place_lt S n g) e)))
      (λ e. above_code (reduced S) (place (code S) n) (place (code S) s) (place_lt S n g) (place_lt S s h) (order.0 (code_above S n s g e)))

  abbrev upper : ℕ → Bool
  upper a = is_above (code (reduced S)) a (place (code S) s)

  abbrev test : ℕ → Bool
  test a = is_kept (code S) a && is_above (code S) a s

  count_up : (n : ℕ) → n ≤ s → counted upper (place (code S) n) ≡ counted test n
  unfolding is_kept
  count_up zero g = refl
  count_up (suc n) g = by_byte (eqb (get_or (code S) n 0) 1) refl (count_up n (omega arith))
    where
      next : place (code S) (suc n) ≡ place (code S) n + length (cond (eqb (get_or (code S) n 0) 1) [] (get_or (code S) n 0 ∷ []))
      next = place_next (code S) n (omega (arith, length_code S))

      by_byte : (b : Bool) → eqb (get_or (code S) n 0) 1 ≡ b → counted upper (place (code S) n) ≡ counted test n
          → counted upper (place (code S) (suc n)) ≡ counted test n + cond (not (eqb (get_or (code S) n 0) 1) && is_above (code S) n s) 1 0
      by_byte true e r =
          let same : place (code S) (suc n) ≡ place (code S) n = next ∙ rw e (add-zero (place (code S) n)) in
          rw e (ap (counted upper) same ∙ r ∙ sym (add-zero (counted test n)))
      by_byte false e r =
          let one : place (code S) (suc n) ≡ suc (place (code S) n) = next ∙ rw e (add-one (place (code S) n)) in
          let node : n < size S = omega arith in
          let kept : Kept S n = λ w. eqb-false (get_or (code S) n 0) 1 e (byte_width S n node ∙ w) in
          rw e
          (ap (counted upper) one
          ∙ ap (λ (m : ℕ). m + cond (upper (place (code S) n)) 1 0) r
          ∙ ap (λ (b : Bool). counted test n + cond b 1 0) (above_place n node kept))

  pub kept_above_lem : kept_above (code S) s ≡ address_depth (reduced S) (place (code S) s)
  unfolding kept_above depth
  kept_above_lem = sym (count_up s (omega arith)) ∙ depth_code (reduced S) (place (code S) s) (place_lt S s h)

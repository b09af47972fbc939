-- The reader's loop: what is known when i bytes are read without fault, and what follows at each step.
use mathlib.Core.Path.{◌≡◌, refl, sym, ap, ap₂, ◌∙◌}
use Prim.Native.Nat.{ℕ, suc, pred, ◌+◌, ◌-◌, ◌≤◌, ◌<◌}
use native.Mathlib.Numerals.{add-one}
use native.Mathlib.Omega.{arith}
use mathlib.Core.List.{List, ◌∷◌}
use lib.ListN.{length, take, drop, get_or, set, replicate, length-drop, length-set, length-replicate}
use lib.Seq.{drop-cons}
use Rattle.base.specs.Sum.{sum}
use Rattle.std.proofs.lemmas.List.{drop-set}
use Rattle.base.proofs.Sum.{sum-take}
use Rattle.base.specs.Refusals.{or_else}
use Rattle.topology.specs.Reader.{owing, pending, marking, fault_at, fault_from, fault}
use Rattle.topology.proofs.Reader.{sound}
use Rattle.topology.proofs.Marks.{Bounded, bounded_most, bounded_marking}

-- `value` is what paper 02, 2.4 says of the running value of the code.
pub record Progress (limit : ℕ) (bytes : List ℕ) (debt : ℕ) (marks : List ℕ) (top i : ℕ) : Type 0 where
  pub read : i ≤ length bytes
  pub places : length marks ≡ 9
  pub inside : top ≤ 9
  pub value : debt + i ≡ 1 + sum (take i bytes)
  pub bounded : Bounded debt (drop top marks)
  pub same : fault_from limit i debt (drop top marks) (drop i bytes) ≡ fault limit bytes

-- the byte's node is owed, there is a place for its mark, and its children can be added to the debt
pub record Payable (debt top children : ℕ) : Type 0 where
  pub owed : 0 < debt
  pub place : 0 < top
  pub small : debt ≤ 65
  pub few : children ≤ 8

pub begin : (limit : ℕ) (bytes : List ℕ) → Progress limit bytes 1 (replicate 9 0) 9 0
unfolding fault
begin limit bytes =
    record {
      read = omega arith;
      places = length-replicate {A = ℕ} 9 0;
      inside = omega arith;
      value = refl;
      bounded = omega arith;
      same = refl;
    }

module _ (limit : ℕ) (bytes : List ℕ) (debt : ℕ) (marks : List ℕ) (top i : ℕ) (p : Progress limit bytes debt marks top i) where
  depth_is : length (drop top marks) ≡ 9 - top
  depth_is = length-drop top marks ∙ ap (λ (n : ℕ). n - top) p.places

  module _ (number : ℕ) (h : i < length bytes) (is : number ≡ fault_at limit i debt (9 - top) (get_or bytes i 0)) where
    -- the next byte's fault, or what comes after it
    rest : ℕ
    rest = fault_from limit (suc i) (owing debt (get_or bytes i 0)) (marking debt (drop top marks) (get_or bytes i 0)) (drop (suc i) bytes)

    unrolled : fault limit bytes ≡ or_else number rest
    unfolding rest
    unrolled =
        sym p.same
        ∙ ap (fault_from limit i debt (drop top marks)) (drop-cons bytes i 0 h)
        ∙ ap (λ (n : ℕ). or_else n rest) (ap (λ (d : ℕ). fault_at limit i debt d (get_or bytes i 0)) depth_is ∙ sym is)

    module _ (z : number ≡ 0) where
      pub payable : Payable debt top (get_or bytes i 0)
      payable =
          let s = sound limit i debt (9 - top) (get_or bytes i 0) (sym is ∙ z) in
          let w = p.inside in
          let l = bounded_most debt (drop top marks) p.bounded in
          let d = depth_is in
          record { owed = s.owed; place = omega (arith, s.steps); small = omega (arith, s.steps); few = s.children }

      pub advance : (children next : ℕ) → children ≡ get_or bytes i 0 → next ≤ 9
          → drop next (set marks (top - 1) (debt - 1)) ≡ pending (debt - 1 + children) (drop (top - 1) (set marks (top - 1) (debt - 1)))
          → Progress limit bytes (debt - 1 + children) (set marks (top - 1) (debt - 1)) next (i + 1)
      unfolding rest
      advance children next q w e =
          let ok = payable in
          let owed : debt - 1 + children ≡ owing debt (get_or bytes i 0) = omega (arith, ok.owed) in
          let left : debt - 1 ≡ pred debt = omega arith in
          let above : suc (top - 1) ≡ top = omega (arith, ok.place) in
          let marked : drop next (set marks (top - 1) (debt - 1)) ≡ marking debt (drop top marks) (get_or bytes i 0) =
          e
          ∙ ap (pending (debt - 1 + children)) (drop-set marks (top - 1) (debt - 1) (omega (arith, ok.place, p.inside, p.places)))
          ∙ ap (λ (t : ℕ). pending (debt - 1 + children) ((debt - 1) ∷ drop t marks)) (add-one (top - 1) ∙ above)
          ∙ ap₂ (λ (x y : ℕ). pending x (y ∷ drop top marks)) owed left in
          record {
            read = omega arith;
            places = length-set marks (top - 1) (debt - 1) ∙ p.places;
            inside = w;
            value = rw add-one (omega (arith, ok.owed, p.value, sum-take bytes i));
            bounded = rw (owed, marked) (bounded_marking debt (drop top marks) (get_or bytes i 0) ok.few p.bounded);
            same = rw (add-one, owed, marked) (sym (unrolled ∙ ap (λ (n : ℕ). or_else n rest) z));
          }

-- The cases of a path's fault. In a path with no fault the last step ends at a leaf, and each step names a child that exists.
use mathlib.Core.Path.{◌≡◌, refl, ◌∙◌}
use mathlib.Core.Logic.{◌≢◌, ◌⊎◌, inl, inr}
use Prim.Native.Nat.{ℕ, zero, suc, ◌≤◌, ◌<◌}
use native.Mathlib.Decide.{dec_le}
use native.Mathlib.Omega.{arith}
use mathlib.Core.List.{List, [], ◌∷◌}
use mathlib.Core.Bool.{Bool, true, false, ◌&&◌, cond}
use lib.ListN.{length}
use lib.Dec.{leb, eqb}
use borrow.Author.Tests.{leb-true, eqb-true, le-leb, lt-leb, eq-eqb, ne_eqb}
use Rattle.std.proofs.lemmas.Bool.{and_parts}
use Rattle.topology.specs.Tree.{Topo, node, count, width, height}
use Rattle.topology.specs.Address.{nth, child}
use Rattle.topology.specs.Reader.{fault, tree}
use Rattle.topology.proofs.Reader.{within}
use Rattle.topology.proofs.Ancestry.{nth_height}
use Rattle.pifo_model.specs.Tree.{Step, step, path_fault}

pub fault_end : (t : Topo) → path_fault t [] ≡ 0 → width t ≡ 0
fault_end t h = by_test (eqb (width t) 0) refl h
  where
    by_test : (b : Bool) → eqb (width t) 0 ≡ b → ◌≡◌ {A = ℕ} (cond b 0 14) 0 → width t ≡ 0
    by_test true e h = eqb-true (width t) 0 e
    by_test false e h = absurd (omega arith)

pub end_fault : (t : Topo) → width t ≡ 0 → path_fault t [] ≡ 0
end_fault t e = rw (eq-eqb (width t) 0 e)

-- a path that ends above a leaf; a step to a child that exists, and one to a child that does not
pub fault-above : (t : Topo) → width t ≢ 0 → path_fault t [] ≡ 14
fault-above t n = rw (ne_eqb (width t) 0 n)

pub fault_on : (t : Topo) (i r : ℕ) (ss : List Step) → 0 < i → i ≤ width t → path_fault t (step i r ∷ ss) ≡ path_fault (child t i) ss
fault_on t i r ss h g = rw (le-leb 1 i h, le-leb i (width t) g)

pub fault_off : (t : Topo) (i r : ℕ) (ss : List Step) → ((0 < i) × (i ≤ width t) → ⊥) → path_fault t (step i r ∷ ss) ≡ 13
fault_off t zero r ss f = refl
fault_off t (suc i) r ss f = by_width (dec_le (suc i) (width t))
  where
    by_width : Dec (suc i ≤ width t) → path_fault t (step (suc i) r ∷ ss) ≡ 13
    by_width (yes h) = absurd (f (omega arith, h))
    by_width (no h) = rw (le-leb 1 (suc i) (omega arith), lt-leb (suc i) (width t) (omega arith))

pub record Faultless (t : Topo) (i : ℕ) (ss : List Step) : Type 0 where
  pub low : 0 < i
  pub high : i ≤ width t
  pub rest : path_fault (child t i) ss ≡ 0

pub fault_step : (t : Topo) (i r : ℕ) (ss : List Step) → path_fault t (step i r ∷ ss) ≡ 0 → Faultless t i ss
fault_step t i r ss h = by_test (leb 1 i && leb i (width t)) refl h
  where
    by_test : (b : Bool) → leb 1 i && leb i (width t) ≡ b → cond b (path_fault (child t i) ss) 13 ≡ 0 → Faultless t i ss
    by_test true e h =
        let c = and_parts (leb 1 i) (leb i (width t)) e in
        record { low = leb-true 1 i c.0; high = leb-true i (width t) c.1; rest = h }
    by_test false e h = absurd (omega arith)

pub step_fault : (t : Topo) (i r : ℕ) (ss : List Step) → Faultless t i ss → path_fault t (step i r ∷ ss) ≡ 0
step_fault t i r ss p = rw (le-leb 1 i p.low, le-leb i (width t) p.high) p.rest

-- The fault of a path is 0, 13 or 14.
pub fault-number : (t : Topo) (ss : List Step) → (path_fault t ss ≡ 0) ⊎ ((path_fault t ss ≡ 13) ⊎ (path_fault t ss ≡ 14))
fault-number t [] = by_test (eqb (width t) 0)
  where
    by_test : (b : Bool) → (◌≡◌ {A = ℕ} (cond b 0 14) 0) ⊎ ((◌≡◌ {A = ℕ} (cond b 0 14) 13) ⊎ (◌≡◌ {A = ℕ} (cond b 0 14) 14))
    by_test true = inl refl
    by_test false = inr (inr refl)
fault-number t (step i r ∷ ss) = by_test (leb 1 i && leb i (width t)) (fault-number (child t i) ss)
  where
    f : ℕ
    f = path_fault (child t i) ss

    by_test : (b : Bool) → (f ≡ 0) ⊎ ((f ≡ 13) ⊎ (f ≡ 14)) → (cond b f 13 ≡ 0) ⊎ ((cond b f 13 ≡ 13) ⊎ (cond b f 13 ≡ 14))
    by_test true h = h
    by_test false h = inr (inl refl)

-- If a path has more steps than the tree is high, one of them names a child that its node lacks. No tree that is read is higher than 8, so a path with
-- a ninth step is refused by 13.
pub too_long : (t : Topo) (ss : List Step) → height t < length ss → path_fault t ss ≡ 13
too_long t [] h = absurd (omega arith)
too_long t (step zero r ∷ ss) h = refl
too_long (node ts) (step (suc k) r ∷ ss) h = by_width (dec_le (suc k) (count ts)) (too_long (nth ts k) ss)
  where
    by_width : Dec (suc k ≤ count ts) → (height (nth ts k) < length ss → path_fault (nth ts k) ss ≡ 13) → path_fault (node ts) (step (suc k) r ∷ ss) ≡ 13
    by_width (yes l) below = fault_on (node ts) (suc k) r ss (omega arith) l ∙ below (omega (arith, nth_height ts k l))
    by_width (no l) below = fault_off (node ts) (suc k) r ss (λ e. l e.1)

pub ninth_step : (limit : ℕ) (bytes : List ℕ) → fault limit bytes ≡ 0 → (ss : List Step) → 9 ≤ length ss → path_fault (tree bytes) ss ≡ 13
ninth_step limit bytes f ss h = too_long (tree bytes) ss (omega (arith, h, (within limit bytes f).steps))

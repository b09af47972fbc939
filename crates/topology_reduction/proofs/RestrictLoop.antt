-- The loop of `restrict`: what is written before node i, and what follows from its answer.
use mathlib.Core.Path.{◌≡◌, refl, sym, ap, ◌∙◌}
use mathlib.Core.Logic.{◌≢◌, ◌⊎◌, inl, inr}
use Prim.Native.Nat.{ℕ, zero, suc, ◌+◌, ◌-◌, ◌≤◌, ◌<◌}
use native.Mathlib.Numerals.{add-one}
use native.Mathlib.Omega.{arith}
use mathlib.Core.List.{List, [], ◌∷◌, ◌++◌, append_assoc, append-nil}
use mathlib.Core.Bool.{Bool, true, false, cond}
use lib.ListN.{length, take, set, replicate, length-append}
use lib.Seq.{take_all, set_at}
use lib.Dec.{eqb}
use borrow.Author.Tests.{eq-eqb, ne_eqb}
use Rattle.topology_reduction.specs.Reduced.{restricted, in32}

-- A list in 32 places: one more number takes one store.
pub in32_next : (l : List ℕ) (n x : ℕ) → length l ≡ n → n < 32 → set (in32 l) n x ≡ in32 (l ++ (x ∷ []))
in32_next l n x e h =
    let p : 32 - length l ≡ suc (31 - length l) = omega (arith, e) in
    let q : 32 - length (l ++ (x ∷ [])) ≡ 31 - length l = omega (arith, length-append l (x ∷ []), e) in
    ap (λ (z : ℕ). set (l ++ replicate z 0) n x) p
    ∙ set_at l 0 (replicate (31 - length l) 0) x n e
    ∙ sym (ap (λ (z : ℕ). (l ++ (x ∷ [])) ++ replicate z 0) q ∙ append_assoc l (x ∷ []) (replicate (31 - length l) 0))

-- at most as many numbers as bytes
pub restricted_fewer : (bs l : List ℕ) → length (restricted bs l) ≤ length bs
restricted_fewer [] l = omega arith
restricted_fewer (b ∷ bs) [] = omega arith
restricted_fewer (b ∷ bs) (x ∷ l) = by_test (eqb b 1) (restricted_fewer bs l)
  where
    by_test : (t : Bool) → length (restricted bs l) ≤ length bs → length (cond t (restricted bs l) (x ∷ restricted bs l)) ≤ suc (length bs)
    by_test true r = omega (arith, r)
    by_test false r = omega (arith, r)

-- lists of equal length are restricted to lists of equal length
pub restricted-alike : (bs l m : List ℕ) → length l ≡ length m → length (restricted bs l) ≡ length (restricted bs m)
restricted-alike [] l m e = refl
restricted-alike (b ∷ bs) [] [] e = refl
restricted-alike (b ∷ bs) [] (y ∷ m) e = absurd (omega arith)
restricted-alike (b ∷ bs) (x ∷ l) [] e = absurd (omega arith)
restricted-alike (b ∷ bs) (x ∷ l) (y ∷ m) e = by_test (eqb b 1) (restricted-alike bs l m (omega (arith, e)))
  where
    by_test : (t : Bool) → length (restricted bs l) ≡ length (restricted bs m)
        → length (cond t (restricted bs l) (x ∷ restricted bs l)) ≡ length (cond t (restricted bs m) (y ∷ restricted bs m))
    by_test true r = r
    by_test false r = ap suc r

-- The scan of `restrict`: what is written, with what is left of both lists restricted, stays the same list. At most n bytes are still read.
module _ (numbers whole : List ℕ) (n m : ℕ) (bytes list bs l : List ℕ) (b x : ℕ) (e : bytes ≡ b ∷ bs) (f : list ≡ x ∷ l) (q : m + 1 ≡ n)
    (same : numbers ++ restricted (take n bytes) list ≡ whole) where
  pub restrict-step : (t : Bool) → eqb b 1 ≡ t → numbers ++ cond t (restricted (take m bs) l) (x ∷ restricted (take m bs) l) ≡ whole
  restrict-step t z = rw (← z, ← same, e, f, ← q, add-one m) refl

  pub restrict-kept : b ≢ 1 → (numbers ++ (x ∷ [])) ++ restricted (take m bs) l ≡ whole
  restrict-kept k = append_assoc numbers (x ∷ []) (restricted (take m bs) l) ∙ restrict-step false (ne_eqb b 1 k)

  pub restrict_passed : b ≡ 1 → numbers ++ restricted (take m bs) l ≡ whole
  restrict_passed k = restrict-step true (eq-eqb b 1 k)

-- nothing is left to read
pub restrict_end : (numbers whole : List ℕ) (n : ℕ) (bytes list : List ℕ) → numbers ++ restricted (take n bytes) list ≡ whole
    → (0 < n → (length bytes ≡ 0) ⊎ (length list ≡ 0)) → numbers ≡ whole
restrict_end numbers whole n bytes list same h = sym (append-nil numbers) ∙ ap (λ (k : List ℕ). numbers ++ k) (sym (left n bytes list h)) ∙ same
  where
    left : (n : ℕ) (bytes list : List ℕ) → (0 < n → (length bytes ≡ 0) ⊎ (length list ≡ 0)) → restricted (take n bytes) list ≡ []
    left zero bytes list h = refl
    left (suc n) [] list h = refl
    left (suc n) (b ∷ bs) [] h = refl
    left (suc n) (b ∷ bs) (x ∷ l) h = elim (h (omega arith)) [ inl e ↦ absurd (omega arith) | inr e ↦ absurd (omega arith) ]

-- For callers with at most 32 bytes: all of them are read.
pub restrict-held : (bytes list : List ℕ) → length bytes ≤ 32 → restricted (take 32 bytes) list ≡ restricted bytes list
restrict-held bytes list h = ap (λ (z : List ℕ). restricted z list) (take_all 32 bytes h)

-- a list with room has a number more
pub room : (n b : ℕ) (old new : List ℕ) → new ≡ take n (old ++ (b ∷ [])) → length old < n → new ≡ old ++ (b ∷ [])
room n b old new e h = e ∙ take_all n (old ++ (b ∷ [])) (omega (arith, h, length-append old (b ∷ [])))

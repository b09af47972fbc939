-- A way is filled from its end at the leaf to its beginning, one place at a time.
use mathlib.Core.Path.{◌≡◌, refl, sym, ap, ap₂, ◌∙◌}
use Prim.Native.Nat.{ℕ, zero, suc, ◌+◌, ◌-◌, ◌≤◌}
use native.Mathlib.Omega.{arith}
use mathlib.Core.List.{List, [], ◌∷◌, ◌++◌, map}
use lib.ListN.{length, set, replicate, replicate-append-replicate}
use Rattle.pifo_model.specs.Way.{Taken, taken}
use Rattle.queue_pop.specs.Way.{code_taken, no_taken, way_from}
use Rattle.queue_pop.specs.declared.Taken.{Taken as CodeTaken}
use Rattle.queue_pop.specs.declared.Way.{Way}

-- the last of the empty places before a list is filled
set_last {ℓ} : {A : Type ℓ} (n : ℕ) (z x : A) (l : List A) → set (replicate (suc n) z ++ l) n x ≡ replicate n z ++ (x ∷ l)
set_last zero z x l = refl
set_last (suc n) z x l = ap (λ r. z ∷ r) (set_last n z x l)

abbrev way_of : List CodeTaken → ℕ → Way
way_of places count = record { taken = places; count = count }

-- the way with one more node at its front
pub before : (d n i r : ℕ) (ts : List Taken)
    → way_of (set (way_from (suc d) ts).taken d (code_taken (taken n i r))) (way_from (suc d) ts).count ≡ way_from d (taken n i r ∷ ts)
before d n i r ts =
    let e : suc d + length ts ≡ d + suc (length ts) = omega arith in
    ap₂ way_of
    (set_last d no_taken (code_taken (taken n i r)) (map code_taken ts ++ replicate (9 - (suc d + length ts)) no_taken)
    ∙ ap (λ (k : ℕ). replicate d no_taken ++ (code_taken (taken n i r) ∷ (map code_taken ts ++ replicate (9 - k) no_taken))) e)
    e

-- no entry is taken yet: the empty way at depth d
pub nothing : (d : ℕ) → d ≤ 9 → way_of (replicate 9 no_taken) d ≡ way_from d []
nothing d h =
    let e : d + (9 - (d + 0)) ≡ 9 = omega arith in
    let f : d ≡ d + 0 = omega arith in
    ap₂ way_of (ap (λ (k : ℕ). replicate k no_taken) (sym e) ∙ sym (replicate-append-replicate d (9 - (d + 0)) no_taken)) f

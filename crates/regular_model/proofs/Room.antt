-- Branches of given heights, in leaves: a complete tree of height h has d ^ h. A test chooses some of the branches.
use mathlib.Core.Path.{◌≡◌, refl, sym, ap, ap₂, ◌∙◌}
use mathlib.Core.Logic.{◌⊎◌, inl, inr}
use Prim.Native.Nat.{ℕ, zero, suc, ◌+◌, ◌-◌, ◌*◌, ◌^◌, ◌≤◌, ◌<◌}
use native.Mathlib.Nat.{not-suc-le-zero, le_of_suc-le-suc, add-mul}
use native.Mathlib.Omega.{arith}
use mathlib.Core.List.{List, [], ◌∷◌}
use mathlib.Core.Bool.{Bool, true, false, cond, false≢true}
use lib.ListN.{length, get_or}
use lib.Pow.{pow-add}
use Rattle.base.specs.Sum.{sum}
use Rattle.regular_model.specs.InnerNeed.{powers}

-- The number of branches of height h that have as many leaves as the chosen branches together; for h = 0 it is the number of these leaves.
abbrev pub room : ℕ → ℕ → (ℕ → Bool) → List ℕ → ℕ
room d h test [] = 0
room d h test (x ∷ hs) = cond (test 0) (d ^ (x - h)) 0 + room d h (λ i. test (suc i)) hs

pub room_all : (d : ℕ) (hs : List ℕ) → room d 0 (λ i. true) hs ≡ sum (powers d hs)
room_all d [] = refl
room_all d (x ∷ hs) =
    let q : x - 0 ≡ x = omega arith in
    rw q (ap (λ (s : ℕ). d ^ x + s) (room_all d hs))

-- If no chosen branch is lower than h, that number of branches of height h has exactly the leaves of the chosen ones.
pub room-leaves : (d h : ℕ) (test : ℕ → Bool) (hs : List ℕ) → ((i : ℕ) → test i ≡ true → h ≤ get_or hs i 0) → room d h test hs * d ^ h ≡ room d 0 test hs
room-leaves d h test [] f = omega arith
room-leaves d h test (x ∷ hs) f =
    add-mul (cond (test 0) (d ^ (x - h)) 0) (room d h (λ i. test (suc i)) hs) (d ^ h)
    ∙ ap₂ ◌+◌ (one (test 0) (f 0)) (room-leaves d h (λ i. test (suc i)) hs (λ i e. f (suc i) e))
  where
    one : (b : Bool) → (b ≡ true → h ≤ x) → cond b (d ^ (x - h)) 0 * d ^ h ≡ cond b (d ^ (x - 0)) 0
    one false g = omega arith
    one true g = sym (pow-add d (x - h) h) ∙ ap (λ (n : ℕ). d ^ n) (omega (arith, g refl))

pick_more : (n : ℕ) (a b : Bool) → (a ≡ true → b ≡ true) → cond a n 0 ≤ cond b n 0
pick_more n false b g = omega arith
pick_more n true true g = omega arith
pick_more n true false g = absurd (false≢true (g refl))

-- If q chooses all branches that p chooses, those of q have at least as many leaves.
pub room_more : (d : ℕ) (p q : ℕ → Bool) (hs : List ℕ) → ((i : ℕ) → i < length hs → p i ≡ true → q i ≡ true) → room d 0 p hs ≤ room d 0 q hs
room_more d p q [] f = omega arith
room_more d p q (x ∷ hs) f = omega (arith, pick_more (d ^ (x - 0)) (p 0) (q 0) (f 0 (omega arith)), room_more d (λ i. p (suc i)) (λ i. q (suc i)) hs (λ i l e. f (suc i) (omega arith) e))

-- If q also chooses the branch at place j, those of q have at least its leaves more.
pub room_one : (d : ℕ) (p q : ℕ → Bool) (hs : List ℕ) (j : ℕ) → j < length hs → ((i : ℕ) → p i ≡ true → q i ≡ true) → p j ≡ false → q j ≡ true
    → room d 0 p hs + d ^ get_or hs j 0 ≤ room d 0 q hs
room_one d p q [] j l f e g = absurd (not-suc-le-zero l)
room_one d p q (x ∷ hs) zero l f e g =
    let same : x - 0 ≡ x = omega arith in
    rw (e, g, same) (omega (arith, room_more d (λ i. p (suc i)) (λ i. q (suc i)) hs (λ i g e. f (suc i) e)))
room_one d p q (x ∷ hs) (suc j) l f e g =
    omega (arith, room_one d (λ i. p (suc i)) (λ i. q (suc i)) hs j (le_of_suc-le-suc l) (λ i e. f (suc i) e) e g, pick_more (d ^ (x - 0)) (p 0) (q 0) (f 0))

-- If each branch that p chooses is chosen by q or r, those of p have at most the leaves of q's and r's together.
pub room_split : (d : ℕ) (p q r : ℕ → Bool) (hs : List ℕ) → ((i : ℕ) → i < length hs → p i ≡ true → (q i ≡ true) ⊎ (r i ≡ true))
    → room d 0 p hs ≤ room d 0 q hs + room d 0 r hs
room_split d p q r [] f = omega arith
room_split d p q r (x ∷ hs) f =
    omega (arith, one (p 0) (q 0) (r 0) (f 0 (omega arith)), room_split d (λ i. p (suc i)) (λ i. q (suc i)) (λ i. r (suc i)) hs (λ i l e. f (suc i) (omega arith) e))
  where
    one : (a b c : Bool) → (a ≡ true → (b ≡ true) ⊎ (c ≡ true)) → cond a (d ^ (x - 0)) 0 ≤ cond b (d ^ (x - 0)) 0 + cond c (d ^ (x - 0)) 0
    one false b c g = omega arith
    one true true c g = omega arith
    one true false true g = omega arith
    one true false false g = absurd (neither (g refl))
      where
        neither : (false ≡ true) ⊎ (false ≡ true) → ⊥
        neither (inl e) = false≢true e
        neither (inr e) = false≢true e

-- If none is chosen, there is no leaf.
abbrev pub None : ℕ → (ℕ → Bool) → Type 0
None n test = (i : ℕ) → i < n → test i ≡ true → ⊥

pub room_none : (d : ℕ) (p : ℕ → Bool) (hs : List ℕ) → None (length hs) p → room d 0 p hs ≡ 0
room_none d p [] f = refl
room_none d p (x ∷ hs) f = omega (arith, one (p 0) (f 0 (omega arith)), room_none d (λ i. p (suc i)) hs (λ i l e. f (suc i) (omega arith) e))
  where
    one : (a : Bool) → (a ≡ true → ⊥) → cond a (d ^ (x - 0)) 0 ≡ 0
    one false g = refl
    one true g = absurd (g refl)

-- If only the branch at place j is chosen, there are at most its leaves.
pub room_only : (d : ℕ) (p : ℕ → Bool) (hs : List ℕ) (j : ℕ) → j < length hs → ((i : ℕ) → i < length hs → p i ≡ true → i ≡ j) → room d 0 p hs ≤ d ^ get_or hs j 0
room_only d p [] j l f = absurd (not-suc-le-zero l)
room_only d p (x ∷ hs) zero l f =
    let same : x - 0 ≡ x = omega arith in
    rw same (omega (arith, one (p 0), room_none d (λ i. p (suc i)) hs (λ i g e. omega (arith, f (suc i) (omega arith) e))))
  where
    one : (a : Bool) → cond a (d ^ x) 0 ≤ d ^ x
    one false = omega arith
    one true = omega arith
room_only d p (x ∷ hs) (suc j) l f =
    omega (arith, one (p 0) (f 0 (omega arith)), room_only d (λ i. p (suc i)) hs j (le_of_suc-le-suc l) (λ i g e. omega (arith, f (suc i) (omega arith) e)))
  where
    one : (a : Bool) → (a ≡ true → 0 ≡ suc j) → cond a (d ^ (x - 0)) 0 ≡ 0
    one false g = refl
    one true g = absurd (omega (arith, g refl))

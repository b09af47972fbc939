-- Sets and lists of images as numbers. The number determines the set, and taking out a member subtracts its power. The digits of a packed list are its
-- elements, and of two lists the one that is smaller at the highest place where they differ has the smaller number.
use mathlib.Core.Path.{◌≡◌, refl, sym, ap, ◌∙◌}
use mathlib.Core.Logic.{◌≢◌}
use Prim.Native.Nat.{ℕ, zero, suc, ◌+◌, ◌*◌, ◌/◌, ◌%◌, ◌<◌, ◌≤◌}
use native.Mathlib.Nat.{not-suc-le-zero, le_of_suc-le-suc, mul_left_comm, mul-le-mul_right, div-one, zero-div, div-div-eq-div-mul, div-add-mod', mod-lt, mod-le, suc-mod, div-eq_of_lt-le, div-lt_iff_lt-mul}
use native.Mathlib.Decide.{dec_lt}
use native.Mathlib.Omega.{arith}
use mathlib.Core.List.{List, [], ◌∷◌}
use mathlib.Core.Bool.{Bool, true, false}
use lib.ListN.{length, get_or, set, drop, replicate}
use Rattle.base.proofs.Tests.{clash}
use Rattle.embedding_program.specs.InnerSets.{power, number, holding, weight, pack, digit}
use Rattle.embedding_program.specs.InnerPlacing.{Member}

pub power_le : (a b : ℕ) → a ≤ b → power a ≤ power b
power_le zero zero h = omega arith
power_le zero (suc b) h = omega (arith, power_le zero b (omega arith))
power_le (suc a) zero h = absurd (not-suc-le-zero h)
power_le (suc a) (suc b) h = omega (arith, power_le a b (le_of_suc-le-suc h))

pub weight_le : (a b : ℕ) → a ≤ b → weight a ≤ weight b
weight_le zero zero h = omega arith
weight_le zero (suc b) h = omega (arith, weight_le zero b (omega arith))
weight_le (suc a) zero h = absurd (not-suc-le-zero h)
weight_le (suc a) (suc b) h = omega (arith, weight_le a b (le_of_suc-le-suc h))

pub number_bound : (bs : List Bool) → number bs < power (length bs)
number_bound [] = omega arith
number_bound (true ∷ bs) = omega (arith, number_bound bs)
number_bound (false ∷ bs) = omega (arith, number_bound bs)

pub member_length : (bs : List Bool) (i : ℕ) → Member bs i → i < length bs
member_length [] i e = absurd (clash (cc))
member_length (b ∷ bs) zero e = omega arith
member_length (b ∷ bs) (suc i) e = omega (arith, member_length bs i e)

halves : (n m i : ℕ) → n / 2 ≡ m → m / power i ≡ n / power (suc i)
halves n m i e = ap (λ (x : ℕ). x / power i) (sym e) ∙ div-div-eq-div-mul n 2 (power i)

-- what is left of a set from place i on
pub number-drop : (i : ℕ) (bs : List Bool) → number (drop i bs) ≡ number bs / power i
number-drop zero bs = sym (div-one (number bs))
number-drop (suc i) [] = sym (zero-div (power (suc i)))
number-drop (suc i) (true ∷ bs) = number-drop i bs ∙ halves (1 + 2 * number bs) (number bs) i (omega arith)
number-drop (suc i) (false ∷ bs) = number-drop i bs ∙ halves (2 * number bs) (number bs) i (omega arith)

pub number_odd : (bs : List Bool) (i : ℕ) → number (drop i bs) % 2 ≢ 0 → Member bs i
number_odd [] zero h = absurd (h refl)
number_odd [] (suc i) h = absurd (h refl)
number_odd (true ∷ bs) zero h = refl
number_odd (false ∷ bs) zero h = absurd (omega arith)
number_odd (b ∷ bs) (suc i) h = number_odd bs i h

pub number_even : (bs : List Bool) (i : ℕ) → number (drop i bs) % 2 ≡ 0 → get_or bs i false ≡ false
number_even [] zero h = refl
number_even [] (suc i) h = refl
number_even (true ∷ bs) zero h = absurd (omega arith)
number_even (false ∷ bs) zero h = refl
number_even (b ∷ bs) (suc i) h = number_even bs i h

pub number_clear : (bs : List Bool) (i : ℕ) → Member bs i → number (set bs i false) + power i ≡ number bs
number_clear [] i e = absurd (clash (cc))
number_clear (true ∷ bs) zero e = omega arith
number_clear (false ∷ bs) zero e = absurd (clash (cc))
number_clear (true ∷ bs) (suc i) e = omega (arith, number_clear bs i e)
number_clear (false ∷ bs) (suc i) e = omega (arith, number_clear bs i e)

pub number-empty : (bs : List Bool) → number bs ≡ 0 → (i : ℕ) → get_or bs i false ≡ false
number-empty [] e i = refl
number-empty (true ∷ bs) e i = absurd (omega arith)
number-empty (false ∷ bs) e zero = refl
number-empty (false ∷ bs) e (suc i) = number-empty bs (omega arith) i

pub number_some : (bs : List Bool) → number bs ≢ 0 → (i : ℕ) × Member bs i
number_some [] h = absurd (h refl)
number_some (true ∷ bs) h = (0, refl)
number_some (false ∷ bs) h =
    let r = number_some bs (omega arith) in
    (suc r.0, r.1)

pub number-full : (k : ℕ) → number (replicate k true) + 1 ≡ power k
number-full zero = refl
number-full (suc k) = omega (arith, number-full k)

-- The sets that contain the child of the given power. With h = a * pow + r, where r is less than pow, the set is (2 * a + 1) * pow + r.
module _ (pow : ℕ) (some : 0 < pow) where
  turn : (a j : ℕ) → a * pow ≤ j → j < a * pow + pow → j / pow ≡ a
  turn a j l g = div-eq_of_lt-le pow l (omega arith)

  pub holding_member : (h : ℕ) → holding pow h / pow % 2 ≡ 1
  holding_member h =
      let parts = div-add-mod' h pow in
      let small = mod-lt h some in
      let e = turn (2 * (h / pow) + 1) (holding pow h) (omega arith) (omega arith) in
      omega arith

  pub holding_less : (h : ℕ) → holding pow h < holding pow (h + 1)
  holding_less h =
      let e : h + 1 ≡ suc h = omega arith in
      let next : (h + 1) % pow ≡ suc (h % pow) % pow = ap (λ (n : ℕ). n % pow) e ∙ suc-mod h pow in
      omega (arith, mod-le h pow, mod-le (suc (h % pow)) pow)

  -- the sets before the first, and those between one and the next, do not contain the child
  pub before_first : (j : ℕ) → j < holding pow 0 → j / pow % 2 ≡ 0
  before_first j l =
      let e = turn 0 j (omega arith) (omega (arith, mod-lt 0 some)) in
      omega arith

  -- the set of h + 1 follows the set of h at once; or it begins the next group, and the sets between them do not contain the child
  pub between : (h j : ℕ) → holding pow h < j → j < holding pow (h + 1) → j / pow % 2 ≡ 0
  between h j l g = by_round (dec_lt (h % pow + 1) pow)
    where
      parts : h / pow * pow + h % pow ≡ h
      parts = div-add-mod' h pow

      more : (h + 1) / pow * pow + (h + 1) % pow ≡ h + 1
      more = div-add-mod' (h + 1) pow

      by_round : Dec (h % pow + 1 < pow) → j / pow % 2 ≡ 0
      by_round (yes k) =
          let same = ap (λ (a : ℕ). a * pow) (turn (h / pow) (h + 1) (omega (arith, parts)) (omega (arith, parts))) in
          absurd (omega (arith, parts, more))
      by_round (no k) =
          let small = mod-lt h some in
          let next = ap (λ (a : ℕ). a * pow) (turn (h / pow + 1) (h + 1) (omega (arith, parts)) (omega (arith, parts))) in
          let e = turn (2 * (h / pow + 1)) j (omega (arith, parts)) (omega (arith, parts, more)) in
          omega arith

  pub holding-fits : (turns h : ℕ) → h < turns * pow → holding pow h < 2 * (turns * pow)
  holding-fits turns h l =
      let parts = div-add-mod' h pow in
      let small = mod-lt h some in
      let full = mul-le-mul_right pow ((div-lt_iff_lt-mul some).1 l) in
      omega arith

-- a packed list is the part at one place plus the rest
pub pack_clear : (ys : List ℕ) (i : ℕ) → i < length ys → pack ys ≡ get_or ys i 0 * weight i + pack (set ys i 0)
pack_clear [] i h = absurd (not-suc-le-zero h)
pack_clear (y ∷ ys) zero h = omega arith
pack_clear (y ∷ ys) (suc i) h =
    let r = pack_clear ys i (le_of_suc-le-suc h) in
    let q : get_or ys i 0 * (64 * weight i) ≡ 64 * (get_or ys i 0 * weight i) = mul_left_comm (get_or ys i 0) 64 (weight i) in
    omega arith

pub pack_bound : (ys : List ℕ) → ((i : ℕ) → i < length ys → get_or ys i 0 < 64) → pack ys < weight (length ys)
pack_bound [] f = omega arith
pack_bound (y ∷ ys) f =
    let h = f 0 (omega arith) in
    omega (arith, pack_bound ys (λ i l. f (suc i) (omega arith)))

pub digit-pack : (ys : List ℕ) → ((i : ℕ) → i < length ys → get_or ys i 0 < 64) → (i : ℕ) → i < length ys → digit i (pack ys) ≡ get_or ys i 0
digit-pack [] f i h = absurd (not-suc-le-zero h)
digit-pack (y ∷ ys) f zero h = omega (arith, f 0 h)
digit-pack (y ∷ ys) f (suc i) h =
    let e : (y + 64 * pack ys) / 64 ≡ pack ys = omega (arith, f 0 (omega arith)) in
    rw e (digit-pack ys (λ i l. f (suc i) (omega arith)) i (le_of_suc-le-suc h))

pack_same : (ys zs : List ℕ) → length ys ≡ length zs → ((i : ℕ) → i < length ys → get_or ys i 0 ≡ get_or zs i 0) → pack ys ≡ pack zs
pack_same [] [] e f = refl
pack_same [] (z ∷ zs) e f = absurd (omega arith)
pack_same (y ∷ ys) [] e f = absurd (omega arith)
pack_same (y ∷ ys) (z ∷ zs) e f =
    let r = pack_same ys zs (omega arith) (λ i l. f (suc i) (omega arith)) in
    omega (arith, f 0 (omega arith))

pub pack_less : (ys zs : List ℕ) → length ys ≡ length zs → ((i : ℕ) → i < length ys → get_or ys i 0 < 64) → (j : ℕ) → j < length ys
    → get_or ys j 0 < get_or zs j 0 → ((i : ℕ) → j < i → i < length ys → get_or ys i 0 ≡ get_or zs i 0) → pack ys < pack zs
pack_less [] zs e f j h l g = absurd (not-suc-le-zero h)
pack_less (y ∷ ys) [] e f j h l g = absurd (omega arith)
pack_less (y ∷ ys) (z ∷ zs) e f zero h l g =
    let r = pack_same ys zs (omega arith) (λ i k. g (suc i) (omega arith) (omega arith)) in
    omega arith
pack_less (y ∷ ys) (z ∷ zs) e f (suc j) h l g =
    let r = pack_less ys zs (omega arith) (λ i k. f (suc i) (omega arith)) j (omega arith) l (λ i a b. g (suc i) (omega arith) (omega arith)) in
    let y_small = f 0 (omega arith) in
    omega arith

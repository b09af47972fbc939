-- Branches of given heights placed side by side in a complete tree.
--
-- The branches are placed along the leaves, the highest first, and those of one height in their order. A branch of height h takes d ^ h leaves. All
-- branches placed before it are at least as high, so it begins at a multiple of d ^ h, as the branch of a node does. No two branches share a leaf, so
-- none lies above another. They fit if they take together at most d ^ k leaves, as many as the complete tree of depth k has.
use mathlib.Core.Path.{◌≡◌, refl, sym, ap, ap₂, ◌∙◌, subst}
use mathlib.Core.Logic.{◌≢◌, ◌⊎◌, inl, inr}
use Prim.Native.Nat.{ℕ, zero, suc, ◌+◌, ◌-◌, ◌*◌, ◌/◌, ◌%◌, ◌^◌, ◌≤◌, ◌<◌}
use native.Mathlib.Nat.{mod-lt, div-add-mod, suc-mul, mul-suc, mul_assoc, mul_comm, mul-le-mul_left, lt_of_mul-lt-mul_right, le_of_mul-le-mul_right, pow-zero, pow-succ', pow-le-pow_right}
use native.Mathlib.Decide.{dec_le, dec_lt}
use native.Mathlib.Omega.{arith}
use mathlib.Core.List.{List, [], ◌∷◌, ◌++◌, append_assoc, append-nil}
use mathlib.Core.Bool.{Bool, true, false, ◌&&◌, ◌||◌, false≢true}
use lib.ListN.{length, get_or, length-append}
use lib.Pow.{pow-add}
use lib.Dec.{eqb, ltb}
use borrow.Author.Tests.{eq-eqb, lt-ltb, le-ltb, eqb-true, ltb-true}
use Rattle.base.specs.Sum.{sum}
use Rattle.std.proofs.lemmas.List.{same_from_push}
use Rattle.topology.specs.Tree.{Topo, width}
use Rattle.topology.specs.Address.{Addr, child, In, sub, Above}
use Rattle.topology.proofs.Ancestry.{in_join, sub-append}
use Rattle.topology.proofs.AncestryOrder.{above_same}
use Rattle.regular_model.specs.Regular.{complete}
use Rattle.regular_model.specs.InnerNeed.{powers}
use Rattle.regular_model.proofs.Enough.{power_pos, power_rises}
use Rattle.regular_model.proofs.Complete.{child-complete, width-complete}
use Rattle.regular_model.proofs.Room.{room, room_all, room-leaves, room_one}

-- ---- nodes by their number among those of one level, from the left

-- the address of the node with number s, n steps down
abbrev pub way_to : ℕ → ℕ → ℕ → Addr
way_to d zero s = []
way_to d (suc n) s = way_to d n (s / d) ++ (suc (s % d) ∷ [])

-- the number of the node n steps above the node with number s
abbrev ancestor : ℕ → ℕ → ℕ → ℕ
ancestor d zero s = s
ancestor d (suc n) s = ancestor d n (s / d)

way_length : (d n s : ℕ) → length (way_to d n s) ≡ n
way_length d zero s = refl
way_length d (suc n) s = omega (arith, length-append (way_to d n (s / d)) (suc (s % d) ∷ []), way_length d n (s / d))

way_in : (d h n s : ℕ) → 0 < d → ancestor d n s ≡ 0 → In (complete d (n + h)) (way_to d n s) × (sub (complete d (n + h)) (way_to d n s) ≡ complete d h)
way_in d h zero s z e =
    let q : 0 + h ≡ h = omega arith in
    (tt, ap (complete d) q)
way_in d h (suc n) s z e =
    let r = way_in d (suc h) n (s / d) z e in
    let q : n + suc h ≡ suc n + h = omega arith in
    let u = way_to d n (s / d) in
    let last : Addr = suc (s % d) ∷ [] in
    let small : s % d < d = mod-lt s z in
    let high : suc (s % d) ≤ width (complete d (suc h)) = omega (arith, small, width-complete d h) in
    let there : In (complete d (n + suc h)) (u ++ last) =
    in_join (complete d (n + suc h)) u last r.0 (subst (λ (t : Topo). In t last) (sym r.1) (omega arith, high, tt)) in
    let low : sub (complete d (n + suc h)) (u ++ last) ≡ complete d h =
    sub-append (complete d (n + suc h)) u last
    ∙ ap (λ (t : Topo). child t (suc (s % d))) r.1
    ∙ child-complete d h (suc (s % d)) (omega arith) small in
    subst (λ (k : ℕ). In (complete d k) (u ++ last) × (sub (complete d k) (u ++ last) ≡ complete d h)) q (there, low)

-- the way to a node leads through each of its ancestors
way_split : (d m n s : ℕ) → Above (way_to d m (ancestor d n s)) (way_to d (n + m) s)
way_split d m zero s =
    let q : 0 + m ≡ m = omega arith in
    ([], ap (λ (k : ℕ). way_to d k s) q ∙ sym (append-nil (way_to d m s)))
way_split d m (suc n) s =
    let r = way_split d m n (s / d) in
    let last : Addr = suc (s % d) ∷ [] in
    let q : suc n + m ≡ suc (n + m) = omega arith in (
      r.0 ++ last,
      ap (λ (k : ℕ). way_to d k s) q ∙ ap (λ (a : Addr). a ++ last) r.1 ∙ append_assoc (way_to d m (ancestor d n (s / d))) r.0 last,
    )

way_inj : (d m s u : ℕ) → ancestor d m s ≡ ancestor d m u → way_to d m s ≡ way_to d m u → s ≡ u
way_inj d zero s u e w = e
way_inj d (suc m) s u e w =
    let l = same_from_push (way_to d m (s / d)) (way_to d m (u / d)) (suc (s % d)) (suc (u % d)) w in
    let q = way_inj d m (s / d) (u / d) e l.0 in
    omega (arith, l.1, ap (λ (x : ℕ). d * x) q, div-add-mod s d, div-add-mod u d)

-- a node lies above another only if its number is that of the other's ancestor
way_above : (d m n s u : ℕ) → ancestor d n s ≢ u → ancestor d m (ancestor d n s) ≡ ancestor d m u → Above (way_to d m u) (way_to d (n + m) s) → ⊥
way_above d m n s u ne e a =
    let v = way_to d m (ancestor d n s) in
    ne (way_inj d m (ancestor d n s) u e
    (above_same v (way_to d m u) (way_to d (n + m) s) (way_length d m (ancestor d n s) ∙ sym (way_length d m u)) (way_split d m n s) a))

ancestor-sum : (d n m s : ℕ) → ancestor d (n + m) s ≡ ancestor d m (ancestor d n s)
ancestor-sum d zero m s =
    let q : 0 + m ≡ m = omega arith in
    ap (λ (x : ℕ). ancestor d x s) q
ancestor-sum d (suc n) m s =
    let q : suc n + m ≡ suc (n + m) = omega arith in
    ap (λ (x : ℕ). ancestor d x s) q ∙ ancestor-sum d n m (s / d)

-- The node n steps above is the ancestor of d ^ n consecutive numbers.
ancestor-suc : (d n l : ℕ) → l * d ^ suc n ≡ d * (l * d ^ n)
ancestor-suc d n l =
    ap (λ (x : ℕ). l * x) (pow-succ' d n) ∙ sym (mul_assoc l d (d ^ n)) ∙ ap (λ (x : ℕ). x * d ^ n) (mul_comm l d) ∙ mul_assoc d l (d ^ n)

ancestor-least : (d n s : ℕ) → ancestor d n s * d ^ n ≤ s
ancestor-least d zero s = omega (arith, ap (λ (x : ℕ). s * x) (pow-zero d))
ancestor-least d (suc n) s =
    let l = ancestor d n (s / d) in
    omega (arith, ancestor-suc d n l, mul-le-mul_left {m = l * d ^ n} {n = s / d} d (ancestor-least d n (s / d)), div-add-mod s d)

ancestor_most : (d n s : ℕ) → 0 < d → s < suc (ancestor d n s) * d ^ n
ancestor_most d zero s z = omega (arith, ap (λ (x : ℕ). suc s * x) (pow-zero d))
ancestor_most d (suc n) s z =
    let l = suc (ancestor d n (s / d)) in
    omega (arith, ancestor-suc d n l, mul-le-mul_left {m = suc (s / d)} {n = l * d ^ n} d (ancestor_most d n (s / d) z), mul-suc d (s / d), div-add-mod s d, mod-lt s z)

ancestor_none : (d n s : ℕ) → s < d ^ n → ancestor d n s ≡ 0
ancestor_none d n s h = by_number (ancestor d n s) refl
  where
    by_number : (x : ℕ) → ancestor d n s ≡ x → x ≡ 0
    by_number zero e = refl
    by_number (suc x) e = absurd (omega (arith, ancestor-least d n s, ap (λ (y : ℕ). y * d ^ n) e, suc-mul x (d ^ n)))

-- ---- the order in which the branches are placed

-- whether the branch at place j is placed before the one at place i
abbrev earlier : List ℕ → ℕ → ℕ → Bool
earlier hs i j = ltb (get_or hs i 0) (get_or hs j 0) || (eqb (get_or hs i 0) (get_or hs j 0) && ltb j i)

abbrev Earlier : List ℕ → ℕ → ℕ → Type 0
Earlier hs i j = (get_or hs i 0 < get_or hs j 0) ⊎ ((get_or hs i 0 ≡ get_or hs j 0) × (j < i))

earlier_is : (hs : List ℕ) (i j : ℕ) → earlier hs i j ≡ true → Earlier hs i j
earlier_is hs i j e = by_tests (ltb (get_or hs i 0) (get_or hs j 0)) (eqb (get_or hs i 0) (get_or hs j 0)) (ltb j i) refl refl refl e
  where
    by_tests : (a b c : Bool) → ltb (get_or hs i 0) (get_or hs j 0) ≡ a → eqb (get_or hs i 0) (get_or hs j 0) ≡ b → ltb j i ≡ c → a || (b && c) ≡ true → Earlier hs i j
    by_tests true b c p q r e = inl (ltb-true (get_or hs i 0) (get_or hs j 0) p)
    by_tests false true true p q r e = inr (eqb-true (get_or hs i 0) (get_or hs j 0) q, ltb-true j i r)
    by_tests false true false p q r e = absurd (false≢true e)
    by_tests false false c p q r e = absurd (false≢true e)

is_earlier : (hs : List ℕ) (i j : ℕ) → Earlier hs i j → earlier hs i j ≡ true
is_earlier hs i j (inl l) = rw (lt-ltb (get_or hs i 0) (get_or hs j 0) l)
is_earlier hs i j (inr (e, l)) =
    rw (le-ltb (get_or hs i 0) (get_or hs j 0) (omega (arith, e)), eq-eqb (get_or hs i 0) (get_or hs j 0) e, lt-ltb j i l)

not_itself : (hs : List ℕ) (i : ℕ) → earlier hs i i ≡ false
not_itself hs i = rw (le-ltb (get_or hs i 0) (get_or hs i 0) (omega arith), eq-eqb (get_or hs i 0) (get_or hs i 0) refl, le-ltb i i (omega arith))

earlier_trans : (hs : List ℕ) (i j l : ℕ) → Earlier hs i j → Earlier hs j l → Earlier hs i l
earlier_trans hs i j l (inl p) (inl q) = inl (omega arith)
earlier_trans hs i j l (inl p) (inr q) = inl (omega (arith, q.0))
earlier_trans hs i j l (inr p) (inl q) = inl (omega (arith, p.0))
earlier_trans hs i j l (inr p) (inr q) = inr (p.0 ∙ q.0, omega (arith, p.1, q.1))

earlier_either : (hs : List ℕ) (i j : ℕ) → i ≢ j → Earlier hs i j ⊎ Earlier hs j i
earlier_either hs i j n = by_height (dec_lt (get_or hs i 0) (get_or hs j 0)) (dec_lt (get_or hs j 0) (get_or hs i 0)) (dec_lt j i)
  where
    by_height : Dec (get_or hs i 0 < get_or hs j 0) → Dec (get_or hs j 0 < get_or hs i 0) → Dec (j < i) → Earlier hs i j ⊎ Earlier hs j i
    by_height (yes l) g o = inl (inl l)
    by_height (no l) (yes g) o = inr (inl g)
    by_height (no l) (no g) (yes o) = inl (inr (omega arith, o))
    by_height (no l) (no g) (no o) = inr (inr (omega arith, omega arith))

-- ---- the node of each branch

-- the number of the branch at place i among the nodes of its height
abbrev pub slot : ℕ → List ℕ → ℕ → ℕ
slot d hs i = room d (get_or hs i 0) (earlier hs i) hs

module _ (d : ℕ) (z : 2 ≤ d) (hs : List ℕ) where
  pos : 0 < d
  pos = omega arith

  -- the branches placed before a branch are at least as high, so their leaves are those of a whole number of branches of its height
  slot-leaves : (i : ℕ) → slot d hs i * d ^ get_or hs i 0 ≡ room d 0 (earlier hs i) hs
  slot-leaves i = room-leaves d (get_or hs i 0) (earlier hs i) hs (λ j e. no_lower j (earlier_is hs i j e))
    where
      no_lower : (j : ℕ) → Earlier hs i j → get_or hs i 0 ≤ get_or hs j 0
      no_lower j (inl l) = omega arith
      no_lower j (inr (e, l)) = omega (arith, e)

  -- A branch begins at or after the end of each branch that is placed before it.
  slot_after : (i j : ℕ) → j < length hs → Earlier hs i j → suc (slot d hs j) * d ^ get_or hs j 0 ≤ slot d hs i * d ^ get_or hs i 0
  slot_after i j l e =
      omega (
        arith,
        suc-mul (slot d hs j) (d ^ get_or hs j 0),
        slot-leaves j,
        slot-leaves i,
        room_one d (earlier hs j) (earlier hs i) hs j l (λ n f. is_earlier hs i n (earlier_trans hs i j n e (earlier_is hs j n f))) (not_itself hs j) (is_earlier hs i j e),
      )

  module _ (k : ℕ) (fits : sum (powers d hs) ≤ d ^ k) where
    slot_end : (i : ℕ) → i < length hs → suc (slot d hs i) * d ^ get_or hs i 0 ≤ d ^ k
    slot_end i l =
        omega (
          arith,
          suc-mul (slot d hs i) (d ^ get_or hs i 0),
          slot-leaves i,
          fits,
          room_all d hs,
          room_one d (earlier hs i) (λ n. true) hs i l (λ n e. refl) (not_itself hs i) refl,
        )

    -- no branch is higher than the tree
    low : (i : ℕ) → i < length hs → get_or hs i 0 ≤ k
    low i l = by_order (dec_le (get_or hs i 0) k)
      where
        by_order : Dec (get_or hs i 0 ≤ k) → get_or hs i 0 ≤ k
        by_order (yes o) = o
        by_order (no o) = absurd (omega (arith, slot_end i l, suc-mul (slot d hs i) (d ^ get_or hs i 0), power_rises d k (get_or hs i 0) z (omega arith)))

    -- two branches fit together
    two_fit : (i j : ℕ) → i < length hs → j < length hs → Earlier hs i j → d ^ get_or hs i 0 + d ^ get_or hs j 0 ≤ d ^ k
    two_fit i j l g e =
        omega (arith, slot_after i j g e, slot_end i l, suc-mul (slot d hs i) (d ^ get_or hs i 0), suc-mul (slot d hs j) (d ^ get_or hs j 0))

    -- so if there is another branch, none is as high as the tree
    pub placed_lower : (i j : ℕ) → i < length hs → j < length hs → i ≢ j → get_or hs i 0 < k
    placed_lower i j l g n = by_order (dec_lt (get_or hs i 0) k) (earlier_either hs i j n)
      where
        by_order : Dec (get_or hs i 0 < k) → Earlier hs i j ⊎ Earlier hs j i → get_or hs i 0 < k
        by_order (yes o) e = o
        by_order (no o) e = absurd (omega (arith, two e, power_pos d (get_or hs j 0) pos, pow-le-pow_right {n = d} pos {i = k} {j = get_or hs i 0} (omega arith)))
          where
            two : Earlier hs i j ⊎ Earlier hs j i → d ^ get_or hs i 0 + d ^ get_or hs j 0 ≤ d ^ k
            two (inl e) = two_fit i j l g e
            two (inr e) = omega (arith, two_fit j i g l e)

    -- the way to the node of the branch at place i
    abbrev pub way : ℕ → Addr
    way i = way_to d (k - get_or hs i 0) (slot d hs i)

    -- the way begins at the root
    top : (i : ℕ) → i < length hs → ancestor d (k - get_or hs i 0) (slot d hs i) ≡ 0
    top i l =
        let h = get_or hs i 0 in
        let whole : d ^ k ≡ d ^ (k - h) * d ^ h = ap (λ (x : ℕ). d ^ x) (omega (arith, low i l)) ∙ pow-add d (k - h) h in
        ancestor_none d (k - h) (slot d hs i)
        (lt_of_mul-lt-mul_right (d ^ h) (omega (arith, slot_end i l, suc-mul (slot d hs i) (d ^ h), whole, power_pos d h pos)))

    pub placed_in : (i : ℕ) → i < length hs → In (complete d k) (way i) × (sub (complete d k) (way i) ≡ complete d (get_or hs i 0))
    placed_in i l =
        let q : (k - get_or hs i 0) + get_or hs i 0 ≡ k = omega (arith, low i l) in
        subst (λ (x : ℕ). In (complete d x) (way i) × (sub (complete d x) (way i) ≡ complete d (get_or hs i 0))) q
        (way_in d (get_or hs i 0) (k - get_or hs i 0) (slot d hs i) pos (top i l))

    pub placed-length : (i : ℕ) → length (way i) ≡ k - get_or hs i 0
    placed-length i = way_length d (k - get_or hs i 0) (slot d hs i)

    -- the node n steps above branch i's node, at the height of branch j, is not branch j's node
    differs : (i j n : ℕ) → i < length hs → j < length hs → i ≢ j → get_or hs j 0 ≡ n + get_or hs i 0 → ancestor d n (slot d hs i) ≢ slot d hs j
    differs i j n l g ne e q = by_order (earlier_either hs i j ne)
      where
        leaves : d ^ get_or hs j 0 ≡ d ^ n * d ^ get_or hs i 0
        leaves = ap (λ (x : ℕ). d ^ x) e ∙ pow-add d n (get_or hs i 0)

        by_order : Earlier hs i j ⊎ Earlier hs j i → ⊥
        by_order (inl o) =
            omega (arith, ancestor_most d n (slot d hs i) pos, ap (λ (x : ℕ). suc x * d ^ n) q, back)
          where
            back : suc (slot d hs j) * d ^ n ≤ slot d hs i
            back = le_of_mul-le-mul_right (omega (arith, slot_after i j g o, ap (λ (x : ℕ). suc (slot d hs j) * x) leaves, mul_assoc (suc (slot d hs j)) (d ^ n) (d ^ get_or hs i 0))) (power_pos d (get_or hs i 0) pos)
        by_order (inr (inl o)) = omega (arith, e)
        by_order (inr (inr (same, o))) =
            let level : n ≡ 0 = omega (arith, e, same) in
            let alike : slot d hs i ≡ slot d hs j = ap (λ (x : ℕ). ancestor d x (slot d hs i)) (sym level) ∙ q in
            omega (arith, slot_after j i l (inr (same, o)), suc-mul (slot d hs i) (d ^ get_or hs i 0), ap₂ (λ (x y : ℕ). x * d ^ y) alike (sym same), power_pos d (get_or hs i 0) pos)

    -- the higher of two branches does not lie above the lower one
    not_above : (i j : ℕ) → i < length hs → j < length hs → i ≢ j → get_or hs i 0 ≤ get_or hs j 0 → Above (way j) (way i) → ⊥
    not_above i j l g ne o u =
        let n : ℕ = get_or hs j 0 - get_or hs i 0 in
        let m : ℕ = k - get_or hs j 0 in
        let s = slot d hs i in
        let total : k - get_or hs i 0 ≡ n + m = omega (arith, low j g, o) in
        way_above d m n s (slot d hs j) (differs i j n l g ne (omega (arith, o)))
        (sym (ancestor-sum d n m s) ∙ ap (λ (x : ℕ). ancestor d x s) (sym total) ∙ top i l ∙ sym (top j g))
        (subst (λ (x : ℕ). Above (way j) (way_to d x s)) total u)

    pub placed-apart : (i j : ℕ) → i < length hs → j < length hs → i ≢ j → Above (way i) (way j) → ⊥
    placed-apart i j l g ne u = by_height (dec_le (get_or hs j 0) (get_or hs i 0))
      where
        by_height : Dec (get_or hs j 0 ≤ get_or hs i 0) → ⊥
        by_height (yes o) = not_above j i g l (λ e. ne (sym e)) o u
        by_height (no o) =
            omega (arith, ap length u.1, length-append (way i) u.0, placed-length i, placed-length j, low i l, low j g)

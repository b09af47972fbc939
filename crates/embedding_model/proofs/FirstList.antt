-- The first list, in list order, whose prefixes pass a test. The test has to hold of the prefixes of a list that passes, and it has to bound the
-- numbers. Backtracking finds the list if there is one: by induction on the numbers still to come and, within that, on the candidates for the next
-- number.
use mathlib.Core.Path.{◌≡◌, refl, sym, ◌∙◌, subst}
use mathlib.Core.Logic.{◌⊎◌, inl, inr}
use Prim.Native.Nat.{ℕ, zero, suc, ◌+◌, ◌≤◌, ◌<◌, zero-le}
use native.Mathlib.Decide.{dec_lt}
use native.Mathlib.Omega.{arith}
use mathlib.Core.List.{List, [], ◌∷◌, ◌++◌, append_assoc, append-nil}
use mathlib.Core.Bool.{Bool, true, false, cond}
use mathlib.Core.Option.{Option, none, some}
use lib.ListN.{length}
use Rattle.base.proofs.Tests.{clash}
use Rattle.embedding_model.specs.Rules.{Before}
use Rattle.embedding_model.specs.Least.{or_next, first_of, first_list}

-- Of two different lists of one length one comes before the other.
pub compare_lists : (l m : List ℕ) → length l ≡ length m → (l ≡ m) ⊎ (Before l m ⊎ Before m l)
compare_lists [] [] e = inl refl
compare_lists [] (y ∷ m) e = absurd (omega arith)
compare_lists (x ∷ l) [] e = absurd (omega arith)
compare_lists (x ∷ l) (y ∷ m) e = by_heads (dec_lt x y) (dec_lt y x) (compare_lists l m (omega arith))
  where
    by_tails : x ≡ y → (l ≡ m) ⊎ (Before l m ⊎ Before m l) → (x ∷ l ≡ y ∷ m) ⊎ (Before (x ∷ l) (y ∷ m) ⊎ Before (y ∷ m) (x ∷ l))
    by_tails q (inl e) = inl (cc)
    by_tails q (inr (inl b)) = inr (inl (inr (q, b)))
    by_tails q (inr (inr b)) = inr (inr (inr (sym q, b)))

    by_heads : Dec (x < y) → Dec (y < x) → (l ≡ m) ⊎ (Before l m ⊎ Before m l)
        → (x ∷ l ≡ y ∷ m) ⊎ (Before (x ∷ l) (y ∷ m) ⊎ Before (y ∷ m) (x ∷ l))
    by_heads (yes h) d r = inr (inl (inl h))
    by_heads (no g) (yes h) r = inr (inr (inl h))
    by_heads (no g) (no k) r = by_tails (omega arith) r

module _ (test : List ℕ → Bool) (width : ℕ) where
  -- the answer of the search from `front` on, with k numbers to come
  abbrev pub Best : ℕ → List ℕ → Option (List ℕ) → Type 0
  Best k front none = (r : List ℕ) → length r ≡ k → test (front ++ r) ≡ true → ⊥
  Best k front (some m) =
      (r : List ℕ) × (m ≡ front ++ r) × (length r ≡ k) × (test m ≡ true)
      × ((l : List ℕ) → length l ≡ k → test (front ++ l) ≡ true → Before l r → ⊥)

  -- the same, where the next number is at least x
  abbrev From : ℕ → ℕ → List ℕ → Option (List ℕ) → Type 0
  From x k front none = (y : ℕ) (ys : List ℕ) → x ≤ y → length ys ≡ k → test (front ++ (y ∷ ys)) ≡ true → ⊥
  From x k front (some m) =
      (y : ℕ) × (ys : List ℕ) × (m ≡ front ++ (y ∷ ys)) × (length ys ≡ k) × (test m ≡ true)
      × ((z : ℕ) (zs : List ℕ) → x ≤ z → length zs ≡ k → test (front ++ (z ∷ zs)) ≡ true → Before (z ∷ zs) (y ∷ ys) → ⊥)

  from_any : (k : ℕ) (front : List ℕ) (f : Option (List ℕ)) → From 0 k front f → Best (suc k) front f
  from_any k front none h = none_at_all
    where
      none_at_all : (r : List ℕ) → length r ≡ suc k → test (front ++ r) ≡ true → ⊥
      none_at_all [] e t = absurd (omega arith)
      none_at_all (y ∷ ys) e t = h y ys zero-le (omega arith) t
  from_any k front (some m) (y, ys, is, long, t, first) = (y ∷ ys, is, omega arith, t, earlier)
    where
      earlier : (l : List ℕ) → length l ≡ suc k → test (front ++ l) ≡ true → Before l (y ∷ ys) → ⊥
      earlier [] e t b = b
      earlier (z ∷ zs) e t b = first z zs zero-le (omega arith) t b

  module _ (front_passes : (f r : List ℕ) → test (f ++ r) ≡ true → test f ≡ true)
      (bounded : (f : List ℕ) (x : ℕ) → test (f ++ (x ∷ [])) ≡ true → x < width) where
    -- if no passing list has x next, the answer for numbers after x is also the answer for numbers from x on
    skip : (x k : ℕ) (front : List ℕ) (f : Option (List ℕ))
        → ((ys : List ℕ) → length ys ≡ k → test (front ++ (x ∷ ys)) ≡ true → ⊥) → From (suc x) k front f → From x k front f
    skip x k front none n h = λ y ys l e t. by_number y ys l e t (dec_lt x y)
      where
        by_number : (y : ℕ) (ys : List ℕ) → x ≤ y → length ys ≡ k → test (front ++ (y ∷ ys)) ≡ true → Dec (x < y) → ⊥
        by_number y ys l e t (yes g) = h y ys g e t
        by_number y ys l e t (no g) =
            let q : y ≡ x = omega arith in
            n ys e (subst (λ (z : ℕ). test (front ++ (z ∷ ys)) ≡ true) q t)
    skip x k front (some m) n (y, ys, is, long, t, first) = (y, ys, is, long, t, earlier)
      where
        earlier : (z : ℕ) (zs : List ℕ) → x ≤ z → length zs ≡ k → test (front ++ (z ∷ zs)) ≡ true → Before (z ∷ zs) (y ∷ ys) → ⊥
        earlier z zs l e t b = by_number (dec_lt x z)
          where
            by_number : Dec (x < z) → ⊥
            by_number (yes g) = first z zs g e t b
            by_number (no g) =
                let q : z ≡ x = omega arith in
                n zs e (subst (λ (w : ℕ). test (front ++ (w ∷ zs)) ≡ true) q t)

    join : (front : List ℕ) (x : ℕ) (ys : List ℕ) → test (front ++ (x ∷ ys)) ≡ true → test ((front ++ (x ∷ [])) ++ ys) ≡ true
    join front x ys t = rw append_assoc t

    -- if a passing list has x next, the first of these lists is the first from x on
    take_it : (x k : ℕ) (front m : List ℕ) → Best k (front ++ (x ∷ [])) (some m) → From x k front (some m)
    take_it x k front m (r, is, long, t, first) = (x, r, is ∙ append_assoc front (x ∷ []) r, long, t, earlier)
      where
        earlier : (z : ℕ) (zs : List ℕ) → x ≤ z → length zs ≡ k → test (front ++ (z ∷ zs)) ≡ true → Before (z ∷ zs) (x ∷ r) → ⊥
        earlier z zs l e t (inl h) = omega arith
        earlier z zs l e t (inr (q, b)) = first zs e (join front x zs (subst (λ (w : ℕ). test (front ++ (w ∷ zs)) ≡ true) q t)) b

    one_number : (x k : ℕ) (front : List ℕ) (f rest : Option (List ℕ))
        → (test (front ++ (x ∷ [])) ≡ true → Best k (front ++ (x ∷ [])) f) → From (suc x) k front rest
        → From x k front (or_next (cond (test (front ++ (x ∷ []))) f none) rest)
    one_number x k front f rest best later = by_test (test (front ++ (x ∷ []))) refl f best
      where
        by_test : (b : Bool) → test (front ++ (x ∷ [])) ≡ b → (f : Option (List ℕ)) → (test (front ++ (x ∷ [])) ≡ true → Best k (front ++ (x ∷ [])) f)
            → From x k front (or_next (cond b f none) rest)
        by_test false e f best =
            skip x k front rest (λ ys l t. clash (cc (front_passes (front ++ (x ∷ [])) ys (join front x ys t)))) later
        by_test true e none best = skip x k front rest (λ ys l t. best e ys l (join front x ys t)) later
        by_test true e (some m) best = take_it x k front m (best e)

    numbers : (count x k : ℕ) (front : List ℕ) (f : ℕ → Option (List ℕ)) → x + count ≡ width
        → ((y : ℕ) → test (front ++ (y ∷ [])) ≡ true → Best k (front ++ (y ∷ [])) (f y))
        → From x k front (first_of count x (λ y. cond (test (front ++ (y ∷ []))) (f y) none))
    numbers zero x k front f e best =
        λ y ys l long t. omega (arith, bounded front y (front_passes (front ++ (y ∷ [])) ys (join front y ys t)))
    numbers (suc count) x k front f e best =
        one_number x k front (f x) (first_of count (suc x) (λ y. cond (test (front ++ (y ∷ []))) (f y) none)) (best x)
        (numbers count (suc x) k front f (omega arith) best)

    pub first_best : (k : ℕ) (front : List ℕ) → test front ≡ true → Best k front (first_list test width k front)
    first_best zero front t = ([], sym (append-nil front), refl, t, none_before)
      where
        none_before : (l : List ℕ) → length l ≡ 0 → test (front ++ l) ≡ true → Before l [] → ⊥
        none_before [] e t b = b
        none_before (x ∷ l) e t b = b
    first_best (suc k) front t =
        let f : ℕ → Option (List ℕ) = λ x. first_list test width k (front ++ (x ∷ [])) in
        from_any k front (first_of width 0 (λ y. cond (test (front ++ (y ∷ []))) (f y) none))
        (numbers width 0 k front f (omega arith) (λ y. first_best k (front ++ (y ∷ []))))

-- What a test of all items of an iterator chain says of the numbers of their places.
use Rattle.std.proofs.Common.{◌≡◌, ℕ, zero, suc, ◌<◌, List, [], ◌∷◌, Bool, true, false, ◌&&◌, length, get_or, refl, sym, ◌∙◌, ap, arith}
use Rattle.std.specs.List.{list_all, zip, enumerate_from, range_with_len}
use Rattle.std.proofs.Math.Bool.{and_assoc}
use Rattle.std.proofs.lemmas.List.FromFn.{get_or-enumerate_from, length-enumerate_from, get_or-range_with_len, length-range_with_len}
use Rattle.std.proofs.lemmas.Slice.Zip.{length-zip, get_or-zip}
use Rattle.base.specs.Tests.{all}

-- a test of all numbers below suc n, the first number first
all_first : (n : ℕ) (p : ℕ → Bool) → all (suc n) p ≡ (p 0 && all n (λ i. p (suc i)))
all_first zero p = alone (p 0)
  where
    alone : (b : Bool) → b ≡ (b && true)
    alone true = refl
    alone false = refl
all_first (suc n) p = rw (all_first n p, and_assoc) refl

-- a test of all elements is one of all places
pub list_all_places : {A : Type 0} (p : A → Bool) (q : ℕ → Bool) (xs : List A) (d : A) (n : ℕ) → length xs ≡ n
    → ((i : ℕ) → i < n → p (get_or xs i d) ≡ q i) → list_all p xs ≡ all n q
list_all_places p q [] d zero e f = refl
list_all_places p q [] d (suc n) e f = absurd (omega arith)
list_all_places p q (x ∷ xs) d zero e f = absurd (omega arith)
list_all_places p q (x ∷ xs) d (suc n) e f =
    rw (list_all_places p (λ i. q (suc i)) xs d n (omega arith) (λ i h. f (suc i) (omega arith)), f 0 (omega arith)) (sym (all_first n q))

-- the same of the numbers of a range
pub list_all_range : (q : ℕ → Bool) (n : ℕ) → list_all q (range_with_len 0 n) ≡ all n q
list_all_range q n =
    list_all_places q q (range_with_len 0 n) 0 n (length-range_with_len 0 n) (λ i h. ap q (get_or-range_with_len 0 n i 0 h ∙ omega arith))

-- the same of the elements and their places
pub list_all_enumerated : (p : ℕ × ℕ → Bool) (xs : List ℕ) → list_all p (enumerate_from 0 xs) ≡ all (length xs) (λ i. p (i, get_or xs i 0))
list_all_enumerated p xs =
    list_all_places p (λ i. p (i, get_or xs i 0)) (enumerate_from 0 xs) (0, 0) (length xs) (length-enumerate_from 0 xs)
    (λ i h. ap p (get_or-enumerate_from 0 xs i (0, 0) h ∙ ap (λ (k : ℕ). (k, get_or xs i 0)) (omega arith)))

-- the same of the elements of two lists, side by side
module _ (xs ys : List ℕ) (e : length ys ≡ length xs) where
  pub length_zip_same : length (zip xs ys) ≡ length xs
  length_zip_same = omega (arith, length-zip xs ys)

  pub list_all_zip : (p : ℕ × ℕ → Bool) → list_all p (zip xs ys) ≡ all (length xs) (λ i. p (get_or xs i 0, get_or ys i 0))
  list_all_zip p =
      list_all_places p (λ i. p (get_or xs i 0, get_or ys i 0)) (zip xs ys) (0, 0) (length xs) length_zip_same
      (λ i h. ap p (get_or-zip xs ys i (0, 0) h (omega arith)))

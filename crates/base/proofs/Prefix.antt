-- Two lists of numbers compared: the second is a prefix of the first, the first is a shorter prefix of the second, or they differ at some index.
use mathlib.Core.Path.{◌≡◌, refl}
use Prim.Native.Nat.{ℕ}
use native.Mathlib.Decide.{ℕ_discrete}
use mathlib.Core.List.{List, [], ◌∷◌, ◌++◌}

pub data Meet (a b : List ℕ) : Type 0 where
  below : (d : List ℕ) → a ≡ b ++ d → Meet a b
  over : (j : ℕ) (d : List ℕ) → b ≡ a ++ (j ∷ d) → Meet a b
  apart : (c : List ℕ) (x y : ℕ) (d e : List ℕ) → (x ≡ y → ⊥) → a ≡ c ++ (x ∷ d) → b ≡ c ++ (y ∷ e) → Meet a b

pub meet : (a b : List ℕ) → Meet a b
meet [] [] = below [] refl
meet [] (y ∷ b) = over y b refl
meet (x ∷ a) [] = below (x ∷ a) refl
meet (x ∷ a) (y ∷ b) = by_head (ℕ_discrete x y) (meet a b)
  where
    by_head : Dec (x ≡ y) → Meet a b → Meet (x ∷ a) (y ∷ b)
    by_head (yes e) (below d h) = below d (cc)
    by_head (yes e) (over j d h) = over j d (cc)
    by_head (yes e) (apart c u v d f n h g) = apart (x ∷ c) u v d f n (cc) (cc)
    by_head (no e) m = apart [] x y a b e refl refl

-- Lists that differ at an index are not prefixes of one another.
pub apart-prefix : (c : List ℕ) (x y : ℕ) (d e f : List ℕ) → c ++ (x ∷ d) ≡ (c ++ (y ∷ e)) ++ f → x ≡ y
apart-prefix [] x y d e f h = cc
apart-prefix (z ∷ c) x y d e f h = apart-prefix c x y d e f (cc)

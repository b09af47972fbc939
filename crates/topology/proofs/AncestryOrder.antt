-- Ancestry as an order: it is transitive, antisymmetric and decidable; no node lies strictly below itself; and of two nodes above a third, one lies
-- above the other.
use mathlib.Core.Path.{◌≡◌, sym, ap, ◌∙◌, subst}
use mathlib.Core.Logic.{◌⊎◌, inl, inr}
use Prim.Native.Nat.{ℕ, ◌≤◌}
use native.Mathlib.Omega.{arith}
use mathlib.Core.List.{[], ◌∷◌, ◌++◌, append_assoc, append-nil}
use lib.ListN.{length, length-append}
use Rattle.base.proofs.Prefix.{Meet, below, over, apart, meet, apart-prefix}
use Rattle.topology.specs.Address.{Addr, Above}

pub above_trans : (a b c : Addr) → Above a b → Above b c → Above a c
above_trans a b c (d, g) (e, h) = (d ++ e, h ∙ ap (λ (k : Addr). k ++ e) g ∙ append_assoc a d e)

-- a node at or above another and no less deep is equal to it
above_level : (a b : Addr) → Above a b → length b ≤ length a → a ≡ b
above_level a b ([], h) l = sym (append-nil a) ∙ sym h
above_level a b (j ∷ d, h) l = absurd (omega (arith, ap length h, length-append a (j ∷ d)))

pub above_antisym : (a b : Addr) → Above a b → Above b a → a ≡ b
above_antisym a b u (e, h) = above_level a b u (omega (arith, ap length h, length-append b e))

-- no node lies strictly below itself
pub above-strict : (a : Addr) (j : ℕ) (d : Addr) → Above (a ++ (j ∷ d)) a → ⊥
above-strict a j d (e, h) = omega (arith, ap length h, length-append (a ++ (j ∷ d)) e, length-append a (j ∷ d))

pub above_either : (a b c : Addr) → Above a c → Above b c → Above a b ⊎ Above b a
above_either a b c (d, g) (e, h) = by_meet (meet a b)
  where
    by_meet : Meet a b → Above a b ⊎ Above b a
    by_meet (below f i) = inr (f, i)
    by_meet (over j f i) = inl (j ∷ f, i)
    by_meet (apart k x y u v n i m) =
        let same : k ++ (x ∷ (u ++ d)) ≡ (k ++ (y ∷ v)) ++ e =
        sym (append_assoc k (x ∷ u) d) ∙ ap (λ (z : Addr). z ++ d) (sym i) ∙ sym g ∙ h ∙ ap (λ (z : Addr). z ++ e) m in
        absurd (n (apart-prefix k x y (u ++ d) v e same))

pub above_dec : (a b : Addr) → Dec (Above a b)
above_dec a b = by_meet (meet b a)
  where
    by_meet : Meet b a → Dec (Above a b)
    by_meet (below d h) = yes (d, h)
    by_meet (over j d h) = no (λ u. above-strict b j d (subst (λ (z : Addr). Above z b) h u))
    by_meet (apart c x y d e n h g) = no (λ u. n (apart-prefix c x y d e u.0 (sym h ∙ u.1 ∙ ap (λ (z : Addr). z ++ u.0) g)))

-- two equally deep nodes above a third are equal
pub above_same : (a b c : Addr) → length a ≡ length b → Above a c → Above b c → a ≡ b
above_same a b c l u v = by_order (above_either a b c u v)
  where
    by_order : Above a b ⊎ Above b a → a ≡ b
    by_order (inl w) = above_level a b w (omega (arith, l))
    by_order (inr w) = sym (above_level b a w (omega (arith, l)))

-- Complete trees: the branch of each child of the root is the complete tree one less deep, and that of a node n steps down is the one n less deep.
use mathlib.Core.Path.{◌≡◌, refl, ap, ◌∙◌, subst}
use Prim.Native.Nat.{ℕ, zero, suc, ◌-◌, ◌≤◌, ◌<◌}
use native.Mathlib.Nat.{not-suc-le-zero, le_of_suc-le-suc}
use native.Mathlib.Omega.{arith}
use mathlib.Core.List.{[], ◌∷◌}
use lib.ListN.{length}
use Rattle.topology.specs.Tree.{Topo, count, width}
use Rattle.topology.specs.Address.{Addr, nth, child, In, sub}
use Rattle.regular_model.specs.Regular.{copies, complete}

nth-copies : (n : ℕ) (t : Topo) (i : ℕ) → i < n → nth (copies n t) i ≡ t
nth-copies zero t i h = absurd (not-suc-le-zero h)
nth-copies (suc n) t zero h = refl
nth-copies (suc n) t (suc i) h = nth-copies n t i (le_of_suc-le-suc h)

count-copies : (n : ℕ) (t : Topo) → count (copies n t) ≡ n
count-copies zero t = refl
count-copies (suc n) t = ap suc (count-copies n t)

pub child-complete : (d k x : ℕ) → 0 < x → x ≤ d → child (complete d (suc k)) x ≡ complete d k
child-complete d k zero p l = absurd (not-suc-le-zero p)
child-complete d k (suc i) p l = nth-copies d (complete d k) i l

pub width-complete : (d k : ℕ) → width (complete d (suc k)) ≡ d
width-complete d k = count-copies d (complete d k)

pub sub-complete : (d : ℕ) (x : Addr) (k : ℕ) → In (complete d k) x → (length x ≤ k) × (sub (complete d k) x ≡ complete d (k - length x))
sub-complete d [] k i =
    let q : k ≡ k - 0 = omega arith in
    (omega arith, ap (complete d) q)
sub-complete d (y ∷ x) zero i = absurd (omega (arith, i.0, i.1))
sub-complete d (y ∷ x) (suc k) (p, l, i) =
    let c = child-complete d k y p (omega (arith, l, width-complete d k)) in
    let r = sub-complete d x k (subst (λ (t : Topo). In t x) c i) in
    let q : k - length x ≡ suc k - suc (length x) = omega arith in
    (omega (arith, r.0), ap (λ (t : Topo). sub t x) c ∙ r.1 ∙ ap (complete d) q)

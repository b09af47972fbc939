-- The child number toward an address: for an address below a node, and for one unrelated to it.
use mathlib.Core.Path.{◌≡◌, refl}
use Prim.Native.Nat.{ℕ}
use mathlib.Core.List.{[], ◌∷◌, ◌++◌}
use mathlib.Core.Option.{none, some}
use borrow.Author.Tests.{eq-eqb, ne_eqb}
use Rattle.topology.specs.Address.{Addr}
use Rattle.pair_model.specs.Mirror.{toward}

pub toward_over : (a : Addr) (j : ℕ) (d : Addr) → toward a (a ++ (j ∷ d)) ≡ some j
toward_over [] j d = refl
toward_over (x ∷ a) j d = rw (eq-eqb x x refl) (toward_over a j d)

pub toward-apart : (c : Addr) (x y : ℕ) (d e : Addr) → (x ≡ y → ⊥) → toward (c ++ (x ∷ d)) (c ++ (y ∷ e)) ≡ none
toward-apart [] x y d e n = rw (ne_eqb x y n)
toward-apart (z ∷ c) x y d e n = rw (eq-eqb z z refl) (toward-apart c x y d e n)

-- What the laws of the simulation require of a map, by address. It need not be one-to-one: a passed node has the image of the next kept node below it.
-- It is enough that unrelated nodes have unrelated images.
use mathlib.Core.Path.{◌≡◌}
use Prim.Native.Nat.{ℕ}
use mathlib.Core.List.{◌∷◌, ◌++◌}
use Rattle.topology.specs.Tree.{Topo, width}
use Rattle.topology.specs.Address.{Addr, In, sub, Above}

pub record Keeps (S T : Topo) (F : Addr → Addr) : Type 0 where
  pub there : (b : Addr) → In S b → In T (F b)
  pub leaf : (b : Addr) → In S b → width (sub S b) ≡ 0 → width (sub T (F b)) ≡ 0
  pub down : (a b : Addr) → In S a → In S b → Above a b → Above (F a) (F b)
  -- if the addresses of two nodes part below the node at k, neither node's image is equal to the other's or lies above it
  pub apart : (k : Addr) (x y : ℕ) (d e : Addr) → (x ≡ y → ⊥) → In S (k ++ (x ∷ d)) → In S (k ++ (y ∷ e))
      → Above (F (k ++ (x ∷ d))) (F (k ++ (y ∷ e))) → ⊥

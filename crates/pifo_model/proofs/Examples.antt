-- Worked cases, from the definitions alone.
use mathlib.Core.Path.{◌≡◌, refl}
use Prim.Native.Nat.{ℕ}
use mathlib.Core.List.{[], ◌∷◌}
use native.Mathlib.Nat.{le_refl}
use borrow.Author.Tests.{le-ltb}
use Rattle.topology.specs.Tree.{Topo, node, fnil, fcons, leaf}
use Rattle.pifo_model.specs.Tree.{step}
use Rattle.pifo_model.specs.Machine.{pushing, popping, accepted, departed, opened, answers}

-- the topology of bytes 1 0
abbrev pub chain : Topo
chain = node (fcons leaf fnil)

-- Two packets go down child 1. The later one has the greater rank at the root and the lower rank at the leaf, and it leaves first: the root's entries
-- determine the child, and the leaf's entries determine the packet. So an entry of the root does not belong to the packet that was pushed with it.
pub later_first : {P : Type 0} (earlier later : P)
    → answers (opened chain 2) (pushing (step 1 1 ∷ []) 9 earlier ∷ pushing (step 1 4 ∷ []) 2 later ∷ popping ∷ popping ∷ [])
    ≡ accepted 1 ∷ accepted 2 ∷ departed later ∷ departed earlier ∷ []
later_first earlier later = refl

-- Two packets of equal ranks leave in order of arrival, whatever the ranks.
pub in_turn_lem : {P : Type 0} (r l : ℕ) (earlier later : P)
    → answers (opened chain 2) (pushing (step 1 r ∷ []) l earlier ∷ pushing (step 1 r ∷ []) l later ∷ popping ∷ popping ∷ [])
    ≡ accepted 1 ∷ accepted 2 ∷ departed earlier ∷ departed later ∷ []
in_turn_lem r l earlier later = simp (le-ltb r r (le_refl r), le-ltb l l (le_refl l))

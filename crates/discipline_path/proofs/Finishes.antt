-- What a plan's finishes say: none if one of them does not fit, else those of the definition.
use Rattle.std.proofs.Common.{◌≡◌, ℕ, List, Bool, true, false, cond, refl}
use Rattle.std.specs.Prelude.{Some, None}
use Rattle.topology.specs.Tree.{Topo}
use Rattle.topology.specs.Address.{Addr}
use Rattle.pifo_model.specs.Queue.{Rank}
use Rattle.discipline_model.specs.Figure.{finishes_down, fits_down}
use Rattle.discipline_model.specs.declared.Disciplines.{Disciplines}
use Rattle.discipline_path.specs.Plans.{finishes_after}

without : {A : Type 0} (b : Bool) (x : A) → cond b (Some x) None ≡ None → b ≡ false
without true x e = absurd (cc)
without false x e = refl

within : {A : Type 0} (b : Bool) (x y : A) → cond b (Some x) None ≡ Some y → (b ≡ true) × (y ≡ x)
within true x y e = (refl, cc)
within false x y e = absurd (cc)

module _ (t : Topo) (d : Disciplines) (length n : ℕ) (a : Addr) (fs : List Rank) where
  pub finishes_none : finishes_after t d length n a fs ≡ None → fits_down t d length n a ≡ false
  finishes_none e = without (fits_down t d length n a) (finishes_down t d length n a fs) e

  pub finishes_some : (gs : List Rank) → finishes_after t d length n a fs ≡ Some gs
      → (fits_down t d length n a ≡ true) × (gs ≡ finishes_down t d length n a fs)
  finishes_some gs e = within (fits_down t d length n a) (finishes_down t d length n a fs) gs e

-- If no packet departs, the way is empty, and the disciplines stay as they were.
use Rattle.std.proofs.Common.{◌≡◌, ℕ, suc, List, [], ◌∷◌, Bool, true, false, None, cond, eqb, refl, ap, ◌∙◌}
use mathlib.Core.Option.{none}
use Rattle.pifo_model.specs.Queue.{Rank}
use Rattle.pifo_model.specs.Tree.{pop}
use Rattle.pifo_model.specs.Way.{way}
use Rattle.pifo_model.proofs.Pop.{pop_none}
use Rattle.pifo_model.proofs.Way.{none_way}
use Rattle.queue_state.specs.State.{tree_of, well_formed}
use Rattle.queue_state.specs.declared.State.{State}
use Rattle.queue_state.proofs.WellFormed.{formed}
use Rattle.queue_pop.specs.Way.{way_from, way_of}
use Rattle.queue_pop.specs.declared.Way.{Way}
use Rattle.discipline_model.specs.Figure.{weighted, kind_at, acts_by}
use Rattle.discipline_model.specs.declared.Rule.{Rule}
use Rattle.discipline_model.specs.declared.Disciplines.{Disciplines}
use Rattle.discipline_clock.specs.Clock.{times_by, with_times, clocked}

times_none : (rules : List Rule) (n : ℕ) (bs l : List ℕ) (vs : List Rank) → times_by rules (λ _. None) n bs l vs ≡ vs
times_none rules n [] l vs = refl
times_none rules n (b ∷ bs) [] vs = refl
times_none rules n (b ∷ bs) (a ∷ l) [] = refl
times_none rules n (b ∷ bs) (a ∷ l) (v ∷ vs) = by_kind (eqb (acts_by b (kind_at rules n)) weighted) (times_none rules (suc n) bs l vs)
  where
    by_kind : (w : Bool) → times_by rules (λ _. None) (suc n) bs l vs ≡ vs → cond w v v ∷ times_by rules (λ _. None) (suc n) bs l vs ≡ v ∷ vs
    by_kind true e = ap (λ (x : List Rank). v ∷ x) e
    by_kind false e = ap (λ (x : List Rank). v ∷ x) e

empty_way : (d : Disciplines) (bs : List ℕ) (w : Way) (images : List ℕ) → w ≡ way_from 0 [] → clocked d bs w images ≡ d
empty_way d bs w images e =
    ap (λ (x : Way). clocked d bs x images) e ∙ ap (with_times d) (times_none d.rules 0 bs images d.virtual_time)

module _ (s : State) (d : Disciplines) (bs images : List ℕ) where
  pub clock_ill : well_formed s ≡ false → clocked d bs (way_of s) images ≡ d
  unfolding way_of
  clock_ill f = empty_way d bs (way_of s) images (ap (λ (b : Bool). way_from 0 (cond b (way (tree_of s) 0) [])) f)

  pub clock_idle : well_formed s ≡ true → pop (tree_of s) ≡ none → clocked d bs (way_of s) images ≡ d
  unfolding way_of
  clock_idle w e =
      let well = (formed s w).tree in
      let nothing = none_way (tree_of s) 0 well (pop_none (tree_of s) well e) in
      empty_way d bs (way_of s) images
      (ap (λ (b : Bool). way_from 0 (cond b (way (tree_of s) 0) [])) w ∙ ap (way_from 0) nothing)

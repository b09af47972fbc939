-- The chip's machine, which gets the carried paths, by itself: what `served` proves of `serve` holds of it too, for the calls with the paths as drawn.
use mathlib.Core.Path.{◌≡◌, refl}
use Prim.Native.Nat.{ℕ, zero, suc}
use mathlib.Core.List.{List}
use Rattle.topology.specs.Tree.{Topo}
use Rattle.pifo_model.specs.Tree.{Step, path_fault}
use Rattle.pifo_model.specs.Machine.{pushing, popping, Answer, accepted, departed, refused, full, serve}
use Rattle.pifo_model.specs.Runs.{taken_by}
use Rattle.pifo_model.proofs.Runs.{Served, served-refused, served, Serves}
use Rattle.pair_model.specs.Carrying.{carry}
use Rattle.pair_model.specs.Simulation.{push_carried, serve_carried}

module _ {P : Type 0} (S T : Topo) (m : List ℕ) where
  -- the packets accepted do not depend on the path
  taken_carried : (ss rs : List Step) (l : ℕ) (p : P) (a : Answer P) → taken_by (pushing ss l p) a ≡ taken_by (pushing rs l p) a
  taken_carried ss rs l p (accepted h) = refl
  taken_carried ss rs l p (departed x) = refl
  taken_carried ss rs l p (refused n) = refl
  taken_carried ss rs l p (full n c) = refl

  pub serves_carried : Serves {P = P} (serve_carried S T m)
  serves_carried y (pushing ss l p) s = by_fault (path_fault S ss)
    where
      rs : List Step
      rs = carry S T m ss

      by_fault : (f : ℕ) → Served y (pushing ss l p) (push_carried f y (pushing rs l p)).0 (push_carried f y (pushing rs l p)).1
      by_fault (suc f) = served-refused y (pushing ss l p) (suc f) s refl
      by_fault zero =
          let o = served y (pushing rs l p) s in
          let a = (serve y (pushing rs l p)).0 in
          let e = taken_carried ss rs l p a in
          record {
            sound = o.sound;
            topology = o.topology;
            limit = o.limit;
            contents = rw e o.contents;
            accepts = rw e o.accepts;
            count = o.count;
          }
  serves_carried y popping s = served y popping s

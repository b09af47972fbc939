-- Lists of calls on the machine. Each call keeps the machine sound, moves the packets that its answer names and counts the refusals by 15 (`served`).
-- So after any calls since an opening the packets accepted are those departed and those held, and the count of refusals is the number of answers
-- `full`, up to the largest count (`run`).
use mathlib.Core.Path.{◌≡◌, refl, sym, ap, ◌∙◌}
use Prim.Native.Nat.{ℕ, zero, suc, ◌+◌, min, zero-le}
use native.Mathlib.Omega.{arith}
use mathlib.Core.List.{List, [], ◌∷◌, ◌++◌, append_assoc, append-nil, Permᴰ}
use mathlib.Core.Bool.{Bool, true, false, cond}
use mathlib.Core.Option.{Option, none, some}
use lib.ListN.{length, length-append}
use lib.Dec.{leb}
use borrow.Author.Tests.{leb-false}
use Rattle.base.proofs.Permutation.{length_perm, perm_same, perm_past}
use Rattle.topology.specs.Tree.{Topo}
use Rattle.pifo_model.specs.Tree.{Step, path_fault, PTree, shape, pop, packets, held}
use Rattle.pifo_model.specs.Machine.{Machine, Call, pushing, popping, Answer, accepted, departed, refused, full, most, counting, opened, room, serve_room, serve_path, serve_pop, serve, Server, after_by, answers_by, after, answers}
use Rattle.pifo_model.specs.Runs.{Sound, taken_by, departed_by, full_by, accepted_by, taken, departures, fulls, accepts, Run}
use Rattle.pifo_model.proofs.Well.{shape_empty, packets_empty, well_empty}
use Rattle.pifo_model.proofs.Push.{push_shape, push_packets, push-held, push_well}
use Rattle.pifo_model.proofs.Pop.{Popped, popped}

module _ {P : Type 0} where
  -- One call.
  pub record Served (m : Machine P) (c : Call P) (a : Answer P) (n : Machine P) : Type 0 where
    pub sound : Sound n
    pub topology : n.topology ≡ m.topology
    pub limit : n.limit ≡ m.limit
    pub contents : Permᴰ (taken_by c a ++ packets m.tree) (departed_by a ++ packets n.tree)
    pub accepts : length (taken_by c a) ≡ accepted_by a
    pub count : n.refusals ≡ min (m.refusals + full_by a) most

  pub served-refused : (m : Machine P) (c : Call P) (n : ℕ) → Sound m → taken_by c (refused n) ≡ [] → Served m c (refused n) m
  served-refused m c n s e =
      record {
        sound = s;
        topology = refl;
        limit = refl;
        contents = rw e (mathlib.Core.List.Permᴰ.refl (packets m.tree));
        accepts = ap length e;
        count = omega (arith, s.refusals);
      }

  served-push : (m : Machine P) (ss : List Step) (l : ℕ) (p : P) → Sound m → (f : ℕ) → path_fault m.topology ss ≡ f
      → let r = serve_path f m ss l p in Served m (pushing ss l p) r.0 r.1
  served-push m ss l p s (suc f) e = served-refused m (pushing ss l p) (suc f) s refl
  served-push m ss l p s zero e = by_test (leb m.limit (held m.tree)) refl
    where
      c : ℕ
      c = min (suc m.refusals) most

      by_test : (b : Bool) → leb m.limit (held m.tree) ≡ b
          → let r = serve_room (cond b 15 0) m ss l p in Served m (pushing ss l p) r.0 r.1
      by_test true t =
          record {
            sound = record { tree = s.tree; topology = s.topology; limit = s.limit; refusals = omega arith };
            topology = refl;
            limit = refl;
            contents = mathlib.Core.List.Permᴰ.refl (packets m.tree);
            accepts = refl;
            count = omega arith;
          }
      by_test false t =
          let f : path_fault (shape m.tree) ss ≡ 0 = rw s.topology e in
          record {
            sound =
                record {
                  tree = push_well m.tree ss l p f s.tree;
                  topology = push_shape m.tree ss l p ∙ s.topology;
                  limit = omega (arith, push-held m.tree ss l p f, leb-false m.limit (held m.tree) t);
                  refusals = s.refusals;
                };
            topology = refl;
            limit = refl;
            contents = mathlib.Core.List.Permᴰ.symm (push_packets m.tree ss l p f);
            accepts = refl;
            count = omega (arith, s.refusals);
          }

  served-pop : (m : Machine P) → Sound m → (o : Option (P × PTree P)) → Popped m.tree o
      → let r = serve_pop m o in Served m popping r.0 r.1
  served-pop m s none z = served-refused m popping 16 s refl
  served-pop m s (some (p, u)) z =
      record {
        sound =
            record {
              tree = z.sound;
              topology = z.same ∙ s.topology;
              limit = omega (arith, length_perm z.contents, s.limit);
              refusals = s.refusals;
            };
        topology = refl;
        limit = refl;
        contents = z.contents;
        accepts = refl;
        count = omega (arith, s.refusals);
      }

  pub served : (m : Machine P) (c : Call P) → Sound m → Served m c (serve m c).0 (serve m c).1
  served m (pushing ss l p) s = served-push m ss l p s (path_fault m.topology ss) refl
  served m popping s = served-pop m s (pop m.tree) (popped m.tree s.tree)

  -- A refusal leaves the machine as it was, except that `full` raises the count by one, up to the largest count, and answers the new count.
  abbrev pub Unmoved : Machine P → Answer P → Machine P → Type 0
  Unmoved m (accepted h) n = Unit
  Unmoved m (departed p) n = Unit
  Unmoved m (refused k) n = n ≡ m
  Unmoved m (full k c) n = (c ≡ min (suc m.refusals) most) × (n ≡ counting m c)

  pub unmoved : (m : Machine P) (c : Call P) → Unmoved m (serve m c).0 (serve m c).1
  unmoved m (pushing ss l p) = by_fault (path_fault m.topology ss)
    where
      in_room : (n : ℕ) → let r = serve_room n m ss l p in Unmoved m r.0 r.1
      in_room zero = tt
      in_room (suc n) = (refl, refl)

      by_fault : (f : ℕ) → let r = serve_path f m ss l p in Unmoved m r.0 r.1
      by_fault (suc f) = refl
      by_fault zero = in_room (room m.limit (held m.tree))
  unmoved m popping = by_pop (pop m.tree)
    where
      by_pop : (o : Option (P × PTree P)) → let r = serve_pop m o in Unmoved m r.0 r.1
      by_pop none = refl
      by_pop (some (p, u)) = tt

-- Any calls, answered by any server that has the property which `served` proves of `serve`.
module _ {P : Type 0} where
  abbrev pub Serves : Server P → Type 0
  Serves server = (m : Machine P) (c : Call P) → Sound m → Served m c (server m c).0 (server m c).1

  module _ (server : Server P) (serves : Serves server) where
    run_sound : (m : Machine P) (cs : List (Call P)) → Sound m → Sound (after_by server m cs)
    run_sound m [] s = s
    run_sound m (c ∷ cs) s = run_sound (server m c).1 cs (serves m c s).sound

    run_same : (m : Machine P) (cs : List (Call P)) → Sound m
        → ((after_by server m cs).topology ≡ m.topology) × ((after_by server m cs).limit ≡ m.limit)
    run_same m [] s = (refl, refl)
    run_same m (c ∷ cs) s =
        let o = serves m c s in
        let r = run_same (server m c).1 cs o.sound in
        (r.0 ∙ o.topology, r.1 ∙ o.limit)

    run_contents : (m : Machine P) (cs : List (Call P)) → Sound m
        → Permᴰ (taken cs (answers_by server m cs) ++ packets m.tree) (departures (answers_by server m cs) ++ packets (after_by server m cs).tree)
    run_contents m [] s = mathlib.Core.List.Permᴰ.refl (packets m.tree)
    run_contents m (c ∷ cs) s =
        let o = serves m c s in
        let a = (server m c).0 in
        let n = (server m c).1 in
        one_more (taken_by c a) (taken cs (answers_by server n cs)) (packets m.tree) (departed_by a) (departures (answers_by server n cs)) (packets n.tree)
        (packets (after_by server n cs).tree) o.contents (run_contents n cs o.sound)
      where
        one_more : (t ts k d ds l r : List P) → Permᴰ (t ++ k) (d ++ l) → Permᴰ (ts ++ l) (ds ++ r) → Permᴰ ((t ++ ts) ++ k) ((d ++ ds) ++ r)
        one_more t ts k d ds l r first others =
            rw (append_assoc t ts k, append_assoc d ds r)
            (mathlib.Core.List.Permᴰ.trans (perm_past t ts k)
            (mathlib.Core.List.Permᴰ.trans (mathlib.Core.List.Permᴰ.append_left ts first)
            (mathlib.Core.List.Permᴰ.trans (perm_past ts d l) (mathlib.Core.List.Permᴰ.append_left d others))))

    run-accepts : (m : Machine P) (cs : List (Call P)) → Sound m → length (taken cs (answers_by server m cs)) ≡ accepts (answers_by server m cs)
    run-accepts m [] s = refl
    run-accepts m (c ∷ cs) s =
        let o = serves m c s in
        omega (arith, length-append (taken_by c (server m c).0) (taken cs (answers_by server (server m c).1 cs)), o.accepts, run-accepts (server m c).1 cs o.sound)

    run-count : (m : Machine P) (cs : List (Call P)) → Sound m → (after_by server m cs).refusals ≡ min (m.refusals + fulls (answers_by server m cs)) most
    run-count m [] s = omega (arith, s.refusals)
    run-count m (c ∷ cs) s =
        let o = serves m c s in
        omega (arith, o.count, run-count (server m c).1 cs o.sound)

pub opened-sound : (P : Type 0) (t : Topo) (limit : ℕ) → Sound (opened {P = P} t limit)
opened-sound P t limit =
    record { tree = well_empty P t; topology = shape_empty P t; limit = rw (packets_empty P t) zero-le; refusals = zero-le }

module _ {P : Type 0} (t : Topo) (limit : ℕ) (cs : List (Call P)) where
  pub run_by : (server : Server P) → Serves server → Run t limit cs (answers_by server (opened t limit) cs) (after_by server (opened t limit) cs)
  run_by server serves =
      let s = opened-sound P t limit in
      let o : Machine P = opened t limit in
      let same = run_same server serves o cs s in
      let given = answers_by server o cs in
      let left = packets (after_by server o cs).tree in
      let contents : Permᴰ (taken cs given) (departures given ++ left) =
      mathlib.Core.List.Permᴰ.trans (perm_same (sym (append-nil (taken cs given)))) (rw (packets_empty P t) at (run_contents server serves o cs s)) in
      record {
        sound = run_sound server serves o cs s;
        topology = same.0;
        limited = same.1;
        contents = contents;
        number = omega (arith, length_perm contents, run-accepts server serves o cs s, length-append (departures given) left);
        count = omega (arith, run-count server serves o cs s);
      }

  pub run : Run t limit cs (answers (opened t limit) cs) (after (opened t limit) cs)
  run = run_by serve served

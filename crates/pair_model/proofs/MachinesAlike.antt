-- The simulation (Theorem 5.10 of document 001): for every map that meets the rules, the source's machine and the chip's machine, which gets the
-- carried paths, answer every call alike. The relation between the two from one call to the next is `Paired`: both are sound and have the same limit,
-- the chip's tree mirrors the source's, and both have counted equally many refusals. So they hold equally many packets. `paired_opened` is its start
-- and `paired_next` one call; by induction over the list of calls the same is observed of both (`observed-alike`, `machines_alike`).
use mathlib.Core.Path.{◌≡◌, refl, sym, ap, ap₂, ◌∙◌}
use Prim.Native.Nat.{ℕ, zero, suc, ◌≤◌, min}
use native.Mathlib.Omega.{arith}
use mathlib.Core.List.{List, [], ◌∷◌}
use mathlib.Core.Option.{Option, none, some}
use lib.ListN.{length}
use Rattle.topology.specs.Tree.{Topo, height}
use Rattle.pifo_model.specs.Tree.{Step, path_fault, PTree, shape, push, pop, held}
use Rattle.pifo_model.specs.Machine.{Machine, Call, pushing, popping, Answer, accepted, full, most, opened, room, serve_room, serve_path, serve_pop, serve, counts, observed_by}
use Rattle.pifo_model.proofs.Push.{push-held}
use Rattle.pifo_model.proofs.Pop.{pop_none, none_pop}
use Rattle.pifo_model.proofs.Runs.{served, opened-sound}
use Rattle.embedding_model.specs.Rules.{Passes}
use Rattle.pair_model.specs.Embedding.{image_at}
use Rattle.pair_model.specs.Carrying.{carry}
use Rattle.pair_model.specs.Mirror.{Mirrors}
use Rattle.pair_model.specs.Simulation.{push_carried, serve_carried, Paired, MachinesAlike}
use Rattle.pair_model.proofs.Keeps.{keeps}
use Rattle.pair_model.proofs.Carry.{fault-length}
use Rattle.pair_model.proofs.ServeCarried.{serves_carried}
use Rattle.pair_model.proofs.Mirrors.{path_fault_lem, mirrors_empty, mirrors_held, mirrors_push, mirrors_pop}

-- what the two results of a call have in common
record Alike {P : Type 0} (S T : Topo) (m : List ℕ) (r s : Answer P × Machine P) : Type 0 where
  answer : r.0 ≡ s.0
  refusals : s.1.refusals ≡ r.1.refusals
  trees : Mirrors S T (image_at S T m) r.1.tree s.1.tree

module _ (S T : Topo) (m : List ℕ) (E : Passes S T m) where
  -- A carried path has no fault, and no more steps than the target is high.
  pub carry-fault : (ss : List Step) → path_fault S ss ≡ 0 → path_fault T (carry S T m ss) ≡ 0
  carry-fault ss h = path_fault_lem (keeps S T m E) ss h

  pub carry-length : (ss : List Step) → path_fault S ss ≡ 0 → length (carry S T m ss) ≤ height T
  carry-length ss h = fault-length T (carry S T m ss) (carry-fault ss h)

  module _ {P : Type 0} where
    pub paired_opened : (limit : ℕ) → Paired {P = P} S T m (opened S limit) (opened T limit)
    paired_opened limit =
        record {
          source = opened-sound P S limit;
          chip = opened-sound P T limit;
          source_topology = refl;
          chip_topology = refl;
          limit = refl;
          refusals = refl;
          trees = mirrors_empty (keeps S T m E);
        }

    -- both hold the same number of packets
    pub held-alike : (x y : Machine P) → Paired S T m x y → held y.tree ≡ held x.tree
    held-alike x y p =
        mirrors_held (keeps S T m E) x.tree y.tree p.source.tree p.chip.tree (p.source.topology ∙ p.source_topology) p.trees

    module _ (x y : Machine P) (p : Paired S T m x y) where
      source_shape : shape x.tree ≡ S
      source_shape = p.source.topology ∙ p.source_topology

      chip_shape : shape y.tree ≡ T
      chip_shape = p.chip.topology ∙ p.chip_topology

      alike-push : (ss : List Step) (l : ℕ) (a : P) (f : ℕ) → path_fault S ss ≡ f
          → Alike S T m (serve_path f x ss l a) (push_carried f y (pushing (carry S T m ss) l a))
      alike-push ss l a (suc f) e = record { answer = refl; refusals = p.refusals; trees = p.trees }
      alike-push ss l a zero e =
          let g : path_fault y.topology (carry S T m ss) ≡ 0 = rw p.chip_topology (carry-fault ss e) in
          rw (g, same_room) (by_room (room x.limit (held x.tree)))
        where
          same_room : room y.limit (held y.tree) ≡ room x.limit (held x.tree)
          same_room = ap₂ room p.limit (held-alike x y p)

          by_room : (n : ℕ) → Alike S T m (serve_room n x ss l a) (serve_room n y (carry S T m ss) l a)
          by_room zero =
              let h = push-held x.tree ss l a (rw source_shape e) in
              let k = push-held y.tree (carry S T m ss) l a (rw chip_shape (carry-fault ss e)) in
              let same : held (push x.tree ss l a) ≡ held (push y.tree (carry S T m ss) l a) = omega (arith, h, k, held-alike x y p) in
              record {
                answer = ap accepted same;
                refusals = p.refusals;
                trees = mirrors_push (keeps S T m E) x.tree y.tree p.source.tree source_shape chip_shape p.trees ss l a e;
              }
          by_room (suc n) =
              let c : min (suc y.refusals) most ≡ min (suc x.refusals) most = omega (arith, p.refusals) in
              record { answer = ap (full (suc n)) (sym c); refusals = c; trees = p.trees }

      alike-pop : (o : Option (P × PTree P)) → pop x.tree ≡ o → Alike S T m (serve_pop x o) (serve_pop y (pop y.tree))
      alike-pop none e =
          let z = pop_none x.tree p.source.tree e in
          rw (none_pop y.tree p.chip.tree (omega (arith, held-alike x y p)))
          record { answer = refl; refusals = p.refusals; trees = p.trees }
      alike-pop (some (a, u)) e =
          let z = mirrors_pop (keeps S T m E) x.tree y.tree p.source.tree source_shape chip_shape p.trees a u e in
          rw z.is
          record {
            answer = refl;
            refusals = p.refusals;
            trees = z.mirrors;
          }

      alike : (c : Call P) → Alike S T m (serve x c) (serve_carried S T m y c)
      alike (pushing ss l a) =
          let g : path_fault x.topology ss ≡ path_fault S ss = ap (λ (t : Topo). path_fault t ss) p.source_topology in
          rw g (alike-push ss l a (path_fault S ss) refl)
      alike popping = alike-pop (pop x.tree) refl

      pub paired_next : (c : Call P) → Paired S T m (serve x c).1 (serve_carried S T m y c).1
      paired_next c =
          let s = served x c p.source in
          let a = alike c in
          let g = serves_carried S T m y c p.chip in
          record {
            source = s.sound;
            chip = g.sound;
            source_topology = s.topology ∙ p.source_topology;
            chip_topology = g.topology ∙ p.chip_topology;
            limit = g.limit ∙ p.limit ∙ sym s.limit;
            refusals = a.refusals;
            trees = a.trees;
          }

      pub answers_alike : (c : Call P) → (serve x c).0 ≡ (serve_carried S T m y c).0
      answers_alike c = (alike c).answer

    pub counts_alike : (x y : Machine P) → Paired S T m x y → counts x ≡ counts y
    counts_alike x y p = λ k. (sym (held-alike x y p) k, sym p.refusals k)

    observed-alike : (x y : Machine P) → Paired S T m x y → (calls : List (Call P)) → observed_by serve x calls ≡ observed_by (serve_carried S T m) y calls
    observed-alike x y p [] = refl
    observed-alike x y p (c ∷ cs) =
        let next = paired_next x y p c in
        let answer = answers_alike x y p c in
        let seen = counts_alike (serve x c).1 (serve_carried S T m y c).1 next in
        let rest = observed-alike (serve x c).1 (serve_carried S T m y c).1 next cs in
        λ k. (answer k, seen k) ∷ rest k

pub machines_alike : MachinesAlike
machines_alike P S T m E limit calls =
    let start = paired_opened S T m E {P = P} limit in
    record {
      before = counts_alike S T m E (opened S limit) (opened T limit) start;
      every = observed-alike S T m E (opened S limit) (opened T limit) start calls;
    }

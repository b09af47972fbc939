-- The answers to a push, case by case: what the code finds, and the machine's answer.
use mathlib.Core.Path.{◌≡◌, refl, sym, ap, ◌∙◌, subst}
use Prim.Native.Nat.{ℕ, zero, suc, min, ◌<◌, ◌≤◌}
use native.Mathlib.Omega.{arith}
use mathlib.Core.List.{List}
use mathlib.Core.Bool.{true}
use lib.ListN.{length}
use lib.Seq.{length-take-le}
use Rattle.refusal.specs.declared.Refusal.{Refusal}
use Rattle.refusal.specs.Numbers.{number}
use Rattle.refusal.proofs.Numbers.{number-ne0}
use Rattle.topology.specs.Reader.{fault, tree}
use Rattle.topology.proofs.Lookup.{valid_size}
use native.Mathlib.Nat.{zero-add}
use native.Mathlib.Numerals.{add-one}
use Rattle.std.specs.Prelude.{Some, Ok, Err, ◌+◌}
use Rattle.queue_check.specs.Tests.{Tests}
use Rattle.queue_check.specs.declared.Test.{Test}
use mathlib.Core.Option.{Option}
use Rattle.base.proofs.Tests.{clash}
use Rattle.pifo_model.specs.Queue.{Entry, rises_from, insert_some}
use Rattle.pifo_model.proofs.Local.{well_all}
use Rattle.pifo_model.specs.Tree.{Step, path_fault, push, shape, held, well}
use Rattle.pifo_model.specs.InnerNumbered.{pushed}
use Rattle.pifo_model.specs.Machine.{Machine, pushing, Answer, accepted, refused, full, holding, most, counting as count}
use Rattle.pifo_model.proofs.Numbered.{shape_assemble, assemble_same, push_assemble}
use Rattle.pifo_model.proofs.Push.{push_well, push-held}
use Rattle.pifo_model.proofs.Answers.{room_none, room_some, push-fault, push-full, push-accepted}
use Rattle.queue_state.specs.State.{Packet, queue_in, queues, bytes, tree_of, machine, in_bounds, well_formed}
use Rattle.queue_push.specs.InnerArrivals.{Walked}
use Rattle.queue_state.specs.Calls.{Serves, counting}
use Rattle.queue_state.specs.declared.State.{State}
use Rattle.queue_push.specs.declared.arrivals.Added.{Added}
use Rattle.queue_state.specs.declared.Entry.{Entry as CodeEntry}
use Rattle.queue_state.proofs.WellFormed.{Formed, formed, form}
use Rattle.queue_state.proofs.Arrays.{Arrays}
use Rattle.queue_state.proofs.Serves.{apart, served, full_same}
use Rattle.queue_push.proofs.RoomCases.{fits}
use Rattle.queue_push.proofs.Insertion.{Ready, Entered}
use Rattle.queue_state.specs.InnerQueues.{with_queues}

module _ (s : State) (test : Test) (x : Tests s (Some test)) (b : List ℕ) (is : b ≡ bytes s) where
  sound : well_formed s ≡ true
  sound = sym x.sound

  pub valid : fault 64 b ≡ 0
  valid = rw is (formed s sound).valid

  module _ (ss : List Step) (l p : ℕ) where
    -- the path has a fault
    pub fault_served : (r : Refusal) → Walked (tree b) (length b) ss l p (Err r) → Serves s (pushing ss l p) (refused (number r)) s
    unfolding machine
    fault_served r w = by_number (number r) refl
      where
        by_number : (n : ℕ) → number r ≡ n → Serves s (pushing ss l p) (refused (number r)) s
        by_number zero z = absurd (number-ne0 r z)
        by_number (suc n) z =
            let e : path_fault (tree (bytes s)) ss ≡ suc n = rw (← is) (sym w.fault ∙ z) in
            rw z
            (served s s (pushing ss l p) (refused (suc n)) (machine s) (push-fault (machine s) ss l p n e) sound refl sound
            (λ _ _. refl) (λ _ _ q. apart q))

    module _ (a : Added) (w : Walked (tree b) (length b) ss l p (Ok a)) where
      faultless : path_fault (tree (bytes s)) ss ≡ 0
      faultless = rw (← is) (sym w.fault)

      -- no room
      pub full_served : s.frame.limit ≤ test.held → (c : ℕ) → c ≡ min (s.refused + 1) most → Serves s (pushing ss l p) (full 15 c) (counting s c)
      unfolding machine well_formed in_bounds tree_of bytes queues
      full_served h c q =
          let m = min (suc s.refused) most in
          let no_room = room_none s.frame.limit (held (tree_of s)) (omega (arith, x.count)) in
          rw (q, add-one)
          (served s (counting s m) (pushing ss l p) (full 15 m) (count (machine s) m) (push-full (machine s) ss l p 14 faultless no_room)
          sound refl sound
          (λ _ x. apart (sym x)) (λ _ _ y. ap (counting s) (full_same y)))

      -- accepted
      module _ (ar : Arrays s) (h : test.held < s.frame.limit) where
        pub ready : Ready s.frame.nodes test.used a.count s.lengths a.entries s.entries
        unfolding bytes tree_of queues
        ready =
            let f = formed s sound in
            let d = tree (bytes s) in
            let n : length (bytes s) ≡ s.frame.nodes = length-take-le s.frame.nodes s.frame.topology (omega (arith, ar.topology, f.nodes)) in
            let v = valid_size 64 (bytes s) f.valid in
            record {
              places = w.added.places;
              tall = ar.lengths;
              long = ar.entries;
              all = w.added.count;
              own = λ m g. w.added.own m (omega (arith, ap length is));
              few = f.nodes;
              used = x.used;
              room = omega (arith, fits s ar f, w.added.few, f.most, x.count);
              rises = λ m g.
                  subst (λ (k : ℕ). rises_from 0 (queue_in s.lengths s.entries k) ≡ true) (zero-add m)
                  (well_all d (queue_in s.lengths s.entries) 0 f.tree m (omega arith)).rises;
            }

        module _ (ls : List ℕ) (es : List CodeEntry) (o : Entered s.frame.nodes s.lengths a.entries s.entries ls es) where
          abbrev next : State
          next = with_queues s ls es

          tree_after : tree_of next ≡ push (tree_of s) ss l p
          unfolding tree_of bytes queues
          tree_after =
              let f = formed s sound in
              let d = tree (bytes s) in
              let q = queue_in s.lengths s.entries in
              let n : length (bytes s) ≡ s.frame.nodes = length-take-le s.frame.nodes s.frame.topology (omega (arith, ar.topology, f.nodes)) in
              assemble_same d (queue_in ls es) (pushed d 0 ss l p q) 0
              (λ m g u.
              o.queues m (omega (arith, valid_size 64 (bytes s) f.valid))
              ∙ ap (λ (x : Option (Entry Packet)). insert_some x (q m)) (rw is at (w.added.entries m)))
              ∙ sym (push_assemble d q 0 ss l p faultless)

          no_fault : path_fault (shape (tree_of s)) ss ≡ 0
          unfolding tree_of
          no_fault = rw (shape_assemble (tree (bytes s)) (queues s) 0) faultless

          entered_served : Serves s (pushing ss l p) (accepted (test.held + 1)) next
          unfolding machine bytes
          entered_served =
              let pushed_tree = push (tree_of s) ss l p in
              let k : held pushed_tree ≡ test.held + 1 = omega (arith, push-held (tree_of s) ss l p no_fault, x.count) in
              served s next (pushing ss l p) (accepted (test.held + 1)) (holding (machine s) pushed_tree)
              (push-accepted (machine s) ss l p faultless (room_some s.frame.limit (held (tree_of s)) (omega (arith, x.count)))
              ∙ ap {B = Answer Packet × Machine Packet} (λ (x : ℕ). (accepted x, holding (machine s) pushed_tree)) k)
              sound
              (ap (holding (machine s)) tree_after)
              (form next next_formed)
              (λ _ x. never x)
              (λ _ _ x. never_full x)
            where
              never : {k n : ℕ} {A : Type 0} → ◌≡◌ {A = Answer Packet} (accepted k) (refused n) → A
              never x = absurd (clash (cc))

              never_full : {k n c : ℕ} {A : Type 0} → ◌≡◌ {A = Answer Packet} (accepted k) (full n c) → A
              never_full x = absurd (clash (cc))

              next_formed : Formed next
              next_formed =
                  let f = formed s sound in
                  record {
                    nodes = f.nodes;
                    used = o.fits;
                    valid = f.valid;
                    least = f.least;
                    most = f.most;
                    tree = ap well tree_after ∙ push_well (tree_of s) ss l p no_fault f.tree;
                    room = omega (arith, ap held tree_after, push-held (tree_of s) ss l p no_fault, x.count);
                  }

        pub accepted_served : (r : State) → r.frame ≡ s.frame → r.refused ≡ s.refused
            → Entered s.frame.nodes s.lengths a.entries s.entries r.lengths r.entries
            → Serves s (pushing ss l p) (accepted (test.held + 1)) r
        accepted_served r f n o =
            let same : r ≡ with_queues s r.lengths r.entries = λ i. record { frame = f i; lengths = r.lengths; entries = r.entries; refused = n i } in
            subst (Serves s (pushing ss l p) (accepted (test.held + 1))) (sym same) (entered_served r.lengths r.entries o)

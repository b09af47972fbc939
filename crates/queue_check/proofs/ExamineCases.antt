-- The answer of the test of a state: if each node is well formed by itself, the tree is well formed.
use Rattle.std.specs.Prelude.{◌≢◌, ◌-◌, Option, Some, None, Result, Ok, Err}
use Rattle.std.specs.Result.{result_ok}
use Rattle.std.specs.List.{slice_range}
use Rattle.refusal.specs.Numbers.{number_of}
use Rattle.refusal.specs.declared.Refusal.{Refusal}
use Rattle.refusal.proofs.Numbers.{number-ne0}
use Rattle.queue_state.specs.Opening.{open_fault}
use Rattle.queue_state.proofs.OpenedState.{refused_none, none_refused}
use mathlib.Core.Path.{◌≡◌, refl, sym, ap, ◌∙◌, subst}
use Prim.Native.Nat.{ℕ, suc, ◌+◌, ◌≤◌, ◌<◌}
use native.Mathlib.Nat.{zero-add}
use native.Mathlib.Omega.{arith}
use mathlib.Core.List.{List}
use mathlib.Core.Bool.{true}
use lib.ListN.{length, take, get_or}
use lib.Seq.{length-take-le}
use Rattle.topology.specs.Tree.{Topo, node, width}
use Rattle.topology.specs.Address.{subtree, child_of}
use Rattle.topology.specs.Reader.{fault, tree}
use Rattle.topology.specs.Branch.{start}
use Rattle.topology.proofs.Lookup.{valid_size, valid_width, valid_start, start_lt}
use Rattle.topology.proofs.Ancestry.{size_pos}
use Rattle.pifo_model.specs.Queue.{occurs}
use Rattle.pifo_model.specs.Tree.{well, held}
use Rattle.pifo_model.proofs.Well.{length-held}
use Rattle.pifo_model.proofs.Local.{LocalAt, AllLocal, all_well, well_all}
use Rattle.queue_state.specs.State.{start_of, queue_in, queues, bytes, tree_of}
use Rattle.queue_state.specs.declared.Entry.{Entry as CodeEntry}
use Rattle.queue_state.specs.declared.State.{State}
use Rattle.queue_state.proofs.WellFormed.{Formed, form, unformed}
use Rattle.queue_state.proofs.Arrays.{Arrays}
use Rattle.queue_state.proofs.Stretch.{start_order, queue_length}
use Rattle.queue_check.specs.InnerSound.{Fine, AllFine, Tallied}
use Rattle.queue_check.specs.Tests.{Heading, Tests}
use Rattle.queue_check.specs.declared.Test.{Test}
use Rattle.pifo_model.specs.Assembled.{Queues, assemble, assemble_all}

-- in a well-formed tree the root's queue has as many entries as packets are held
held_root : {P : Type 0} (t : Topo) (q : Queues P) (k : ℕ) → well (assemble t q k) ≡ true → length (q k) ≡ held (assemble t q k)
held_root (node ts) q k e = length-held (q k) (assemble_all ts q (suc k)) e

-- a test that answers no
pub says_no : (s : State) → (Formed s → ⊥) → Tests s None
says_no s f = record { sound = sym (unformed s f); count = tt; used = tt; heads = tt }

module _ (bs ls : List ℕ) (es : List CodeEntry) (v : fault 64 bs ≡ 0) (len : length es ≡ 2304) (fits : start_of ls (length bs) ≤ 2304) where
  long : (n : ℕ) → n < length bs → length (queue_in ls es n) ≡ get_or ls n 0
  long n h = queue_length ls es n (omega (arith, start_order ls (suc n) (length bs) h))

  locals : ((n : ℕ) → n < length bs → Fine bs ls es n) → AllLocal (tree bs) (queue_in ls es) 0
  locals f m g =
      let h : m < length bs = omega (arith, valid_size 64 bs v) in
      let w = valid_width 64 bs v m h in
      record {
        rises = rw (zero-add m) (f m h).rises;
        own = rw (zero-add m, w) (f m h).own;
        counts = λ i l.
            let j : i < get_or bs m 0 = omega arith in
            rw (zero-add m, zero-add (child_of (tree bs) m (suc i)), ← valid_start 64 bs v m i h j)
            ((f m h).counts i j ∙ sym (long (start bs m i) (start_lt 64 bs v m i h j)));
      }

  fine_local : AllLocal (tree bs) (queue_in ls es) 0 → (n : ℕ) → n < length bs → Fine bs ls es n
  fine_local a n h =
      let at : LocalAt (queue_in ls es) (width (subtree (tree bs) n)) (0 + n) (λ i. 0 + child_of (tree bs) n (suc i)) = a n (omega (arith, valid_size 64 bs v)) in
      record {
        rises = rw (zero-add n) at at.rises;
        own = rw (zero-add n, valid_width 64 bs v n h) at at.own;
        counts = λ i j.
            ap (λ (x : ℕ). occurs (suc i) (queue_in ls es x)) (sym (zero-add n))
            ∙ at.counts i (omega (arith, valid_width 64 bs v n h))
            ∙ ap (λ (x : ℕ). length (queue_in ls es x)) (zero-add (child_of (tree bs) n (suc i)) ∙ sym (valid_start 64 bs v n i h j))
            ∙ long (start bs n i) (start_lt 64 bs v n i h j);
      }

  root : 0 < length bs
  root = omega (arith, valid_size 64 bs v, size_pos (tree bs))

  pub tree_well : ((n : ℕ) → n < length bs → Fine bs ls es n) → well (assemble (tree bs) (queue_in ls es) 0) ≡ true
  tree_well f = all_well (tree bs) (queue_in ls es) 0 (locals f)

  pub root_held : well (assemble (tree bs) (queue_in ls es) 0) ≡ true → get_or ls 0 0 ≡ held (assemble (tree bs) (queue_in ls es) 0)
  root_held w = sym (long 0 root) ∙ held_root (tree bs) (queue_in ls es) 0 w

  pub all_fine : (limit : ℕ) → well (assemble (tree bs) (queue_in ls es) 0) ≡ true → held (assemble (tree bs) (queue_in ls es) 0) ≤ limit → AllFine bs ls es limit
  all_fine limit w r = record { fits = fits; fine = fine_local (well_all (tree bs) (queue_in ls es) 0 w); room = omega (arith, root_held w) }

-- what an opening's test says, as an `Option`
ok_none : (r : Result Unit Refusal) → result_ok r ≡ None → number_of r ≢ 0
ok_none (Ok u) e = absurd (cc)
ok_none (Err f) e = number-ne0 f

ok_some : (r : Result Unit Refusal) (u : Unit) → result_ok r ≡ Some u → number_of r ≡ 0
ok_some (Ok u) w e = refl
ok_some (Err f) w e = absurd (cc)

-- A state is well formed exactly where its opening would not be refused and each of its queues is well formed by itself.
module _ (s : State) (bs : List ℕ) (is : bs ≡ slice_range s.frame.topology 0 s.frame.nodes) where
  front : bs ≡ take s.frame.nodes s.frame.topology
  front = let e : s.frame.nodes - 0 ≡ s.frame.nodes = omega arith in is ∙ ap (λ (k : ℕ). take k s.frame.topology) e

  same_bytes : bs ≡ bytes s
  unfolding bytes
  same_bytes = front

  same_tree : tree_of s ≡ assemble (tree bs) (queue_in s.lengths s.entries) 0
  unfolding tree_of queues
  same_tree = ap (λ (l : List ℕ). assemble (tree l) (queue_in s.lengths s.entries) 0) (sym same_bytes)

  module _ (opening : Result Unit Refusal) (e : number_of opening ≡ open_fault bs s.frame.limit) where
    pub refused : result_ok opening ≡ None → Tests s None
    refused n = says_no s (λ f. ok_none opening n (e ∙ none_refused bs s.frame.limit (ap (fault 64) same_bytes ∙ f.valid) f.least f.most))

    module _ (u : Unit) (o : result_ok opening ≡ Some u) where
      accepted : (fault 64 bs ≡ 0) × (1 ≤ s.frame.limit) × (s.frame.limit ≤ 256)
      accepted = refused_none bs s.frame.limit (sym e ∙ ok_some opening u o)

      pub valid : fault 64 bs ≡ 0
      valid = accepted.0

      module _ (a : Arrays s) (few : s.frame.nodes ≤ 64) where
        count : length bs ≡ s.frame.nodes
        count = ap length front ∙ length-take-le s.frame.nodes s.frame.topology (omega (arith, a.topology))

        pub tests : (r : Option Test) → Tallied bs s.lengths s.entries s.frame.limit r → Tests s r
        unfolding queues
        tests None n =
            says_no s
            (λ f.
            let fits : start_of s.lengths (length bs) ≤ 2304 = rw count f.used in
            n
            (all_fine bs s.lengths s.entries valid a.entries fits s.frame.limit (ap well (sym same_tree) ∙ f.tree) (omega (arith, ap held same_tree, f.room))))
        tests (Some t) f =
            let w = tree_well bs s.lengths s.entries valid a.entries f.fine.fits f.fine.fine in
            let h = f.held ∙ root_held bs s.lengths s.entries valid a.entries f.fine.fits w ∙ ap held (sym same_tree) in
            record {
              sound =
                  sym
                  (form s record {
                    nodes = few;
                    used = rw (sym count) f.fine.fits;
                    valid = ap (fault 64) (sym same_bytes) ∙ valid;
                    least = accepted.1;
                    most = accepted.2;
                    tree = ap well same_tree ∙ w;
                    room = omega (arith, h, f.held, f.fine.room);
                  });
              count = h;
              used = f.used ∙ ap (start_of s.lengths) count;
              heads = subst (Heading t.heads (queue_in s.lengths s.entries)) count f.heads;
            }

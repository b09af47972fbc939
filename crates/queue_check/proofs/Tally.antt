-- The pass over the queues.
use Rattle.std.specs.Prelude.{Option, Some, None, slice_get}
use Rattle.std.specs.List.{slice_range}
use Rattle.std.proofs.Common.{◌≡◌, ℕ, suc, ◌+◌, ◌-◌, ◌<◌, ◌≤◌, List, [], ◌∷◌, map, length, get_or, set, refl, sym, ap, ◌∙◌, add-one, arith}
use Rattle.std.proofs.lemmas.Bool.{false≢true, and_parts}
use Rattle.std.proofs.lemmas.List.{drop-take, get_or-set_same, get_or-set_other, length-set}
use native.Mathlib.Decide.{ℕ_discrete}
use Rattle.base.proofs.Tests.{and_both}
use Rattle.pifo_model.specs.Queue.{rises_from, allowed, every, occurs}
use Rattle.queue_state.specs.State.{entry_of, start_of, queue_in}
use Rattle.queue_state.specs.declared.Entry.{Entry as CodeEntry}
use Rattle.queue_state.proofs.Stretch.{start_next, start_order}
use Rattle.queue_check.specs.Tests.{head_of, head_entry, Heading}
use Rattle.queue_check.specs.InnerSound.{Counted, AllMatch, Fine, AllFine}

-- The queues before a node are well formed and their heads are noted, and the node's own queue begins at `at`.
pub record Passed (bytes ls : List ℕ) (es : List CodeEntry) (hs : List (Option CodeEntry)) (at node : ℕ) : Type 0 where
  pub start : at ≡ start_of ls node
  pub fits : at ≤ 2304
  pub fine : (n : ℕ) → n < node → Fine bytes ls es n
  pub heads : Heading hs (queue_in ls es) node

first_head : (q : List CodeEntry) → head_of (map entry_of q) ≡ head_entry (slice_get q 0)
first_head [] = refl
first_head (e ∷ q) = refl

module _ (bytes ls : List ℕ) (es : List CodeEntry) (hs : List (Option CodeEntry)) (at node : ℕ) (p : Passed bytes ls es hs at node) (h : node < length bytes) where
  pub over : (limit : ℕ) → 2304 < at + get_or ls node 0 → AllFine bytes ls es limit → ⊥
  over limit l a = omega (arith, p.start, start_next ls node, start_order ls (suc node) (length bytes) h, a.fits)

  -- the node's own queue
  module _ (q : List CodeEntry) (is : q ≡ slice_range es at (at + get_or ls node 0)) where
    own : map entry_of q ≡ queue_in ls es node
    own =
        let m : at + get_or ls node 0 - at ≡ get_or ls node 0 = omega arith in
        ap (map entry_of) (is ∙ rw (m, ← drop-take at (get_or ls node 0) es, p.start, start_next ls node) refl)

    pub fault : (limit : ℕ) → Counted q (get_or bytes node 0) None → AllFine bytes ls es limit → ⊥
    fault limit c a =
        let f = a.fine node h in
        false≢true (c.sound ∙ and_both (ap (rises_from 0) own ∙ f.rises) (ap (every (allowed (get_or bytes node 0))) own ∙ f.own))

    module _ (cs : List ℕ) (c : Counted q (get_or bytes node 0) (Some cs)) (few : get_or bytes node 0 ≤ 8) where
      pub mismatch : (limit : ℕ) → (AllMatch bytes cs ls node (get_or bytes node 0) → ⊥) → AllFine bytes ls es limit → ⊥
      mismatch limit d a = d (λ i l. c.counts (suc i) (omega arith) (omega arith) ∙ rw own ((a.fine node h).counts i l))

      pub leave : length q ≡ get_or ls node 0 → AllMatch bytes cs ls node (get_or bytes node 0) → at + get_or ls node 0 ≤ 2304 → length bytes ≤ 64
          → Passed bytes ls es (set hs node (slice_get q 0)) (at + length q) (node + 1)
      leave f m l s =
          record {
            start = omega (arith, f, p.start, start_next ls node, ap (start_of ls) (add-one node));
            fits = omega (arith, f);
            fine = λ n g. fine_by n g (ℕ_discrete n node);
            heads = record { places = length-set hs node (slice_get q 0) ∙ p.heads.places; head = λ n g. head_by n g (ℕ_discrete n node) };
          }
        where
          own_fine : Fine bytes ls es node
          own_fine =
              let both = and_parts (rises_from 0 (map entry_of q)) (every (allowed (get_or bytes node 0)) (map entry_of q)) (sym c.sound) in
              record {
                rises = ap (rises_from 0) (sym own) ∙ both.0;
                own = ap (every (allowed (get_or bytes node 0))) (sym own) ∙ both.1;
                counts = λ j g. ap (occurs (suc j)) (sym own) ∙ sym (c.counts (suc j) (omega arith) (omega arith)) ∙ m j g;
              }

          fine_by : (n : ℕ) → n < node + 1 → Dec (n ≡ node) → Fine bytes ls es n
          fine_by n g (yes y) = rw y own_fine
          fine_by n g (no d) = p.fine n (omega arith)

          head_by : (n : ℕ) → n < node + 1 → Dec (n ≡ node) → head_of (queue_in ls es n) ≡ head_entry (get_or (set hs node (slice_get q 0)) n None)
          head_by n g (yes y) =
              rw (y, get_or-set_same hs node (slice_get q 0) None (omega (arith, p.heads.places))) (ap head_of (sym own) ∙ first_head q)
          head_by n g (no d) = rw (get_or-set_other hs node n (slice_get q 0) None d) (p.heads.head n (omega arith))

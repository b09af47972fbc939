-- The pass over one queue.
use Rattle.std.specs.Prelude.{Some, None}
use Rattle.std.proofs.Common.{◌≡◌, ℕ, zero, suc, ◌+◌, ◌<◌, ◌≤◌, List, ◌∷◌, map, length, get_or, drop, set, Bool, true, false, cond, eqb, refl, ap, ◌∙◌, arith, drop-cons, add-one}
use borrow.Author.Tests.{le-leb, eq-eqb, ne_eqb}
use native.Mathlib.Decide.{ℕ_discrete}
use Rattle.std.proofs.lemmas.Bool.{false≢true}
use Rattle.std.proofs.lemmas.List.{get_or-set_same, get_or-set_other, length-set}
use Rattle.std.proofs.lemmas.Grind.{common_steps}
use Rattle.pifo_model.specs.Queue.{Item, Entry, child, packet, rises_from, allowed, every, is_of, occurs}
use Rattle.queue_state.specs.State.{entry_of, item_of}
use Rattle.queue_state.specs.Entries.{no_entry}
use Rattle.queue_state.specs.declared.Entry.{Entry as CodeEntry}
use Rattle.queue_check.specs.InnerSound.{place, slot}

-- Before entry i: the queue meets the clauses if the rest does, and the counts and those of the rest are the queue's.
pub record Counting (queue : List CodeEntry) (children i last : ℕ) (cs : List ℕ) : Type 0 where
  pub rises : rises_from 0 (map entry_of queue) ≡ rises_from last (map entry_of (drop i queue))
  pub own : every (allowed children) (map entry_of queue) ≡ every (allowed children) (map entry_of (drop i queue))
  pub counts : (j : ℕ) → 0 < j → j ≤ 8 → get_or cs j 0 + occurs j (map entry_of (drop i queue)) ≡ occurs j (map entry_of queue)
  pub small : (j : ℕ) → get_or cs j 0 ≤ i
  pub places : length cs ≡ 9

is_place : (x : Item ℕ) (i : ℕ) → 0 < i → is_of i x ≡ cond (eqb i (place x)) 1 0
is_place (child j) i h = refl
is_place (packet p) i h = grind (arith, common_steps)

-- a place that an item has is its own, and the node may hold the item
slot_some : (children : ℕ) (x : Item ℕ) (k : ℕ) → slot children x ≡ Some k → (allowed children x ≡ true) × (k ≡ place x)
slot_some children x k e = by_test (allowed children x) refl e
  where
    by_test : (b : Bool) → allowed children x ≡ b → cond b (Some (place x)) None ≡ Some k → (allowed children x ≡ true) × (k ≡ place x)
    by_test true t e = (t, cc)
    by_test false t e = absurd (cc)

place_within : (children : ℕ) (x : Item ℕ) → allowed children x ≡ true → place x ≤ children
place_within zero (child i) e = absurd (false≢true e)
place_within zero (packet p) e = omega arith
place_within (suc k) (child i) e = grind (arith, common_steps)
place_within (suc k) (packet p) e = absurd (false≢true e)

-- one more at place k
raised : (cs : List ℕ) (k j : ℕ) → k < length cs → get_or (set cs k (get_or cs k 0 + 1)) j 0 ≡ get_or cs j 0 + cond (eqb j k) 1 0
raised cs k j h = by_place (ℕ_discrete j k)
  where
    by_place : Dec (j ≡ k) → get_or (set cs k (get_or cs k 0 + 1)) j 0 ≡ get_or cs j 0 + cond (eqb j k) 1 0
    by_place (yes y) = rw (y, eq-eqb k k refl) (get_or-set_same cs k (get_or cs k 0 + 1) 0 h)
    by_place (no d) = rw (ne_eqb j k d) (grind (arith, get_or-set_other cs k j (get_or cs k 0 + 1) 0 d))

module _ (queue : List CodeEntry) (children i last : ℕ) (cs : List ℕ) (p : Counting queue children i last cs) (h : i < length queue) where
  abbrev here : CodeEntry
  here = get_or queue i no_entry

  abbrev rest : List (Entry ℕ)
  rest = map entry_of (drop (i + 1) queue)

  more : map entry_of (drop i queue) ≡ entry_of here ∷ rest
  more = rw (add-one, drop-cons queue i no_entry) refl

  module _ (k : ℕ) (e : slot children (item_of here.item) ≡ Some k) where
    own_place : (allowed children (item_of here.item) ≡ true) × (k ≡ place (item_of here.item))
    own_place = slot_some children (item_of here.item) k e

    within : children ≤ 8 → k < length cs
    within f = omega (arith, place_within children (item_of here.item) own_place.0, own_place.1, p.places)

    pub advance : children ≤ 8 → last ≤ here.rank → Counting queue children (i + 1) here.rank (set cs k (get_or cs k 0 + 1))
    advance f l =
        let h : k < length cs = within f in
        record {
          rises = p.rises ∙ ap (rises_from last) more ∙ rw (le-leb last here.rank l) refl;
          own = p.own ∙ ap (every (allowed children)) more ∙ rw own_place.0 refl;
          counts = λ j g u.
              let own : is_of j (item_of here.item) ≡ cond (eqb j k) 1 0 = rw own_place.1 (is_place (item_of here.item) j g) in
              omega (arith, raised cs k j h, ap (occurs j) more, p.counts j g u);
          small = λ j. grind (arith, common_steps, raised cs k j, p.small j);
          places = length-set cs k (get_or cs k 0 + 1) ∙ p.places;
        }

-- The walk down a path: what holds after i steps without fault, and how each step and the end keep it.
use Rattle.std.proofs.Common.{◌≡◌, ◌≢◌, ℕ, zero, suc, ◌+◌, ◌≤◌, ◌<◌, List, [], ◌∷◌, cond, length, drop, get_or, set}
use Rattle.std.proofs.Common.{replicate, refl, sym, ap, ◌∙◌, arith}
use Rattle.std.specs.Prelude.{Option, None, Some, Ok, Err, is_some, count_by}
use Rattle.std.proofs.Math.Option.{Option as ModelOption, none, some}
use Rattle.std.proofs.lemmas.List.{get_or-set_same, get_or-set_other, length-set}
use Rattle.std.proofs.lemmas.List.Sums.{sum_by-set}
use native.Mathlib.Decide.{ℕ_discrete}
use borrow.Author.Tests.{eq-eqb, ne_eqb}
use Rattle.base.proofs.Replicate.{get_or_everywhere}
use Rattle.refusal.specs.declared.Refusal.{Refusal}
use Rattle.refusal.specs.Numbers.{number}
use Rattle.topology.specs.Tree.{Topo, kids, width, size}
use Rattle.topology.specs.Address.{nth, child, addr, sub, subtree, child_of, depth}
use Rattle.topology.specs.Reader.{Within}
use Rattle.topology.proofs.Numbering.{addr_root, addr_in}
use Rattle.topology.proofs.Ancestry.{size_pos, in_height}
use Rattle.topology.proofs.Children.{HasChild, child_of_lt, child_of_ahead, child_of_after, subtree-child_of, depth-child_of}
use Rattle.pifo_model.specs.Queue.{Entry, entry, child as child_item, packet}
use Rattle.pifo_model.specs.Tree.{Step, step, path_fault}
use Rattle.pifo_model.specs.InnerNumbered.{kid_at, entered}
use Rattle.pifo_model.proofs.PathFault.{fault-above, end_fault, fault_on, fault_off}
use Rattle.queue_state.specs.State.{entry_of}
use Rattle.queue_state.specs.declared.Item.TheVariants.{Child, Packet}
use Rattle.queue_state.specs.declared.Entry.{Entry as CodeEntry}
use Rattle.queue_push.specs.InnerArrivals.{new_at, Walked}
use Rattle.queue_push.specs.Calls.{step_of}
use Rattle.queue_push.specs.declared.Step.{Step as CodeStep}

-- how many new entries a node has
abbrev pub counts : Option CodeEntry → ℕ
counts o = cond (is_some o) 1 0

-- the first of two entries
abbrev pub or : ModelOption (Entry ℕ) → ModelOption (Entry ℕ) → ModelOption (Entry ℕ)
or (some e) other = some e
or none other = other

or_none : (x : ModelOption (Entry ℕ)) → or x none ≡ x
or_none (some e) = refl
or_none none = refl

-- The walk is at a node, i steps down: the rest of the path is walked from there, and the nodes before it have their new entries.
pub record Walking (t : Topo) (ss : List Step) (l p at i : ℕ) (new : List (Option CodeEntry)) : Type 0 where
  pub places : length new ≡ 64
  pub low : at < 64
  pub few : i ≤ 8
  pub there : at < size t
  pub deep : depth t at ≡ i
  pub same : path_fault t ss ≡ path_fault (subtree t at) (drop i ss)
  pub entries : (n : ℕ) → or (new_at new n) (entered (subtree t at) at (drop i ss) l p n) ≡ entered t 0 ss l p n
  pub count : count_by is_some new ≡ i
  pub later : (n : ℕ) → at ≤ n → get_or new n None ≡ None

module _ (t : Topo) (fits : Within 64 t) (ss : List Step) (l p : ℕ) where
  pub set_out : Walking t ss l p 0 0 (replicate 64 None)
  set_out =
      let r : subtree t 0 ≡ t = ap (sub t) (addr_root t) in
      let none_yet = get_or_everywhere {A = Option CodeEntry} 64 in
      record {
        places = refl;
        low = omega arith;
        few = omega arith;
        there = size_pos t;
        deep = ap length (addr_root t);
        same = rw r;
        entries = λ n. rw (r, none_yet n None);
        count = refl;
        later = λ n _. none_yet n None;
      }

  pub refused : (nodes : ℕ) (e : Refusal) → number e ≡ path_fault t ss → Walked t nodes ss l p (Err e)
  refused nodes e f = record { fault = f; added = tt }

  module _ (at i : ℕ) (new : List (Option CodeEntry)) (w : Walking t ss l p at i new) where
    -- the walk's node gets its new entry, and the others what the rest of the path enters
    module _ (e : CodeEntry) (rest : ℕ → ModelOption (Entry ℕ)) (here : entered (subtree t at) at (drop i ss) l p at ≡ some (entry_of e))
        (else : (n : ℕ) → at ≢ n → entered (subtree t at) at (drop i ss) l p n ≡ rest n) where
      places_set : at < length new
      places_set = omega (arith, w.places, w.low)

      entries_set : (n : ℕ) → or (new_at (set new at (Some e)) n) (rest n) ≡ entered t 0 ss l p n
      entries_set n = by_node (ℕ_discrete at n)
        where
          by_node : Dec (at ≡ n) → or (new_at (set new at (Some e)) n) (rest n) ≡ entered t 0 ss l p n
          by_node (yes y) =
              rw (← y, get_or-set_same new at (Some e) None places_set)
              (sym here ∙ (simp (w.later at (omega arith)) at (w.entries at)))
          by_node (no d) = rw (get_or-set_other new at n (Some e) None (λ y. d (sym y)), ← else n d) (w.entries n)

      count_set : count_by is_some (set new at (Some e)) ≡ suc i
      count_set =
          let c : count_by is_some (set new at (Some e)) + counts (get_or new at None) ≡ count_by is_some new + 1 =
          sum_by-set counts new at (Some e) None places_set in
          let n : counts (get_or new at None) ≡ 0 = rw (w.later at (omega arith)) in
          omega (arith, w.count)

    -- ---- one more step

    module _ (s : CodeStep) (d : drop i ss ≡ step_of s ∷ drop (suc i) ss) where
      pub missing : (HasChild t at s.child → ⊥) → 13 ≡ path_fault t ss
      missing n = rw (w.same, d) (sym (fault_off (subtree t at) s.child s.rank (drop (suc i) ss) (λ x. n (w.there, x.0, x.1))))

      pub advance : (next : ℕ) → HasChild t at s.child → next ≡ child_of t at s.child
          → Walking t ss l p next (suc i) (set new at (Some (record { rank = s.rank; item = Child s.child })))
      advance next h q = by_child s.child refl
        where
          by_child : (c : ℕ) → s.child ≡ c → Walking t ss l p next (suc i) (set new at (Some (record { rank = s.rank; item = Child s.child })))
          by_child zero c = absurd (omega (arith, h.1))
          by_child (suc c) e =
              let u : Topo = subtree t at in
              let wide : suc c ≤ width u = omega (arith, h.2) in
              let tree : nth (kids u) c ≡ subtree t next = sym (ap (subtree t) q ∙ subtree-child_of t at s.child h ∙ ap (child u) e) in
              let kid : kid_at u at c ≡ next = sym (q ∙ ap (child_of t at) e ∙ child_of_ahead t at c w.there) in
              let taken : drop i ss ≡ step (suc c) s.rank ∷ drop (suc i) ss = rw (d, e) in
              let here : entered u at (drop i ss) l p at ≡ some (entry s.rank (child_item s.child)) = rw (taken, eq-eqb at at refl, e) in
              let else : (n : ℕ) → at ≢ n → entered u at (drop i ss) l p n ≡ entered (subtree t next) next (drop (suc i) ss) l p n =
              λ n x. rw (taken, ne_eqb at n x, tree, kid) in
              let there : next < size t = omega (arith, child_of_lt t at s.child h) in
              let deep : depth t next ≡ suc i = omega (arith, ap (depth t) q, depth-child_of t at s.child h, w.deep) in
              let e : CodeEntry = record { rank = s.rank; item = Child s.child } in
              let later : at < next = omega (arith, child_of_after t at s.child h) in
              record {
                places = length-set new at (Some e) ∙ w.places;
                low = omega (arith, fits.nodes);
                few = omega (arith, fits.steps, in_height t (addr t next) (addr_in t next there));
                there = there;
                deep = deep;
                same =
                    w.same ∙ ap (path_fault u) taken ∙ fault_on u (suc c) s.rank (drop (suc i) ss) (omega arith) wide
                    ∙ ap (λ (v : Topo). path_fault v (drop (suc i) ss)) tree;
                entries = entries_set e (λ n. entered (subtree t next) next (drop (suc i) ss) l p n) here else;
                count = omega (arith, count_set e (λ n. entered (subtree t next) next (drop (suc i) ss) l p n) here else);
                later = λ n g. get_or-set_other new at n (Some e) None (omega arith) ∙ w.later n (omega arith);
              }

    -- ---- the end of the path

    module _ (d : drop i ss ≡ []) where
      pub above : width (subtree t at) ≢ 0 → 14 ≡ path_fault t ss
      above n = rw (w.same, d) (sym (fault-above (subtree t at) n))

      pub arrived : width (subtree t at) ≡ 0 → (nodes count : ℕ) → size t ≡ nodes → count ≡ suc i
          → Walked t nodes ss l p (Ok (record { entries = set new at (Some (record { rank = l; item = Packet p })); count = count }))
      arrived z nodes count m k =
          let e : CodeEntry = record { rank = l; item = Packet p } in
          let here : entered (subtree t at) at (drop i ss) l p at ≡ some (entry l (packet p)) = rw (d, eq-eqb at at refl) in
          let else : (n : ℕ) → at ≢ n → entered (subtree t at) at (drop i ss) l p n ≡ none = λ n x. rw (d, ne_eqb at n x) in
          record {
            fault = rw (w.same, d) (sym (end_fault (subtree t at) z));
            added =
                record {
                  places = length-set new at (Some e) ∙ w.places;
                  entries = λ n. sym (or_none (new_at (set new at (Some e)) n)) ∙ entries_set e (λ _. none) here else n;
                  count = omega (arith, count_set e (λ _. none) here else);
                  few = omega (arith, w.few);
                  own = λ n g. get_or-set_other new at n (Some e) None (omega (arith, w.there)) ∙ w.later n (omega (arith, w.there));
                };
          }

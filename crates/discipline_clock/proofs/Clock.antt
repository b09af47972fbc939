-- The virtual times computed from a way are those of the definition: a way has the rank that a pop takes at each node (`rank_way`), so the answer of
-- `after_pop` is `after_pop` (`clock_after`).
use Rattle.std.proofs.Common.{◌≡◌, ◌≢◌, refl, sym, ap, ◌∙◌, ℕ, suc, ◌+◌, ◌-◌, ◌≤◌, ◌<◌, arith}
use Rattle.std.proofs.Common.{List, [], ◌∷◌, length, get_or, map, Option, Some, option_map, unwrap_or, Bool, true, false, cond, eqb, nat_eq}
use Rattle.std.specs.List.{find}
use Rattle.std.proofs.lemmas.List.FromFn.{length-range_with_len, get_or-range_with_len}
use mathlib.Core.Path.{ap₂}
use mathlib.Core.Option.{none, some}
use mathlib.Core.Option.{Option as Maybe}
use native.Mathlib.Nat.{not-suc-le-zero, le_of_suc-le-suc, zero-add, add-zero}
use lib.ListN.{replicate, length-map}
use lib.Seq.{take_at}
use borrow.Author.Tests.{lt-ltb, le-ltb}
use Rattle.topology.specs.Tree.{Topo, width, size}
use Rattle.topology.specs.Address.{addr, subtree}
use Rattle.topology.specs.Reader.{fault, tree}
use Rattle.topology.proofs.Lookup.{valid_size, valid_length, valid_width}
use Rattle.pifo_model.specs.Queue.{Rank, Entry, child, packet, entry}
use Rattle.pifo_model.specs.Tree.{shape}
use Rattle.pifo_model.specs.Way.{Taken, taken, way, takes}
use Rattle.pifo_model.proofs.Numbered.{shape_assemble}
use Rattle.pifo_model.proofs.Way.{lookup, passed, way_takes}
use Rattle.queue_state.specs.State.{Packet, bytes, queues, tree_of, machine, well_formed}
use Rattle.queue_state.specs.declared.State.{State}
use Rattle.queue_state.proofs.WellFormed.{formed}
use Rattle.queue_pop.specs.Way.{code_taken, no_taken, way_from, way_of}
use Rattle.queue_pop.specs.declared.Taken.{Taken as CodeTaken}
use Rattle.queue_pop.specs.declared.Way.{Way}
use Rattle.discipline_model.specs.Figure.{weighted, kind_at, acts_by, keeps_time, last_of, times_after, after_pop}
use Rattle.discipline_model.specs.Scheduler.{rank_of, rank_at}
use Rattle.discipline_model.specs.declared.Rule.{Rule}
use Rattle.discipline_model.specs.declared.Disciplines.{Disciplines}
use Rattle.discipline_model.proofs.AfterPop.{keeps_kept}
use Rattle.discipline_clock.specs.Clock.{code_option, rank_in, times_by, with_times, clocked, own_images}

-- ---- the rank that a way has at a node

-- the rank of what is taken at a node, if anything
abbrev rank_taken : Maybe Taken → Maybe Rank
rank_taken none = none
rank_taken (some (taken n i r)) = some r

abbrev rank_among : ℕ → List CodeTaken → Option Rank
rank_among n ps = option_map (λ p. p.rank) (find (λ p. nat_eq p.node n) ps)

among-lookup : (n : ℕ) (ts : List Taken) → rank_among n (map code_taken ts) ≡ code_option (rank_taken (lookup n ts))
among-lookup n [] = refl
among-lookup n (taken m i r ∷ ts) = by_test (eqb m n) (among-lookup n ts)
  where
    by_test : (b : Bool) → rank_among n (map code_taken ts) ≡ code_option (rank_taken (lookup n ts))
        → option_map (λ p. p.rank) (cond b (Some (code_taken (taken m i r))) (find (λ p. nat_eq p.node n) (map code_taken ts)))
        ≡ code_option (rank_taken (cond b (some (taken m i r)) (lookup n ts)))
    by_test true e = refl
    by_test false e = e

-- the first places of a way have what it takes
in_way : (n : ℕ) (ts : List Taken) → rank_in (way_from 0 ts) n ≡ code_option (rank_taken (lookup n ts))
in_way n ts =
    let long : length (map code_taken ts) ≡ 0 + length ts = omega (arith, length-map ts code_taken) in
    ap (rank_among n) (take_at (map code_taken ts) (replicate (9 - (0 + length ts)) no_taken) (0 + length ts) long) ∙ among-lookup n ts

rank_passed : (n : ℕ) (e : Maybe (Entry Packet)) → rank_taken (passed n e) ≡ rank_of e
rank_passed n none = refl
rank_passed n (some (entry r (packet p))) = refl
rank_passed n (some (entry r (child i))) = refl

-- The way of a pop has the rank that the pop takes at each node.
pub rank_way : (s : State) (n : ℕ) → well_formed s ≡ true → n < size (tree (bytes s)) → rank_in (way_of s) n ≡ code_option (rank_at (machine s) n)
unfolding way_of rank_at machine tree_of
rank_way s n w h =
    let t = tree_of s in
    let drawn : shape t ≡ tree (bytes s) = shape_assemble (tree (bytes s)) (queues s) 0 in
    let inside : n < size (shape t) = omega (arith, ap size drawn) in
    ap (λ (b : Bool). rank_in (way_from 0 (cond b (way t 0) [])) n) w
    ∙ in_way n (way t 0)
    ∙ ap (λ (o : Maybe Taken). code_option (rank_taken o)) (rw (zero-add n) at (way_takes t 0 n inside))
    ∙ ap code_option (rank_passed n (takes t (addr (shape t) n)))
    ∙ ap (λ (u : Topo). code_option (rank_of (takes t (addr u n)))) drawn

-- ---- the virtual times

same_last : (o : Maybe Rank) (v : Rank) → unwrap_or (code_option o) v ≡ last_of o v
same_last none v = refl
same_last (some r) v = refl

module _ (t : Topo) (rules : List Rule) (at : ℕ → Maybe Rank) where
  -- past the drawing's last node the times stay as they are
  times_past : (k : ℕ) (vs : List Rank) → size t ≤ k → vs ≡ times_after t rules at k vs
  times_past k [] h = refl
  times_past k (v ∷ vs) h = rw (le-ltb k (size t) h) (ap (λ (ys : List Rank). v ∷ ys) (times_past (suc k) vs (omega arith)))

  -- the nodes from node k on, whose bytes are bs; l has the images of the kept ones
  times-alike : (of : ℕ → Option Rank) (k : ℕ) (bs l : List ℕ) (vs : List Rank) → k + length bs ≡ size t → length bs ≤ length l
      → ((i : ℕ) → i < length bs → width (subtree t (k + i)) ≡ get_or bs i 0)
      → ((i : ℕ) → i < length bs → width (subtree t (k + i)) ≢ 1 → of (get_or l i 0) ≡ code_option (at (k + i)))
      → times_by rules of k bs l vs ≡ times_after t rules at k vs
  times-alike of k [] l vs e h w f = times_past k vs (omega arith)
  times-alike of k (b ∷ bs) [] vs e h w f = absurd (not-suc-le-zero h)
  times-alike of k (b ∷ bs) (a ∷ l) [] e h w f = refl
  times-alike of k (b ∷ bs) (a ∷ l) (v ∷ vs) e h w f =
      let next : (i : ℕ) → k + suc i ≡ suc k + i = λ i. omega arith in
      let rest = times-alike of (suc k) bs l vs (omega arith) (le_of_suc-le-suc h)
      (λ i g. rw (next i) at (w (suc i) (omega arith)))
      (λ i g. rw (next i) at (f (suc i) (omega arith))) in
      let width_is : width (subtree t k) ≡ b = rw (add-zero k) at (w 0 (omega arith)) in
      let first : width (subtree t k) ≢ 1 → of a ≡ code_option (at k) = rw (add-zero k) at (f 0 (omega arith)) in
      let keeps : eqb (acts_by b (kind_at rules k)) weighted ≡ keeps_time t rules k = rw (lt-ltb k (size t) (omega arith), width_is) in
      ap₂ (λ (x : Rank) (xs : List Rank). x ∷ xs)
      (ap (λ (c : Bool). cond c (unwrap_or (of a) v) v) keeps ∙ by_node first (keeps_time t rules k) refl) rest
    where
      by_node : (width (subtree t k) ≢ 1 → of a ≡ code_option (at k)) → (c : Bool) → keeps_time t rules k ≡ c
          → cond c (unwrap_or (of a) v) v ≡ cond c (last_of (at k) v) v
      by_node first true q = ap (λ (r : Option Rank). unwrap_or r v) (first (keeps_kept t rules k q).1) ∙ same_last (at k) v
      by_node first false q = refl

-- The answer of `after_pop` is the definition's, if at the image of each kept node the way has the rank that was popped at that node.
pub clock_after : (bs : List ℕ) (valid : fault 64 bs ≡ 0) (d : Disciplines) (w : Way) (images : List ℕ) (at : ℕ → Maybe Rank) (r : Disciplines)
    → length bs ≤ length images → ((n : ℕ) → n < length bs → width (subtree (tree bs) n) ≢ 1 → rank_in w (get_or images n 0) ≡ code_option (at n))
    → r ≡ clocked d bs w images → r ≡ after_pop (tree bs) d at
clock_after bs valid d w images at r h f e =
    e
    ∙ ap (with_times d)
    (times-alike (tree bs) d.rules at (rank_in w) 0 bs images d.virtual_time (zero-add (length bs) ∙ sym (valid_size 64 bs valid)) h
    (λ n g. rw (zero-add n) (valid_width 64 bs valid n g))
    (λ n g. rw (zero-add n) (f n g)))

-- ---- a tree by itself

-- With its own images the answer is the definition's for its own drawing and its own machine.
pub clock_own : (s : State) (d r : Disciplines) → well_formed s ≡ true → r ≡ clocked d (bytes s) (way_of s) own_images
    → r ≡ after_pop (tree (bytes s)) d (rank_at (machine s))
clock_own s d r w e =
    let valid = (formed s w).valid in
    let fits = valid_length 64 (bytes s) valid in
    clock_after (bytes s) valid d (way_of s) own_images (rank_at (machine s)) r (omega (arith, length-range_with_len 0 64))
    (λ n h kept.
    ap (rank_in (way_of s)) (get_or-range_with_len 0 64 n 0 (omega arith) ∙ zero-add n)
    ∙ rank_way s n w (omega (arith, valid_size 64 (bytes s) valid))) e

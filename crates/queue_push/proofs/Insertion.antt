-- Room is made for new entries, from the last queue to the first. Before place `end` the entries are the old ones, and from `left` places further on
-- they are new or have moved: with the old ones from `begin` to `end` before them, they are the new queues from the node on.
use Rattle.std.proofs.Common.{◌≡◌, ℕ, zero, suc, ◌+◌, ◌-◌, ◌≤◌, ◌<◌, List, [], ◌∷◌, ◌++◌, true, false, map, length, take, drop, get_or, set, leb}
use Rattle.std.proofs.Common.{refl, sym, ap, ◌∙◌, arith, add-zero, add-one, append_assoc}
use Rattle.std.specs.Prelude.{Option, None, Some, is_some, count_by}
use Rattle.std.specs.List.{copy_within, between}
use Rattle.std.proofs.Math.Seq.{slice, slice_empty}
use Rattle.std.proofs.lemmas.List.{length-set, length-take, length-take-le, get_or-set_same, get_or-set_other, take-set-le, take-take, take-append-le}
use Rattle.std.proofs.lemmas.List.{drop-set, drop-take, drop-drop, drop_at, take-append-drop, drop-append-le, map-append}
use Rattle.std.proofs.lemmas.Slice.{between_is}
use Rattle.std.proofs.lemmas.List.Sums.{sum_by-cons, sum_by-take-le, sum_by_more}
use Rattle.std.specs.List.Sorted.{IsNonDecreasingBy, IsPartitionPoint}
use native.Mathlib.Nat.{sub-zero}
use native.Mathlib.Decide.{ℕ_discrete}
use borrow.Author.Tests.{leb-true, leb-false, lt-ltb, le-ltb}
use Rattle.base.proofs.Permutation.{length_perm}
use Rattle.base.proofs.Slice.{take-slice}
use Rattle.pifo_model.specs.Queue.{Entry, insert, rises_from, insert_some}
use Rattle.pifo_model.proofs.Insert.{insert_perm, rises_head}
use Rattle.queue_state.specs.State.{entry_of, start_of, queue_in}
use Rattle.queue_state.specs.declared.Entry.{Entry as CodeEntry}
use Rattle.queue_state.proofs.Stretch.{start_next, start_order, queue_length, stretch, joined, cut}
use Rattle.queue_push.specs.InnerArrivals.{entry_in, new_at}
use Rattle.queue_push.proofs.WalkLoop.{counts}
use Rattle.pifo_model.specs.Assembled.{Queues}

stretch_none : (es : List CodeEntry) (a : ℕ) → stretch es a a ≡ []
stretch_none es a = ap (map entry_of) (slice_empty a es)

stretch-join : (es : List CodeEntry) (a b c : ℕ) → a ≤ b → b ≤ c → b ≤ length es → stretch es a c ≡ stretch es a b ++ stretch es b c
stretch-join es a b c h g f =
    let low : a ≤ length (take b es) = omega (arith, length-take-le b es f) in
    ap (λ (l : List CodeEntry). map entry_of (drop a l)) (take-slice b c es g)
    ∙ ap (map entry_of) (drop-append-le a (take b es) (slice b c es) low)
    ∙ map-append entry_of (slice a b es) (slice b c es)

-- ---- moves in the array

-- the entries before place `end` are those of es, and those from `left` places further on are given ones
pub record Placed (es : List CodeEntry) (given : List (Entry ℕ)) (left end : ℕ) (moved : List CodeEntry) : Type 0 where
  pub long : length moved ≡ 2304
  pub room : end + left ≤ 2304
  pub front : take end moved ≡ take end es
  pub back : map entry_of (drop (end + left) moved) ≡ given

module _ (es : List CodeEntry) (given : List (Entry ℕ)) (left end : ℕ) (moved : List CodeEntry) (w : Placed es given left end moved) where
  -- the last old entries, from place `at` on, move up
  pub shift : (at : ℕ) → at ≤ end → (after : List CodeEntry) → length after ≡ length moved → after ≡ copy_within moved at end (at + left)
      → Placed es (stretch es at end ++ given) left at after
  shift at h after l e =
      let fits : at + left ≤ length moved = omega (arith, w.long, w.room) in
      let part : take (end - at) (drop at moved) ≡ slice at end es =
      sym (drop-take at (end - at) moved) ∙ ap (λ (k : ℕ). drop at (take k moved)) at_end ∙ ap (drop at) w.front in
      let rest : at + left + (end - at) ≡ end + left = omega arith in
      record {
        long = l ∙ w.long;
        room = omega (arith, w.room);
        front =
            rw (e, append_assoc (take (at + left) moved) (take (end - at) (drop at moved)) (drop (at + left + (end - at)) moved))
            (take-append-le at (take (at + left) moved) _ (omega (arith, length-take-le (at + left) moved fits))
            ∙ take-take at (at + left) moved (omega arith)
            ∙ sym (take-take at end moved h) ∙ ap (take at) w.front ∙ take-take at end es h);
        back =
            rw (
              e,
              append_assoc (take (at + left) moved) (take (end - at) (drop at moved)) (drop (at + left + (end - at)) moved),
              drop_at (take (at + left) moved) (take (end - at) (drop at moved) ++ drop (at + left + (end - at)) moved) (at + left)
                  (length-take-le (at + left) moved fits),
              part,
              rest,
              map-append entry_of (slice at end es) (drop (end + left) moved),
              w.back,
            );
      }
    where
      at_end : at + (end - at) ≡ end
      at_end = omega arith

  -- a new entry is placed before those given
  pub write : (x : CodeEntry) → 0 < left → Placed es (entry_of x ∷ given) (left - 1) end (set moved (end + (left - 1)) x)
  write x h =
      let k : end + (left - 1) < length moved = omega (arith, w.long, w.room) in
      let u : end + (left - 1) + 1 ≡ end + left = omega arith in
      record {
        long = length-set moved (end + (left - 1)) x ∙ w.long;
        room = omega (arith, w.room);
        front = take-set-le end moved (end + (left - 1)) x (omega arith) ∙ w.front;
        back = rw (drop-set moved (end + (left - 1)) x k, u, w.back);
      }

-- ---- the place of a new entry in a queue

above_first : (r : ℕ) (q : List CodeEntry) → rises_from r (map entry_of q) ≡ true → (j : ℕ) (d : CodeEntry) → j < length q → r ≤ (get_or q j d).rank
above_first r [] h j d l = absurd (omega arith)
above_first r (e ∷ q) h zero d l = (rises_head r (entry_of e) (map entry_of q) h).0
above_first r (e ∷ q) h (suc j) d l =
    let p = rises_head r (entry_of e) (map entry_of q) h in
    omega (arith, p.0, above_first e.rank q p.1 j d (omega arith))

pub rising : (r : ℕ) (q : List CodeEntry) → rises_from r (map entry_of q) ≡ true → IsNonDecreasingBy (λ (e : CodeEntry). e.rank) q
rising r [] h i j d l g = absurd (omega arith)
rising r (e ∷ q) h zero zero d l g = omega arith
rising r (e ∷ q) h zero (suc j) d l g = above_first e.rank q (rises_head r (entry_of e) (map entry_of q) h).1 j d (omega arith)
rising r (e ∷ q) h (suc i) zero d l g = absurd (omega arith)
rising r (e ∷ q) h (suc i) (suc j) d l g = rising e.rank q (rises_head r (entry_of e) (map entry_of q) h).1 i j d (omega arith) (omega arith)

-- Place k of a queue is behind the entries of no greater rank than x and before the others.
abbrev pub PlaceFor : CodeEntry → List CodeEntry → ℕ → Type 0
PlaceFor x q k = IsPartitionPoint (λ (e : CodeEntry). leb e.rank x.rank ≡ true) (λ (e : CodeEntry). leb e.rank x.rank ≡ false) q k

insert_at : (x : CodeEntry) (q : List CodeEntry) (k : ℕ) → k ≤ length q
    → PlaceFor x q k
    → insert (entry_of x) (map entry_of q) ≡ map entry_of (take k q) ++ (entry_of x ∷ map entry_of (drop k q))
insert_at x [] zero h p = refl
insert_at x [] (suc k) h p = absurd (omega arith)
insert_at x (e ∷ q) zero h p = rw (lt-ltb x.rank e.rank (leb-false e.rank x.rank (p.1 0 e (omega arith) (omega arith))))
insert_at x (e ∷ q) (suc k) h p =
    rw (le-ltb x.rank e.rank (leb-true e.rank x.rank (p.0 0 e (omega arith) (omega arith))))
    (ap (λ (l : List (Entry ℕ)). entry_of e ∷ l)
    (insert_at x q k (omega arith) (λ i d l g. p.0 (suc i) d (omega arith) (omega arith), λ i d l g. p.1 (suc i) d (omega arith) (omega arith))))

-- the parts of a queue before and from a place
between-take : (es : List CodeEntry) (a k e : ℕ) → a + k ≤ e → take k (between a e es) ≡ slice a (a + k) es
between-take es a k e h = take-take k (e - a) (drop a es) (omega arith) ∙ sym (drop-take a k es)

between-drop : (es : List CodeEntry) (a k e : ℕ) → drop k (between a e es) ≡ slice (a + k) e es
between-drop es a k e = rw (between_is es a e) (drop-drop k a (take e es))

length_some : (new : Option CodeEntry) (q : List (Entry ℕ)) → length (insert_some (entry_in new) q) ≡ length q + counts new
length_some None q = sym (add-zero (length q))
length_some (Some e) q = omega (arith, length_perm (insert_perm (entry_of e) q))

-- if no node from k on has a new entry, the first k nodes have all
counted_front : (new : List (Option CodeEntry)) (k : ℕ) → ((n : ℕ) → k ≤ n → get_or new n None ≡ None)
    → count_by is_some (take k new) ≡ count_by is_some new
counted_front [] zero f = refl
counted_front [] (suc k) f = refl
counted_front (o ∷ new) zero f =
    let none : counts o ≡ 0 = ap counts (f 0 (omega arith)) in
    omega (arith, sum_by-cons counts o new, counted_front new zero (λ n h. f (suc n) (omega arith)))
counted_front (o ∷ new) (suc k) f =
    omega (arith, sum_by-cons counts o new, sum_by-cons counts o (take k new), counted_front new k (λ n h. f (suc n) (omega arith)))

-- ---- queue by queue

-- What holds before the insertion: the ranks in the queues never fall, and there is room.
pub record Ready (nodes total count : ℕ) (ls : List ℕ) (new : List (Option CodeEntry)) (es : List CodeEntry) : Type 0 where
  pub places : length new ≡ 64
  pub tall : length ls ≡ 64
  pub long : length es ≡ 2304
  pub all : count_by is_some new ≡ count
  pub own : (n : ℕ) → nodes ≤ n → get_or new n None ≡ None
  pub few : nodes ≤ 64
  pub used : total ≡ start_of ls nodes
  pub room : total + count ≤ 2304
  pub rises : (n : ℕ) → n < nodes → rises_from 0 (queue_in ls es n) ≡ true

-- The result: each queue has its new entry inserted, and all fit in the array.
pub record Entered (nodes : ℕ) (ls : List ℕ) (new : List (Option CodeEntry)) (es : List CodeEntry) (after : List ℕ) (moved : List CodeEntry)
    : Type 0 where
  pub queues : (n : ℕ) → n < nodes → queue_in after moved n ≡ insert_some (new_at new n) (queue_in ls es n)
  pub fits : start_of after nodes ≤ 2304

module _ (nodes total count : ℕ) (ls : List ℕ) (new : List (Option CodeEntry)) (es : List CodeEntry) where
  -- the new queues
  abbrev pub fresh : Queues ℕ
  fresh n = insert_some (new_at new n) (queue_in ls es n)

  abbrev pub back : List (Entry ℕ)
  back = map entry_of (drop (total + count) es)

  -- The first `node` queues are still to be visited, with `left` new entries. Before place `end` no entry has moved.
  pub record Making (left : ℕ) (lengths : List ℕ) (moved : List CodeEntry) (node begin end : ℕ) : Type 0 where
    pub ready : Ready nodes total count ls new es
    pub within : node ≤ nodes
    pub tall : length lengths ≡ 64
    pub begins : begin ≡ start_of ls node
    pub last : 0 < node → get_or ls (node - 1) 0 ≤ begin
    pub ahead : begin ≤ end
    pub coming : left ≡ count_by is_some (take node new)
    pub same : (n : ℕ) → n < node → get_or lengths n 0 ≡ get_or ls n 0
    pub grown : (n : ℕ) → node ≤ n → n < nodes → get_or lengths n 0 ≡ get_or ls n 0 + counts (get_or new n None)
    pub placed : Placed es (map entry_of (drop (end + left) moved)) left end moved
    pub whole : stretch es begin end ++ map entry_of (drop (end + left) moved) ≡ joined fresh node (nodes - node) ++ back

  last_length : (node begin : ℕ) → begin ≡ start_of ls node → 0 < node → get_or ls (node - 1) 0 ≤ begin
  last_length node begin e h =
      let k : suc (node - 1) ≡ node = omega arith in
      omega (arith, start_next ls (node - 1), ap (start_of ls) k)

  pub begin : Ready nodes total count ls new es → Making count ls es nodes total total
  begin r =
      let none : nodes - nodes ≡ 0 = omega arith in
      record {
        ready = r;
        within = omega arith;
        tall = r.tall;
        begins = r.used;
        last = last_length nodes total r.used;
        ahead = omega arith;
        coming = sym r.all ∙ sym (counted_front new nodes r.own);
        same = λ n h. refl;
        grown = λ n h g. absurd (omega arith);
        placed = record { long = r.long; room = r.room; front = refl; back = refl };
        whole = rw (none, stretch_none es total);
      }

  -- ---- one queue

  module _ (left : ℕ) (lengths : List ℕ) (moved : List CodeEntry) (n begin end : ℕ) (w : Making left lengths moved (suc n) begin end)
      (b : ℕ) (now : b ≡ get_or lengths n 0) where
    is : b ≡ get_or ls n 0
    is = now ∙ w.same n (omega arith)

    starts : begin - b ≡ start_of ls n
    starts = omega (arith, is, w.begins, start_next ls n)

    old_queue : between (begin - b) begin moved ≡ between (begin - b) begin es
    old_queue =
        rw (between_is moved (begin - b) begin, between_is es (begin - b) begin)
        (ap (drop (begin - b)) (sym (take-take begin end moved w.ahead) ∙ ap (take begin) w.placed.front ∙ take-take begin end es w.ahead))

    own_queue : stretch es (begin - b) begin ≡ queue_in ls es n
    own_queue = rw (starts, w.begins)

    pub own_rises : rises_from 0 (map entry_of (between (begin - b) begin moved)) ≡ true
    own_rises = rw (old_queue, between_is es (begin - b) begin, own_queue) (w.ready.rises n (omega (arith, w.within)))

    more : count_by is_some (take (suc n) new) ≡ count_by is_some (take n new) + counts (get_or new n None)
    more = rw add-one at (sum_by_more counts new n None (omega (arith, w.ready.places, w.ready.few, w.within)))

    -- the old entries from here to `end`, and those that have moved
    abbrev others : List (Entry ℕ)
    others = stretch es begin end ++ map entry_of (drop (end + left) moved)

    parted : (at : ℕ) → at ≤ begin → stretch es at end ++ map entry_of (drop (end + left) moved) ≡ stretch es at begin ++ others
    parted at h =
        rw (stretch-join es at begin end h w.ahead (omega (arith, w.ready.long, w.placed.room, w.ahead)))
        (append_assoc (stretch es at begin) (stretch es begin end) (map entry_of (drop (end + left) moved)))

    joined_here : (q : List (Entry ℕ)) → q ≡ fresh n → q ++ others ≡ joined fresh n (nodes - n) ++ back
    joined_here q e =
        let k : nodes - n ≡ suc (nodes - suc n) = omega (arith, w.within) in
        rw (e, w.whole, k) (sym (append_assoc (fresh n) (joined fresh (suc n) (nodes - suc n)) back))

    -- it has no new entry
    pub passed : get_or new n None ≡ None → Making left lengths moved n (begin - b) end
    passed e =
        let none : counts (get_or new n None) ≡ 0 = ap counts e in
        record {
          ready = w.ready;
          within = omega (arith, w.within);
          tall = w.tall;
          begins = starts;
          last = last_length n (begin - b) starts;
          ahead = omega (arith, w.ahead);
          coming = omega (arith, w.coming, more);
          same = λ m h. w.same m (omega arith);
          grown = λ m h g. grown_by m h g (ℕ_discrete m n);
          placed = w.placed;
          whole = parted (begin - b) (omega arith) ∙ joined_here (stretch es (begin - b) begin) (own_queue ∙ sym (simp e));
        }
      where
        grown_by : (m : ℕ) → n ≤ m → m < nodes → Dec (m ≡ n) → get_or lengths m 0 ≡ get_or ls m 0 + counts (get_or new m None)
        grown_by m l g (yes y) = let none : counts (get_or new n None) ≡ 0 = ap counts e in rw y (omega (arith, w.same n (omega arith)))
        grown_by m l g (no d) = w.grown m (omega arith) g

    -- its new entry is x, which goes behind the first k old ones
    module _ (x : CodeEntry) (e : get_or new n None ≡ Some x) (k : ℕ) where
      one : counts (get_or new n None) ≡ 1
      one = ap counts e

      abbrev place : ℕ
      place = begin - b + k

      pub entered : k ≤ length (between (begin - b) begin moved) → PlaceFor x (between (begin - b) begin moved) k
          → (upper : List CodeEntry) → length upper ≡ length moved → upper ≡ copy_within moved place end (place + left)
          → Making (left - 1) (set lengths n (get_or lengths n 0 + 1)) (set upper (place + (left - 1)) x) n (begin - b) place
      entered h p upper lu cu =
          let low : place ≤ begin = omega (arith, length-take (begin - (begin - b)) (drop (begin - b) moved)) in
          let some : 0 < left = omega (arith, w.coming, more, one) in
          let higher = shift es (map entry_of (drop (end + left) moved)) left end moved w.placed place (omega (arith, w.ahead)) upper lu cu in
          let all = write es (stretch es place end ++ map entry_of (drop (end + left) moved)) left place upper higher x some in
          let front = stretch es (begin - b) place in
          let behind = entry_of x ∷ stretch es place begin in
          record {
            ready = w.ready;
            within = omega (arith, w.within);
            tall = length-set lengths n (get_or lengths n 0 + 1) ∙ w.tall;
            begins = starts;
            last = last_length n (begin - b) starts;
            ahead = omega arith;
            coming = omega (arith, w.coming, more, one);
            same = λ m l. get_or-set_other lengths n m (get_or lengths n 0 + 1) 0 (omega arith) ∙ w.same m (omega arith);
            grown = λ m l g. grown_by m l g (ℕ_discrete m n);
            placed = record { long = all.long; room = all.room; front = all.front; back = refl };
            whole =
                rw (all.back, parted place low, ← joined_here (front ++ behind) (inserted (rw old_queue at h) (rw old_queue at p) low))
                (sym (append_assoc front behind others));
          }
        where
          inserted : k ≤ length (between (begin - b) begin es) → PlaceFor x (between (begin - b) begin es) k → place ≤ begin
              → stretch es (begin - b) place ++ (entry_of x ∷ stretch es place begin) ≡ fresh n
          inserted h p low =
              rw (
                e,
                ← own_queue,
                ← between_is es (begin - b) begin,
                insert_at x (between (begin - b) begin es) k h p,
                between-drop es (begin - b) k begin,
                between-take es (begin - b) k begin low,
              )

          grown_by : (m : ℕ) → n ≤ m → m < nodes → Dec (m ≡ n)
              → get_or (set lengths n (get_or lengths n 0 + 1)) m 0 ≡ get_or ls m 0 + counts (get_or new m None)
          grown_by m l g (yes y) =
              rw (y, get_or-set_same lengths n (get_or lengths n 0 + 1) 0 (omega (arith, w.tall, w.ready.few, w.within)))
              (omega (arith, w.same n (omega arith), one))
          grown_by m l g (no d) = get_or-set_other lengths n m (get_or lengths n 0 + 1) 0 d ∙ w.grown m (omega arith) g

  -- ---- the end

  pub opened_all : (left : ℕ) (lengths : List ℕ) (moved : List CodeEntry) (begin end : ℕ)
      → Making left lengths moved 0 begin end → Entered nodes ls new es lengths moved
  opened_all left lengths moved begin end w =
      let none : left ≡ 0 = omega (arith, w.coming) in
      let first : begin ≡ 0 = omega (arith, w.begins) in
      let e : end + left ≡ end = omega arith in
      let all : map entry_of moved ≡ joined fresh 0 nodes ++ back =
      ap (map entry_of) (sym (take-append-drop end moved)) ∙ map-append entry_of (take end moved) (drop end moved)
      ∙ rw w.placed.front (rw (e, first, sub-zero) at w.whole) in
      record {
        queues = cut lengths moved fresh nodes back long_fresh all;
        fits = omega (arith, fits nodes (omega arith), sum_by-take-le counts new nodes, w.ready.room, w.ready.used, w.ready.all);
      }
    where
      each : (n : ℕ) → n < nodes → get_or lengths n 0 ≡ get_or ls n 0 + counts (get_or new n None)
      each n h = w.grown n (omega arith) h

      fits : (n : ℕ) → n ≤ nodes → start_of lengths n ≤ start_of ls n + count_by is_some (take n new)
      fits zero h = omega arith
      fits (suc n) h =
          omega (
            arith,
            start_next lengths n,
            start_next ls n,
            each n h,
            fits n (omega arith),
            rw add-one at (sum_by_more counts new n None (omega (arith, w.ready.places, w.ready.few))),
          )

      long_fresh : (n : ℕ) → n < nodes → get_or lengths n 0 ≡ length (fresh n)
      long_fresh n h =
          omega (
            arith,
            each n h,
            length_some (get_or new n None) (queue_in ls es n),
            queue_length ls es n (omega (arith, start_order ls (suc n) nodes h, w.ready.used, w.ready.room, w.ready.long)),
          )

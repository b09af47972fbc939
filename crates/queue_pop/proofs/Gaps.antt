-- Closing gaps, queue by queue from the first to the last: the entries before place `kept` are what stays of the queues before a node, and those from
-- place `end` on are not moved yet.
use Rattle.std.proofs.Common.{◌≡◌, ℕ, suc, ◌+◌, ◌-◌, ◌≤◌, ◌<◌, List, ◌++◌, map, length, take, drop, get_or, refl, sym, ap, ◌∙◌, arith}
use Rattle.std.specs.List.{copy_within}
use Rattle.std.proofs.Math.Seq.{slice}
use Rattle.std.proofs.lemmas.List.{length-drop, drop-drop, drop-take, map-append, take-append-drop}
use Rattle.std.proofs.lemmas.List.Edits.{take-paste, drop-paste}
use Rattle.pifo_model.specs.Queue.{Entry}
use Rattle.pifo_model.specs.Assembled.{Queues}
use Rattle.queue_state.specs.State.{entry_of, start_of, queue_in}
use Rattle.queue_state.specs.declared.Entry.{Entry as CodeEntry}
use Rattle.queue_state.proofs.Stretch.{start_next, start_order, queue_length, map-drop, joined, joined_last, cut}

-- no queue is longer than before
abbrev pub Shorter : List ℕ → List ℕ → Type 0
Shorter old new = (n : ℕ) → get_or new n 0 ≤ get_or old n 0

-- the entries that stay: each queue has lost its first ones
pub record Closed (nodes : ℕ) (old new : List ℕ) (es r : List CodeEntry) : Type 0 where
  pub fewer : start_of new nodes ≤ start_of old nodes
  pub queues : (n : ℕ) → n < nodes → queue_in new r n ≡ drop (get_or old n 0 - get_or new n 0) (queue_in old es n)

drop_later : {A : Type 0} (i j : ℕ) (l m : List A) → i ≤ j → drop i l ≡ drop i m → drop j l ≡ drop j m
drop_later i j l m h e =
    let s : i + (j - i) ≡ j = omega arith in
    rw (← s, ← drop-drop (j - i) i l, ← drop-drop (j - i) i m, e)

module _ (nodes : ℕ) (old new : List ℕ) (es : List CodeEntry) where
  -- what stays of a queue
  abbrev pub stays : Queues ℕ
  stays n = drop (get_or old n 0 - get_or new n 0) (queue_in old es n)

  -- The first `node` queues are closed up.
  pub record Closing (moved : List CodeEntry) (kept end node : ℕ) : Type 0 where
    pub less : Shorter old new
    pub few : nodes ≤ 64
    pub fits : start_of old nodes ≤ 2304
    pub within : node ≤ nodes
    pub ends : end ≡ start_of old node
    pub next : node < nodes → end + get_or old node 0 ≤ 2304
    pub count : kept ≡ start_of new node
    pub behind : kept ≤ end
    pub long : length moved ≡ 2304
    pub back : drop end moved ≡ drop end es
    pub front : map entry_of (take kept moved) ≡ joined stays 0 node

  next_fits : start_of old nodes ≤ 2304 → (node end : ℕ) → end ≡ start_of old node → node < nodes → end + get_or old node 0 ≤ 2304
  next_fits f node end e h = omega (arith, start_next old node, start_order old (suc node) nodes h)

  pub begin : length es ≡ 2304 → nodes ≤ 64 → start_of old nodes ≤ 2304 → Shorter old new → Closing es 0 0 0
  begin l n f s =
      record {
        less = s;
        few = n;
        fits = f;
        within = omega arith;
        ends = refl;
        next = next_fits f 0 0 refl;
        count = refl;
        behind = omega arith;
        long = l;
        back = refl;
        front = refl;
      }

  module _ (moved : List CodeEntry) (kept end node : ℕ) (w : Closing moved kept end node) (h : node < nodes)
      (a b : ℕ) (was : a ≡ get_or old node 0) (now : b ≡ get_or new node 0) where
    smaller : b ≤ a
    smaller = omega (arith, w.less node)

    starts : end + a ≡ start_of old (suc node)
    starts = omega (arith, w.ends, start_next old node)

    own : map entry_of (take b (drop (end + a - b) moved)) ≡ stays node
    own =
        let l = smaller in
        let gone = get_or old node 0 - get_or new node 0 in
        let from = start_of old node + gone in
        let d : end + a - b ≡ from = omega (arith, w.ends) in
        let e : from + b ≡ start_of old (suc node) = omega (arith, start_next old node) in
        rw (
          d,
          drop_later end from moved es (omega (arith, w.ends)) w.back,
          ← drop-take from b es,
          e,
          ← drop-drop gone (start_of old node) (take (start_of old (suc node)) es),
        )
        (map-drop entry_of gone (slice (start_of old node) (start_of old (suc node)) es))

    pub closed_up : (after : List CodeEntry) → length after ≡ length moved → after ≡ copy_within moved (end + a - b) (end + a) kept
        → Closing after (kept + b) (end + a) (suc node)
    closed_up after l e =
        let s = smaller in
        let n : end + a - (end + a - b) ≡ b = omega arith in
        let i : kept ≤ length moved = omega (arith, w.long, w.behind, w.next h) in
        let j : b ≤ length (drop (end + a - b) moved) = omega (arith, length-drop (end + a - b) moved, w.long, w.next h) in
        record {
          less = w.less;
          few = w.few;
          fits = w.fits;
          within = h;
          ends = starts;
          next = next_fits w.fits (suc node) (end + a) starts;
          count = omega (arith, w.count, start_next new node);
          behind = omega (arith, w.behind);
          long = l ∙ w.long;
          back =
              drop_later (kept + b) (end + a) after moved (omega (arith, w.behind))
              (rw (e, n) (drop-paste moved kept (drop (end + a - b) moved) b i j))
              ∙ drop_later end (end + a) moved es (omega arith) w.back;
          front =
              rw (
                e,
                n,
                take-paste moved kept (drop (end + a - b) moved) b i j,
                map-append entry_of (take kept moved) (take b (drop (end + a - b) moved)),
                w.front,
                own,
              )
              (sym (joined_last stays node));
        }

  pub closed_all : (moved : List CodeEntry) (kept end : ℕ) → Closing moved kept end nodes → length es ≡ 2304 → Closed nodes old new es moved
  closed_all moved kept end w l =
      let all : map entry_of moved ≡ joined stays 0 nodes ++ map entry_of (drop kept moved) =
      ap (map entry_of) (sym (take-append-drop kept moved)) ∙ map-append entry_of (take kept moved) (drop kept moved)
      ∙ ap (λ (q : List (Entry ℕ)). q ++ map entry_of (drop kept moved)) w.front in
      record {
        fewer = omega (arith, w.behind, w.count, w.ends);
        queues = cut new moved stays nodes (map entry_of (drop kept moved)) each all;
      }
    where
      each : (n : ℕ) → n < nodes → get_or new n 0 ≡ length (stays n)
      each n g =
          let low = start_order old (suc n) nodes g in
          omega (arith, length-drop (get_or old n 0 - get_or new n 0) (queue_in old es n), queue_length old es n (omega (arith, w.fits)), w.less n)

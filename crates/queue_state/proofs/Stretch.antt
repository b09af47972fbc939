-- Queues one after the other: where each begins, how long it is, and how queues are joined and cut.
use mathlib.Core.Path.{◌≡◌, refl, sym, ap, ◌∙◌}
use Prim.Native.Nat.{ℕ, zero, suc, ◌+◌, ◌-◌, ◌≤◌, ◌<◌}
use native.Mathlib.Nat.{add-zero, zero-add}
use native.Mathlib.Omega.{arith}
use mathlib.Core.List.{List, ◌∷◌, [], ◌++◌, map, append_assoc, append-nil}
use lib.ListN.{length, take, drop, get_or, length-append, length-drop}
use lib.Seq.{slice, take_at, drop_at, length-take-le}
use Rattle.std.proofs.lemmas.List.{length-map, map-append, drop-map, take-map}
use Rattle.base.proofs.Slice.{take-slice}
use Rattle.base.proofs.Sum.{sum-take}
use Rattle.pifo_model.specs.Queue.{Entry}
use Rattle.queue_state.specs.State.{Packet, entry_of, start_of, queue_in}
use Rattle.queue_state.specs.declared.Entry.{Entry as CodeEntry}
use Rattle.pifo_model.specs.Assembled.{Queues}

-- ---- starts

pub start_next : (ls : List ℕ) (n : ℕ) → start_of ls (suc n) ≡ start_of ls n + get_or ls n 0
start_next ls n = sum-take ls n

pub start_later : (ls : List ℕ) (n k : ℕ) → start_of ls n ≤ start_of ls (n + k)
start_later ls n zero = omega (arith, ap (start_of ls) (add-zero n))
start_later ls n (suc k) =
    let e : n + suc k ≡ suc (n + k) = omega arith in
    omega (arith, ap (start_of ls) e, start_next ls (n + k), start_later ls n k)

pub start_order : (ls : List ℕ) (m n : ℕ) → m ≤ n → start_of ls m ≤ start_of ls n
start_order ls m n h =
    let e : m + (n - m) ≡ n = omega arith in
    omega (arith, start_later ls m (n - m), ap (start_of ls) e)

-- ---- stretches

-- the entries from place a to place b
abbrev pub stretch : List CodeEntry → ℕ → ℕ → List (Entry Packet)
stretch es a b = map entry_of (slice a b es)

pub length-stretch : (a b : ℕ) (es : List CodeEntry) → b ≤ length es → length (stretch es a b) ≡ b - a
length-stretch a b es h = length-map (slice a b es) entry_of ∙ length-drop a (take b es) ∙ ap (λ (k : ℕ). k - a) (length-take-le b es h)

pub queue_length : (ls : List ℕ) (es : List CodeEntry) (n : ℕ) → start_of ls (suc n) ≤ length es → length (queue_in ls es n) ≡ get_or ls n 0
queue_length ls es n h = omega (arith, length-stretch (start_of ls n) (start_of ls (suc n)) es h, start_next ls n)

module _ {ℓ κ} {A : Type ℓ} {B : Type κ} (f : A → B) where
  pub map-drop : (n : ℕ) (l : List A) → map f (drop n l) ≡ drop n (map f l)
  map-drop zero l = refl
  map-drop (suc n) [] = refl
  map-drop (suc n) (x ∷ l) = map-drop n l

-- ---- queues joined, k of them from node n on

abbrev pub joined : Queues Packet → ℕ → ℕ → List (Entry Packet)
joined q n zero = []
joined q n (suc k) = q n ++ joined q (suc n) k

pub joined-add : (q : Queues Packet) (n k l : ℕ) → joined q n (k + l) ≡ joined q n k ++ joined q (n + k) l
joined-add q n zero l = rw (zero-add l, add-zero n) refl
joined-add q n (suc k) l =
    let a : suc k + l ≡ suc (k + l) = omega arith in
    let b : n + suc k ≡ suc n + k = omega arith in
    rw (a, b, joined-add q (suc n) k l) (sym (append_assoc (q n) (joined q (suc n) k) (joined q (suc n + k) l)))

pub joined_last : (q : Queues Packet) (k : ℕ) → joined q 0 (suc k) ≡ joined q 0 k ++ q k
joined_last q k =
    let e : suc k ≡ k + 1 = omega arith in
    ap (joined q 0) e ∙ joined-add q 0 k 1 ∙ rw (zero-add k, append-nil (q k)) refl

pub joined_same : (q r : Queues Packet) (n k : ℕ) → ((m : ℕ) → n ≤ m → m < n + k → q m ≡ r m) → joined q n k ≡ joined r n k
joined_same q r n zero e = refl
joined_same q r n (suc k) e =
    rw (e n (omega arith) (omega arith), joined_same q r (suc n) k (λ m h g. e m (omega arith) (omega arith))) refl

-- the queues of the first k nodes, joined, are the first entries
pub joined_front : (ls : List ℕ) (es : List CodeEntry) (k : ℕ) → start_of ls k ≤ length es
    → joined (queue_in ls es) 0 k ≡ map entry_of (take (start_of ls k) es)
joined_front ls es zero h = refl
joined_front ls es (suc k) h =
    let o = start_order ls k (suc k) (omega arith) in
    joined_last (queue_in ls es) k
    ∙ rw (joined_front ls es k (omega arith)) (sym (map-append entry_of (take (start_of ls k) es) (slice (start_of ls k) (start_of ls (suc k)) es)))
    ∙ ap (map entry_of) (sym (take-slice (start_of ls k) (start_of ls (suc k)) es o))

-- If the entries are given queues joined, and the lengths are theirs, the queues of the entries are the given ones.
module _ (ls : List ℕ) (es : List CodeEntry) (q : Queues Packet) (k : ℕ) (back : List (Entry Packet))
    (same : (m : ℕ) → m < k → get_or ls m 0 ≡ length (q m)) (is : map entry_of es ≡ joined q 0 k ++ back) where
  pub start-joined : (m : ℕ) → m ≤ k → length (joined q 0 m) ≡ start_of ls m
  start-joined zero h = refl
  start-joined (suc m) h =
      ap length (joined_last q m)
      ∙ omega (arith, length-append (joined q 0 m) (q m), start-joined m (omega arith), same m h, start_next ls m)

  pub cut : (m : ℕ) → m < k → queue_in ls es m ≡ q m
  cut m h =
      let e : k ≡ suc m + (k - suc m) = omega arith in
      let more = joined q (0 + suc m) (k - suc m) ++ back in
      let front : map entry_of es ≡ joined q 0 (suc m) ++ more =
      is ∙ ap (λ (n : ℕ). joined q 0 n ++ back) e
      ∙ ap (λ (r : List (Entry Packet)). r ++ back) (joined-add q 0 (suc m) (k - suc m))
      ∙ append_assoc (joined q 0 (suc m)) (joined q (0 + suc m) (k - suc m)) back in
      sym (drop-map entry_of (start_of ls m) (take (start_of ls (suc m)) es))
      ∙ ap (drop (start_of ls m)) (sym (take-map entry_of (start_of ls (suc m)) es) ∙ ap (take (start_of ls (suc m))) front
      ∙ take_at (joined q 0 (suc m)) more (start_of ls (suc m)) (start-joined (suc m) h) ∙ joined_last q m)
      ∙ drop_at (joined q 0 m) (q m) (start_of ls m) (start-joined m (omega arith))

-- What the number of accepted bytes means. So many bytes are accepted (`accepted_first`), within the limit (`accepted_few`). If a byte follows them,
-- it is the first at fault, and the bytes up to it have the fault of all (`fault_next`). So it does not matter how many bytes behind the limit are
-- kept (`accepted-kept`).
--
-- A beginning of accepted bytes is accepted. So the test that is counted holds for the shorter beginnings and, from some length on, no more.
use mathlib.Core.Path.{◌≡◌, refl, sym, ap, ◌∙◌}
use Prim.Native.Nat.{ℕ, zero, suc, ◌+◌, ◌≤◌, ◌<◌}
use native.Mathlib.Nat.{not-suc-le-zero}
use native.Mathlib.Decide.{dec_lt}
use native.Mathlib.Omega.{arith}
use mathlib.Core.Bool.{Bool, true, false, cond}
use mathlib.Core.List.{List, [], ◌∷◌}
use lib.ListN.{length, take, drop, length-take, take-append-drop}
use lib.Seq.{take-take, take_all}
use lib.Dec.{leb}
use borrow.Author.Tests.{le-leb, leb-true, leb-false}
use Rattle.topology.specs.Reader.{owing, marking, fault_from, fault}
use Rattle.topology.specs.Debt.{Accepted}
use Rattle.topology.proofs.Reader.{sound}
use Rattle.topology.proofs.Accepted.{accepted_byte, accepted_before, first_decides}
use Rattle.topology_places.specs.Places.{counted}
use Rattle.topology_places.proofs.Counted.{counted_most}
use Rattle.topology_places.proofs.Passes.{counted_same, counted-still}
use Rattle.topology_reading.specs.Accepted.{accepted_bytes}

not_true : (b : Bool) → (b ≡ true → ⊥) → b ≡ false
not_true true f = absurd (f refl)
not_true false f = refl

-- ---- a test that holds for all numbers below one that passes

module _ (test : ℕ → Bool) where
  counted_all : (n : ℕ) → ((a : ℕ) → a < n → test a ≡ true) → counted test n ≡ n
  counted_all zero all = refl
  counted_all (suc n) all = rw (all n (omega arith)) (omega (arith, counted_all n (λ a l. all a (omega arith))))

  -- the numbers below the count pass, and no others
  abbrev Parted : ℕ → Type 0
  Parted n = ((a : ℕ) → a < counted test n → test a ≡ true) × ((a : ℕ) → counted test n ≤ a → a < n → test a ≡ false)

  parted : (n : ℕ) → ((a b : ℕ) → a ≤ b → b < n → test b ≡ true → test a ≡ true) → Parted n
  parted zero down = (λ a l. absurd (not-suc-le-zero l), λ a l g. absurd (not-suc-le-zero g))
  parted (suc n) down = by_test (test n) refl (parted n (λ a b l g. down a b l (omega arith)))
    where
      last : test n ≡ false → Parted n → (a : ℕ) → counted test n + 0 ≤ a → a < suc n → test a ≡ false
      last e p a l g = by_order (dec_lt a n)
        where
          by_order : Dec (a < n) → test a ≡ false
          by_order (yes h) = p.1 a (omega arith) h
          by_order (no h) = let same : a ≡ n = omega arith in ap test same ∙ e

      by_test : (b : Bool) → test n ≡ b → Parted n → ((a : ℕ) → a < counted test n + cond b 1 0 → test a ≡ true)
          × ((a : ℕ) → counted test n + cond b 1 0 ≤ a → a < suc n → test a ≡ false)
      by_test true e p =
          let all = counted_all n (λ a l. down a n (omega arith) (omega arith) e) in
          (λ a l. down a n (omega (arith, all)) (omega arith) e, λ a l g. absurd (omega (arith, all)))
      by_test false e p = (λ a l. p.0 a (omega arith), last e p)

-- ---- the accepted bytes

-- accepted bytes are no more than the limit
few_from : (limit n debt : ℕ) (marks bs : List ℕ) → n ≤ limit → fault_from limit n debt marks bs ≤ 1 → n + length bs ≤ limit
few_from limit n debt marks [] l h = omega arith
few_from limit n debt marks (b ∷ bs) l h =
    let a = accepted_byte limit n debt marks b bs h in
    omega (arith, few_from limit (suc n) (owing debt b) (marking debt marks b) bs (sound limit n debt (length marks) b a.0).nodes a.1)

few_accepted : (limit : ℕ) (bytes : List ℕ) → Accepted limit bytes → length bytes ≤ limit
unfolding fault
few_accepted limit bytes h = omega (arith, few_from limit 0 1 [] bytes (omega arith) h)

module _ (limit : ℕ) (bytes : List ℕ) where
  abbrev passes : ℕ → Bool
  passes n = leb (fault limit (take (suc n) bytes)) 1

  shorter : (m n : ℕ) → m ≤ n → Accepted limit (take n bytes) → Accepted limit (take m bytes)
  shorter m n l h =
      let split : take m bytes ≡ take m (take n bytes) = sym (take-take m n bytes l) in
      rw split (accepted_before limit (take m (take n bytes)) (drop m (take n bytes)) (rw (take-append-drop m (take n bytes)) h))

  parts : Parted passes (length bytes)
  parts =
      parted passes (length bytes)
      (λ a b l g e. le-leb (fault limit (take (suc a) bytes)) 1
      (shorter (suc a) (suc b) (omega arith) (leb-true (fault limit (take (suc b) bytes)) 1 e)))

  accepted-length : accepted_bytes limit bytes ≤ length bytes
  unfolding accepted_bytes
  accepted-length = counted_most passes (length bytes)

  -- The accepted bytes are accepted.
  pub accepted_first : Accepted limit (take (accepted_bytes limit bytes) bytes)
  unfolding accepted_bytes fault
  accepted_first = by_count (counted passes (length bytes)) parts.0
    where
      by_count : (n : ℕ) → ((a : ℕ) → a < n → passes a ≡ true) → Accepted limit (take n bytes)
      by_count zero all = omega arith
      by_count (suc n) all = leb-true (fault limit (take (suc n) bytes)) 1 (all n (omega arith))

  -- There are at most as many as the limit.
  pub accepted_few : accepted_bytes limit bytes ≤ limit
  accepted_few =
      omega (
        arith,
        few_accepted limit (take (accepted_bytes limit bytes) bytes) accepted_first,
        length-take (accepted_bytes limit bytes) bytes,
        accepted-length,
      )

  -- The byte after them, if there is one, is the first at fault, and its fault is that of all bytes.
  pub fault_next : accepted_bytes limit bytes < length bytes
      → (1 < fault limit bytes) × (fault limit (take (suc (accepted_bytes limit bytes)) bytes) ≡ fault limit bytes)
  unfolding accepted_bytes
  fault_next h =
      let n = counted passes (length bytes) in
      let refused = leb-false (fault limit (take (suc n) bytes)) 1 (parts.1 n (omega arith) h) in
      let decided = first_decides limit (take (suc n) bytes) (drop (suc n) bytes) (λ a. omega (arith, refused)) in
      let whole : fault limit bytes ≡ fault limit (take (suc n) bytes) = ap (fault limit) (sym (take-append-drop (suc n) bytes)) ∙ decided in
      (omega (arith, refused, whole), sym whole)

  -- If there is none, the fault is 1 or there is none.
  pub fault_none : accepted_bytes limit bytes ≡ length bytes → fault limit bytes ≤ 1
  fault_none e = rw (e, take_all (length bytes) bytes (omega arith)) at accepted_first

-- The bytes up to one more than the limit have as many accepted ones as all bytes.
pub accepted-kept : (limit : ℕ) (bytes : List ℕ) → accepted_bytes limit (take (suc limit) bytes) ≡ accepted_bytes limit bytes
unfolding accepted_bytes
accepted-kept limit bytes = by_order (dec_lt (suc limit) (length bytes))
  where
    kept : List ℕ
    kept = take (suc limit) bytes

    late : (a : ℕ) → suc limit ≤ a → a < length bytes → passes limit bytes a ≡ false
    late a l g =
        not_true (passes limit bytes a)
        (λ e. let short = few_accepted limit (take (suc a) bytes) (leb-true (fault limit (take (suc a) bytes)) 1 e) in
        omega (arith, short, length-take (suc a) bytes))

    by_order : Dec (suc limit < length bytes) → counted (passes limit kept) (length kept) ≡ counted (passes limit bytes) (length bytes)
    by_order (yes h) =
        let long : length kept ≡ suc limit = omega (arith, length-take (suc limit) bytes) in
        ap (counted (passes limit kept)) long
        ∙ counted_same (passes limit kept) (passes limit bytes) (suc limit)
        (λ a l. ap (λ (bs : List ℕ). leb (fault limit bs) 1) (take-take (suc a) (suc limit) bytes (omega arith)))
        ∙ sym (counted-still (passes limit bytes) (suc limit) (length bytes) (omega arith) late)
    by_order (no h) = ap (λ (bs : List ℕ). counted (passes limit bs) (length bs)) (take_all (suc limit) bytes (omega arith))

-- The scan for the end of a branch: the bytes up to i are read, and the trees that they still owe end at `end` or later.
use mathlib.Core.Path.{◌≡◌, refl, sym, ap, ◌∙◌}
use Prim.Native.Nat.{ℕ, zero, suc, ◌+◌, ◌-◌, ◌≤◌, ◌<◌, zero-le, suc-le-suc}
use native.Mathlib.Nat.{add-zero, zero-add, not-suc-le-zero}
use native.Mathlib.Numerals.{add-one}
use native.Mathlib.Omega.{arith}
use mathlib.Core.List.{List, [], ◌∷◌}
use lib.ListN.{length, drop, get_or, length-drop, drop_of_length-le}
use lib.Seq.{drop-cons, drop-drop}
use Rattle.topology.specs.Branch.{span, branch_end, start}

pub span-zero : (bs : List ℕ) → span 0 bs ≡ 0
span-zero [] = refl
span-zero (b ∷ bs) = refl

-- where more trees are owed than bytes are left, all bytes are read
span-short : (k : ℕ) (bs : List ℕ) → length bs ≤ k → span k bs ≡ length bs
span-short k [] h = refl
span-short zero (b ∷ bs) h = absurd (not-suc-le-zero h)
span-short (suc k) (b ∷ bs) h = ap suc (span-short (b + k) bs (omega arith))

abbrev pub end_from : List ℕ → ℕ → ℕ → ℕ
end_from bytes i end = i + span (end - i) (drop i bytes)

pub scan_none : (bytes : List ℕ) (n : ℕ) → length bytes ≤ n → n ≡ branch_end bytes n
unfolding branch_end
scan_none bytes n h = rw (drop_of_length-le bytes h) (sym (add-zero n))

pub scan-start : (bytes : List ℕ) (n : ℕ) → branch_end bytes n ≡ end_from bytes n (n + 1)
unfolding branch_end
scan-start bytes n =
    let e : n + 1 - n ≡ 1 = omega arith in
    rw e

pub scan_done : (bytes : List ℕ) (i end : ℕ) → i ≤ end → end ≤ i → end_from bytes i end ≡ end
scan_done bytes i end h l =
    let e : end - i ≡ 0 = omega arith in
    rw e (omega (arith, span-zero (drop i bytes)))

module _ (bytes : List ℕ) (i end : ℕ) (h : i < end) (l : end ≤ length bytes) where
  read_one : span (end - i) (drop i bytes) ≡ suc (span (get_or bytes i 0 + (end - (i + 1))) (drop (i + 1) bytes))
  read_one =
      let e : end - i ≡ suc (end - (i + 1)) = omega arith in
      rw (e, drop-cons bytes i 0 (omega arith), add-one i)

  pub scan_more : end_from bytes i end ≡ end_from bytes (i + 1) (end + get_or bytes i 0)
  scan_more =
      let e : get_or bytes i 0 + (end - (i + 1)) ≡ end + get_or bytes i 0 - (i + 1) = omega arith in
      let r = read_one ∙ ap (λ (k : ℕ). suc (span k (drop (i + 1) bytes))) e in
      omega arith

  pub scan-short : length bytes - end < get_or bytes i 0 → end_from bytes i end ≡ length bytes
  scan-short g =
      let r = span-short (end + get_or bytes i 0 - (i + 1)) (drop (i + 1) bytes) (omega (arith, length-drop (i + 1) bytes)) in
      omega (arith, scan_more, length-drop (i + 1) bytes)

span_le : (k : ℕ) (bs : List ℕ) → span k bs ≤ length bs
span_le k [] = zero-le
span_le zero (b ∷ bs) = zero-le
span_le (suc k) (b ∷ bs) = suc-le-suc (span_le (b + k) bs)

-- a branch ends within the bytes
pub end_bounds : (bytes : List ℕ) (n : ℕ) → n ≤ length bytes → (n ≤ branch_end bytes n) × (branch_end bytes n ≤ length bytes)
unfolding branch_end
end_bounds bytes n h =
    let l = span_le 1 (drop n bytes) in
    let d = length-drop n bytes in
    (omega arith, omega arith)

-- ---- a branch ends where one more child would start

-- j trees followed by k more
span-add : (j k : ℕ) (bs : List ℕ) → span (j + k) bs ≡ span j bs + span k (drop (span j bs) bs)
span-add j k [] = refl
span-add zero k (b ∷ bs) = ap (λ (n : ℕ). span n (b ∷ bs)) (zero-add k) ∙ sym (zero-add (span k (b ∷ bs)))
span-add (suc j) k (b ∷ bs) =
    let e : suc j + k ≡ suc (j + k) = omega arith in
    let f : b + (j + k) ≡ b + j + k = omega arith in
    rw (e, f) (omega (arith, span-add (b + j) k bs))

start-span : (bytes : List ℕ) (n i : ℕ) → start bytes n i ≡ suc n + span i (drop (suc n) bytes)
unfolding branch_end
start-span bytes n zero = omega (arith, span-zero (drop (suc n) bytes))
start-span bytes n (suc i) =
    rw (start-span bytes n i)
    (let bs = drop (suc n) bytes in
    let d = ap (span 1) (drop-drop (span i bs) (suc n) bytes) in
    let e = ap (λ (k : ℕ). span k bs) (add-one i) in
    omega (arith, span-add i 1 bs))

pub end_start : (bytes : List ℕ) (n : ℕ) → n < length bytes → branch_end bytes n ≡ start bytes n (get_or bytes n 0)
unfolding branch_end
end_start bytes n h =
    let b = get_or bytes n 0 in
    rw (start-span bytes n b, drop-cons bytes n 0 h, add-zero b) (omega arith)

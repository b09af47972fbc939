-- Part of a list that begins at a given index: its elements, and parts of parts.
use mathlib.Core.Path.{◌≡◌, refl, sym, ap, ◌∙◌}
use Prim.Native.Nat.{ℕ, ◌+◌, ◌<◌}
use native.Mathlib.Omega.{arith}
use mathlib.Core.List.{List, [], ◌++◌, append_assoc}
use lib.ListN.{length, take, drop, get_or, length-append, get_or-append}
use lib.Seq.{take-append_seam, drop_at, get_or-append-add}

module _ {ℓ} {A : Type ℓ} where
  pub record Part (whole : List A) (n : ℕ) (part : List A) : Type ℓ where
    pub front : List A
    pub back : List A
    pub is : whole ≡ front ++ (part ++ back)
    pub at : length front ≡ n

  pub part-append : (l m : List A) → Part (l ++ m) 0 l
  part-append l m = record { front = []; back = m; is = refl; at = refl }

  pub part-behind : (k : List A) {l m : List A} {n : ℕ} → Part l n m → Part (k ++ l) (length k + n) m
  part-behind k {l} {m} {n} p =
      record {
        front = k ++ p.front;
        back = p.back;
        is = ap (λ (r : List A). k ++ r) p.is ∙ sym (append_assoc k p.front (m ++ p.back));
        at = omega (arith, length-append k p.front, p.at);
      }

  pub part-part : {l m k : List A} {n i : ℕ} → Part l n m → Part m i k → Part l (n + i) k
  part-part {l} {m} {k} {n} {i} p q =
      record {
        front = p.front ++ q.front;
        back = q.back ++ p.back;
        is = p.is ∙ ap (λ (r : List A). p.front ++ (r ++ p.back)) q.is ∙ simp append_assoc;
        at = omega (arith, length-append p.front q.front, p.at, q.at);
      }

  pub drop-part : {l m : List A} {n : ℕ} (p : Part l n m) → drop n l ≡ m ++ p.back
  drop-part {l} {m} {n} p = ap (drop n) p.is ∙ drop_at p.front (m ++ p.back) n p.at

  pub take_part : {l m : List A} {n : ℕ} → Part l n m → take (length m) (drop n l) ≡ m
  take_part {l} {m} p = ap (take (length m)) (drop-part p) ∙ take-append_seam m p.back

  pub get_d_part : {l m : List A} {n : ℕ} → Part l n m → (i : ℕ) (d : A) → i < length m → get_or l (n + i) d ≡ get_or m i d
  get_d_part {l} {m} {n} p i d h =
      ap (λ (r : List A). get_or r (n + i) d) p.is
      ∙ ap (λ (k : ℕ). get_or (p.front ++ (m ++ p.back)) (k + i) d) (sym p.at)
      ∙ get_or-append-add p.front (m ++ p.back) i d
      ∙ get_or-append m p.back d i h

-- The cases of the definitions over bytes: one law for each answer that the code gives.
use mathlib.Core.Path.{◌≡◌, refl, sym, ap, ◌∙◌}
use mathlib.Core.Logic.{◌≢◌}
use Prim.Native.Nat.{ℕ, zero, suc, ◌+◌, ◌-◌, ◌≤◌, ◌<◌}
use native.Mathlib.Omega.{arith}
use mathlib.Core.List.{List, []}
use mathlib.Core.Bool.{Bool, true, false, ◌&&◌, cond}
use lib.ListN.{length, take, drop, get_or, get_or-eq_default}
use lib.Dec.{leb, ltb}
use borrow.Author.Tests.{lt-ltb, le-ltb, le-leb, lt-leb, leb-true}
use Rattle.base.proofs.Tests.{clash}
use Rattle.refusal.specs.Numbers.{number}
use Rattle.refusal.specs.declared.Refusal.{Refusal}
use Rattle.base.proofs.Refusals.{refused_other}
use Rattle.refusal.proofs.Numbers.{number-ne0, refused_first}
use Rattle.topology.specs.Reader.{fault}
use Rattle.topology.specs.Branch.{branch_end, start, child_at, is_above, toward_from, toward_at, branch_fault, branch_part}
use Rattle.std.specs.Prelude.{Option, None, Some}
use Rattle.topology.specs.declared.Child.{Child}

pub child-zero : (bytes : List ℕ) (n i : ℕ) → i ≡ 0 → None ≡ child_at bytes n i
unfolding child_at
child-zero bytes n i e = rw e

pub child_none : (bytes : List ℕ) (n i : ℕ) → get_or bytes n 0 < i → None ≡ child_at bytes n i
unfolding child_at
child_none bytes n zero h = refl
child_none bytes n (suc i) h = simp (le-ltb i (get_or bytes n 0) (omega arith))

pub child_out : (bytes : List ℕ) (n i : ℕ) → length bytes ≤ n → None ≡ child_at bytes n i
unfolding child_at
child_out bytes n zero h = refl
child_out bytes n (suc i) h = child_none bytes n (suc i) (omega (arith, get_or-eq_default bytes 0 h))

pub child_found : (bytes : List ℕ) (n i k at : ℕ) → at ≡ start bytes n (k - 1) → k ≡ i → i ≢ 0 → i ≤ get_or bytes n 0
    → Some at ≡ child_at bytes n i
unfolding child_at
child_found bytes n zero k at e f g h = absurd (g refl)
child_found bytes n (suc i) k at e f g h =
    let d : k - 1 ≡ i = omega arith in
    rw (e, d, lt-ltb i (get_or bytes n 0) h)

pub above_test : (bytes : List ℕ) (a b end : ℕ) → a ≤ b → end ≡ branch_end bytes a → ltb b end ≡ is_above bytes a b
unfolding is_above
above_test bytes a b end h e = rw (le-leb a b h, e)

pub above_not : (bytes : List ℕ) (a b : ℕ) → b < a → false ≡ is_above bytes a b
unfolding is_above
above_not bytes a b h = rw (lt-leb a b h)

-- a child comes after its parent
pub start_after : (bytes : List ℕ) (n i : ℕ) → n < start bytes n i
unfolding branch_end
start_after bytes n zero = omega arith
start_after bytes n (suc i) = omega (arith, start_after bytes n i)

-- The scan over the children of node n for the one toward y: it is at child `number` of k, which starts no later than y.
module _ (bytes : List ℕ) (n y : ℕ) where
  pub toward_out : length bytes ≤ n → None ≡ toward_at bytes n y
  unfolding toward_at
  toward_out h = rw (get_or-eq_default bytes 0 h)

  toward_none : (i k : ℕ) → y ≤ n → toward_from bytes n y i k ≡ None
  toward_none i zero h = refl
  toward_none i (suc k) h = rw (sym (above_not bytes (start bytes n i) y (omega (arith, start_after bytes n i)))) (toward_none (suc i) k h)

  pub toward_before : y ≤ n → None ≡ toward_at bytes n y
  unfolding toward_at
  toward_before h = sym (toward_none 0 (get_or bytes n 0) h)

  pub toward-start : toward_at bytes n y ≡ toward_from bytes n y 0 (get_or bytes n 0 - 0)
  unfolding toward_at
  toward-start =
      let e : get_or bytes n 0 - 0 ≡ get_or bytes n 0 = omega arith in
      rw e

  pub toward_end : (i k : ℕ) → k ≤ i → toward_from bytes n y i (k - i) ≡ None
  toward_end i k h =
      let e : k - i ≡ 0 = omega arith in
      rw e

  -- behind the last child
  pub toward_past : (number k : ℕ) → k < number → toward_from bytes n y (number - 1) (k - (number - 1)) ≡ None
  toward_past number k h = toward_end (number - 1) k (omega arith)

  module _ (number k at end : ℕ) (b : 1 ≤ number) (h : number ≤ k) (s : at ≡ start bytes n (number - 1)) (l : at ≤ y) (f : end ≡ branch_end bytes at) where
    toward_test : toward_from bytes n y (number - 1) (k - (number - 1)) ≡ cond (ltb y end) (Some (record { number = number; node = at })) (toward_from bytes n y number (k - number))
    toward_test =
        let i : suc (number - 1) ≡ number = omega arith in
        let e : k - (number - 1) ≡ suc (k - number) = omega arith in
        rw (e, ← s, ← above_test bytes at y end l f, i)

    pub toward_here : y < end → toward_from bytes n y (number - 1) (k - (number - 1)) ≡ Some (record { number = number; node = at })
    toward_here g = toward_test ∙ rw (lt-ltb y end g)

    passed : end ≤ y → toward_from bytes n y (number - 1) (k - (number - 1)) ≡ toward_from bytes n y number (k - number)
    passed g = toward_test ∙ rw (le-ltb y end g)

    pub toward_next : end ≤ y → (end ≡ start bytes n (number + 1 - 1))
        × (toward_from bytes n y (number - 1) (k - (number - 1)) ≡ toward_from bytes n y (number + 1 - 1) (k - (number + 1 - 1)))
    toward_next g =
        let i : suc (number - 1) ≡ number = omega arith in
        let e : number + 1 - 1 ≡ number = omega arith in
        rw (e, ← i) (f ∙ rw s, rw i (passed g))

    pub toward_last : end ≤ y → k ≤ number → toward_from bytes n y (number - 1) (k - (number - 1)) ≡ None
    toward_last g m = passed g ∙ toward_end number k m

-- The child toward a node comes after its parent, and is that node or comes before it.
above_low : (bytes : List ℕ) (a b : ℕ) → is_above bytes a b ≡ true → a ≤ b
unfolding is_above
above_low bytes a b e = by_test (leb a b) refl e
  where
    by_test : (c : Bool) → leb a b ≡ c → (c && ltb b (branch_end bytes a)) ≡ true → a ≤ b
    by_test true q z = leb-true a b q
    by_test false q z = absurd (clash (cc))

abbrev node_of : Option Child → ℕ
node_of None = 0
node_of (Some c) = c.node

between_from : (bytes : List ℕ) (n y i k j c : ℕ) → toward_from bytes n y i k ≡ Some (record { number = j; node = c }) → (n < c) × (c ≤ y)
between_from bytes n y i zero j c e = absurd (clash (cc))
between_from bytes n y i (suc k) j c e = by_test (is_above bytes (start bytes n i) y) refl e (between_from bytes n y (suc i) k j c)
  where
    by_test : (b : Bool) → is_above bytes (start bytes n i) y ≡ b
        → cond b (Some (record { number = suc i; node = start bytes n i })) (toward_from bytes n y (suc i) k) ≡ Some (record { number = j; node = c })
        → (toward_from bytes n y (suc i) k ≡ Some (record { number = j; node = c }) → (n < c) × (c ≤ y)) → (n < c) × (c ≤ y)
    by_test true q z rest =
        let is : start bytes n i ≡ c = ap (λ (o : Option Child). node_of o) z in
        (omega (arith, start_after bytes n i), omega (arith, above_low bytes (start bytes n i) y q))
    by_test false q z rest = rest z

pub toward_between : (bytes : List ℕ) (n y i c : ℕ) → toward_at bytes n y ≡ Some (record { number = i; node = c }) → (n < c) × (c ≤ y)
unfolding toward_at
toward_between bytes n y i c e = between_from bytes n y 0 (get_or bytes n 0) i c e

-- The three answers of the branch: the reader's refusal, 19, and a part of the bytes.
module _ (bytes : List ℕ) (n : ℕ) where
  pub branch-refused : (e : Refusal) → number e ≡ fault 64 bytes → (number e ≡ branch_fault bytes n) × ([] ≡ branch_part bytes n)
  unfolding branch_fault branch_part
  branch-refused e h =
      let q = refused_first e (fault 64 bytes) (cond (ltb n (length bytes)) 0 19) h in
      (q, refused_other (branch_fault bytes n) (take (branch_end bytes n - n) (drop n bytes)) [] (λ z. number-ne0 e (q ∙ z)))

  pub branch_missing : 0 ≡ fault 64 bytes → length bytes ≤ n → (19 ≡ branch_fault bytes n) × ([] ≡ branch_part bytes n)
  unfolding branch_fault branch_part
  branch_missing e h = rw (← e, le-ltb n (length bytes) h) (refl, refl)

  pub branch_there : 0 ≡ fault 64 bytes → n < length bytes → (end : ℕ) → end ≡ branch_end bytes n
      → (0 ≡ branch_fault bytes n) × (take (end - n) (drop n bytes) ≡ branch_part bytes n)
  unfolding branch_fault branch_part
  branch_there e h end q = rw (← e, lt-ltb n (length bytes) h, q) (refl, refl)

-- Kraft's inequality: complete trees of given heights at pairwise unrelated nodes of a complete tree have together at most as many leaves as it has.
--
-- By induction on the depth. If one of them is the whole tree, it is the only one. Otherwise each lies below a child of the root; those below one
-- child have at most as many leaves as the child's branch, and there are d children.
use mathlib.Core.Path.{◌≡◌, refl, sym, ap, ◌∙◌, subst}
use mathlib.Core.Logic.{◌≢◌, ◌⊎◌, inl, inr}
use Prim.Native.Nat.{ℕ, zero, suc, ◌+◌, ◌*◌, ◌^◌, ◌≤◌, ◌<◌}
use native.Mathlib.Nat.{not-suc-le-zero, suc-mul, pow-succ', pow-le-pow_right}
use native.Mathlib.Decide.{ℕ_discrete}
use native.Mathlib.Omega.{arith}
use mathlib.Core.List.{List, [], ◌∷◌, ◌++◌}
use mathlib.Core.Bool.{Bool, true, false, ◌&&◌, false≢true}
use lib.ListN.{length, get_or}
use lib.Dec.{eqb, leb}
use borrow.Author.Tests.{eqb-true, leb-true, eq-eqb, le-leb}
use Rattle.std.proofs.lemmas.Bool.{and_parts}
use Rattle.topology.specs.Tree.{Topo}
use Rattle.topology.specs.Address.{Addr, In, Above}
use Rattle.regular_model.specs.Regular.{complete}
use Rattle.regular_model.proofs.Complete.{child-complete, width-complete}
use Rattle.regular_model.proofs.Room.{None, room, room_more, room_split, room_none, room_only}

-- The trees of the heights hs that a test chooses are at unrelated nodes of the complete tree of depth k.
pub record Apart (d k : ℕ) (test : ℕ → Bool) (at : ℕ → Addr) (hs : List ℕ) : Type 0 where
  pub there : (i : ℕ) → i < length hs → test i ≡ true → In (complete d k) (at i)
  pub inside : (i : ℕ) → i < length hs → test i ≡ true → length (at i) + get_or hs i 0 ≤ k
  pub apart : (i j : ℕ) → i < length hs → j < length hs → test i ≡ true → test j ≡ true → i ≢ j → Above (at i) (at j) → ⊥

-- the first step of a way, and the others
abbrev first : Addr → ℕ
first [] = 0
first (x ∷ a) = x

abbrev rest : Addr → Addr
rest [] = []
rest (x ∷ a) = a

split : (a : Addr) (c : ℕ) → first a ≡ suc c → a ≡ suc c ∷ rest a
split [] c e = absurd (omega arith)
split (x ∷ a) c e = ap (λ (n : ℕ). n ∷ a) e

root_way : (t : Topo) (a : Addr) → In t a → first a ≤ 0 → a ≡ []
root_way t [] i o = refl
root_way t (x ∷ a) i o = absurd (omega (arith, i.0))

-- the test holds of a number below n, or of none
abbrev Some : ℕ → (ℕ → Bool) → Type 0
Some n test = (i : ℕ) × (i < n) × (test i ≡ true)

find : (n : ℕ) (test : ℕ → Bool) → Some n test ⊎ None n test
find zero test = inr (λ i l. absurd (not-suc-le-zero l))
find (suc n) test = by_first (test 0) refl (find n (λ i. test (suc i)))
  where
    past_first : test 0 ≡ false → None n (λ i. test (suc i)) → None (suc n) test
    past_first e f zero l t = false≢true (sym e ∙ t)
    past_first e f (suc i) l t = f i (omega arith) t

    by_first : (b : Bool) → test 0 ≡ b → Some n (λ i. test (suc i)) ⊎ None n (λ i. test (suc i)) → Some (suc n) test ⊎ None (suc n) test
    by_first true e r = inl (0, omega arith, e)
    by_first false e (inl (i, l, t)) = inl (suc i, omega arith, t)
    by_first false e (inr f) = inr (past_first e f)

-- the chosen trees below one of the first c children or, for c = 0, at the root; and the chosen trees below child c
abbrev among : (ℕ → Bool) → (ℕ → Addr) → ℕ → ℕ → Bool
among test at c i = test i && leb (first (at i)) c

abbrev under : (ℕ → Bool) → (ℕ → Addr) → ℕ → ℕ → Bool
under test at c i = test i && eqb (first (at i)) c

module _ (d : ℕ) (z : 0 < d) (test : ℕ → Bool) (at : ℕ → Addr) (hs : List ℕ) where
  -- a tree at the root is the only one
  whole : (k : ℕ) → Apart d k test at hs → (j : ℕ) → j < length hs → among test at 0 j ≡ true → room d 0 test hs ≤ d ^ k
  whole k a j g r =
      omega (arith, room_only d test hs j g (λ i l t. only i l t (ℕ_discrete i j)), pow-le-pow_right {n = d} z {i = get_or hs j 0} {j = k} (omega (arith, a.inside j g chosen)))
    where
      chosen : test j ≡ true
      chosen = (and_parts (test j) (leb (first (at j)) 0) r).0

      root : at j ≡ []
      root = root_way (complete d k) (at j) (a.there j g chosen) (leb-true (first (at j)) 0 (and_parts (test j) (leb (first (at j)) 0) r).1)

      only : (i : ℕ) → i < length hs → test i ≡ true → Dec (i ≡ j) → i ≡ j
      only i l t (yes q) = q
      only i l t (no n) = absurd (a.apart j i g l chosen t (λ q. n (sym q)) (at i, ap (λ (x : Addr). x ++ at i) (sym root)))

  module _ (k : ℕ) (a : Apart d (suc k) test at hs) where
    -- the trees below one child, in that child's branch
    below : (c : ℕ) → Apart d k (under test at (suc c)) (λ i. rest (at i)) hs
    below c =
        record {
          there = λ i l e.
              let way_in = subst (In (complete d (suc k))) (way i e) (a.there i l (chosen i e)) in
              subst (λ (t : Topo). In t (rest (at i))) (child-complete d k (suc c) way_in.0 (omega (arith, way_in.1, width-complete d k))) way_in.2;
          inside = λ i l e. omega (arith, a.inside i l (chosen i e), ap length (way i e));
          apart = λ i j l g e f n u.
              a.apart i j l g (chosen i e) (chosen j f) n (u.0, way j f ∙ ap (λ (x : Addr). suc c ∷ x) u.1 ∙ ap (λ (x : Addr). x ++ u.0) (sym (way i e)));
        }
      where
        chosen : (i : ℕ) → under test at (suc c) i ≡ true → test i ≡ true
        chosen i e = (and_parts (test i) (eqb (first (at i)) (suc c)) e).0

        way : (i : ℕ) → under test at (suc c) i ≡ true → at i ≡ suc c ∷ rest (at i)
        way i e = split (at i) c (eqb-true (first (at i)) (suc c) (and_parts (test i) (eqb (first (at i)) (suc c)) e).1)

    module _ (lower : (c : ℕ) → room d 0 (under test at (suc c)) hs ≤ d ^ k)
        (none : None (length hs) (among test at 0)) where
      below_first : (c : ℕ) → room d 0 (among test at c) hs ≤ c * d ^ k
      below_first zero = omega (arith, room_none d (among test at 0) hs none)
      below_first (suc c) =
          omega (
            arith,
            suc-mul c (d ^ k),
            below_first c,
            lower c,
            room_split d (among test at (suc c)) (among test at c) (under test at (suc c)) hs
                (λ i l e. by_child i (and_parts (test i) (leb (first (at i)) (suc c)) e).0 (and_parts (test i) (leb (first (at i)) (suc c)) e).1 (ℕ_discrete (first (at i)) (suc c))),
          )
        where
          by_child : (i : ℕ) → test i ≡ true → leb (first (at i)) (suc c) ≡ true → Dec (first (at i) ≡ suc c)
              → (among test at c i ≡ true) ⊎ (under test at (suc c) i ≡ true)
          by_child i t e (yes q) = inr (rw (t, eq-eqb (first (at i)) (suc c) q))
          by_child i t e (no q) = inl (rw (t, le-leb (first (at i)) c (omega (arith, leb-true (first (at i)) (suc c) e))))

      all_below : room d 0 test hs ≤ d ^ suc k
      all_below = omega (arith, below_first d, pow-succ' d k, room_more d test (among test at d) hs some)
        where
          low : (x : Addr) → In (complete d (suc k)) x → first x ≤ d
          low [] i = omega arith
          low (y ∷ x) i = omega (arith, i.1, width-complete d k)

          some : (i : ℕ) → i < length hs → test i ≡ true → among test at d i ≡ true
          some i l t = rw (t, le-leb (first (at i)) d (low (at i) (a.there i l t)))

  -- at depth 0 none is below a child
  nothing-below : Apart d 0 test at hs → None (length hs) (among test at 0) → room d 0 test hs ≤ d ^ 0
  nothing-below a none = omega (arith, room_none d test hs (λ i l t. none i l (rw (t, le-leb (first (at i)) 0 (low (at i) (a.there i l t))))))
    where
      low : (x : Addr) → In (complete d 0) x → first x ≤ 0
      low [] i = omega arith
      low (y ∷ x) i = omega (arith, i.0, i.1)

module _ (d : ℕ) (z : 0 < d) where
  pub kraft : (k : ℕ) (test : ℕ → Bool) (at : ℕ → Addr) (hs : List ℕ) → Apart d k test at hs → room d 0 test hs ≤ d ^ k
  kraft zero test at hs a = by_root (find (length hs) (among test at 0))
    where
      by_root : Some (length hs) (among test at 0) ⊎ None (length hs) (among test at 0) → room d 0 test hs ≤ d ^ 0
      by_root (inl (i, l, e)) = whole d z test at hs 0 a i l e
      by_root (inr none) = nothing-below d z test at hs a none
  kraft (suc k) test at hs a = by_root (find (length hs) (among test at 0)) (λ c. kraft k (under test at (suc c)) (λ i. rest (at i)) hs (below d z test at hs k a c))
    where
      by_root : Some (length hs) (among test at 0) ⊎ None (length hs) (among test at 0)
          → ((c : ℕ) → room d 0 (under test at (suc c)) hs ≤ d ^ k) → room d 0 test hs ≤ d ^ suc k
      by_root (inl (i, l, e)) lower = whole d z test at hs (suc k) a i l e
      by_root (inr none) lower = all_below d z test at hs k a lower none

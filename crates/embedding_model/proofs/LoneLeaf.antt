-- The least map of a lone leaf: the first leaf of the target.
use mathlib.Core.Path.{◌≡◌, refl, sym, ap, ◌∙◌, subst}
use mathlib.Core.Logic.{◌≢◌, inl, inr}
use Prim.Native.Nat.{ℕ, zero, suc, ◌<◌}
use native.Mathlib.Nat.{not-suc-le-zero, le_of_suc-le-suc}
use native.Mathlib.Omega.{arith}
use mathlib.Core.List.{List, [], ◌∷◌, ◌++◌, append_assoc, append-nil}
use mathlib.Core.Bool.{Bool, true, false, cond}
use mathlib.Core.Option.{some}
use lib.ListN.{length, get_or}
use lib.Dec.{eqb}
use borrow.Author.Tests.{eqb-true, eqb-false, ne_eqb}
use Rattle.topology.specs.Tree.{Topo, Forest, node, fnil, fcons, count, width, code, codes, size, sizes, leaf}
use Rattle.topology.specs.Address.{Addr, Above, addr, sub, subtree}
use Rattle.topology.proofs.Decoding.{length_code, byte_width}
use Rattle.topology.proofs.Numbering.{addr_root}
use Rattle.embedding_model.specs.Rules.{Embeds, Before}
use Rattle.embedding_model.specs.Least.{least_map}
use Rattle.embedding_model.proofs.Least.{least-is}
use Rattle.embedding_model.specs.FirstLeaf.{first_leaf}

pub leaf_code : (t : Topo) → width t ≡ 0 → code t ≡ 0 ∷ []
leaf_code (node fnil) w = refl
leaf_code (node (fcons t ts)) w = absurd (omega arith)

-- ---- the first byte 0

first_zero : (bs : List ℕ) → first_leaf bs < length bs → get_or bs (first_leaf bs) 0 ≡ 0
first_zero [] h = refl
first_zero (b ∷ bs) h = by_test (eqb b 0) refl h (first_zero bs)
  where
    by_test : (t : Bool) → eqb b 0 ≡ t → cond t 0 (suc (first_leaf bs)) < suc (length bs) → (first_leaf bs < length bs → get_or bs (first_leaf bs) 0 ≡ 0)
        → get_or (b ∷ bs) (cond t 0 (suc (first_leaf bs))) 0 ≡ 0
    by_test true e h r = eqb-true b 0 e
    by_test false e h r = r (le_of_suc-le-suc h)

before_zero : (bs : List ℕ) (j : ℕ) → j < first_leaf bs → get_or bs j 0 ≢ 0
before_zero [] j h = absurd (not-suc-le-zero h)
before_zero (b ∷ bs) j h = by_test j (eqb b 0) refl h (before_zero bs)
  where
    by_test : (j : ℕ) (t : Bool) → eqb b 0 ≡ t → j < cond t 0 (suc (first_leaf bs)) → ((j : ℕ) → j < first_leaf bs → get_or bs j 0 ≢ 0)
        → get_or (b ∷ bs) j 0 ≢ 0
    by_test j true e h r = absurd (not-suc-le-zero h)
    by_test zero false e h r = eqb-false b 0 e
    by_test (suc j) false e h r = r j (le_of_suc-le-suc h)

-- Every tree has a leaf.
mutual
  first_in : (t : Topo) (bs : List ℕ) → first_leaf (code t ++ bs) < size t
  first_in (node ts) bs = first_ins ts bs

  first_ins : (ts : Forest) (bs : List ℕ) → first_leaf (count ts ∷ (codes ts ++ bs)) < suc (sizes ts)
  first_ins fnil bs = omega arith
  first_ins (fcons t ts) bs =
      let e = append_assoc (code t) (codes ts) bs in
      rw (ne_eqb (suc (count ts)) 0 (λ q. omega arith), e) (omega (arith, first_in t (codes ts ++ bs)))

module _ (T : Topo) where
  first : ℕ
  first = first_leaf (code T)

  pub first_leaf_in : first_leaf (code T) < size T
  first_leaf_in = subst (λ (l : List ℕ). first_leaf l < size T) (append-nil (code T)) (first_in T [])

  lone_embeds : Embeds leaf T (first ∷ [])
  unfolding first
  lone_embeds =
      record {
        long = refl;
        within = λ a h. rw (only a h) first_leaf_in;
        once = λ a b h g e. omega arith;
        root = λ w. absurd (w refl);
        leaf = λ a h e. rw (only a h) is_leaf;
        order = λ a b h g. (
          λ u. rw (only a h, only b g) (self (addr T first)),
          λ u. rw (only a h, only b g) (self (addr leaf 0)),
        );
      }
    where
      only : (a : ℕ) → a < 1 → a ≡ 0
      only a h = omega arith

      self : (x : Addr) → Above x x
      self x = ([], sym (append-nil x))

      is_leaf : width (subtree T first) ≡ 0
      is_leaf = sym (byte_width T first first_leaf_in) ∙ first_zero (code T) (omega (arith, first_leaf_in, length_code T))

  -- A lone leaf goes to the first leaf of the target.
  pub lone_least : least_map (0 ∷ []) (code T) ≡ some (first_leaf (code T) ∷ [])
  unfolding first
  lone_least = least-is leaf T (first ∷ []) (record { embeds = lone_embeds; first = least })
    where
      least : (l : List ℕ) → Embeds leaf T l → Before l (first ∷ []) → ⊥
      least [] p b = b
      least (x ∷ l) p (inr (e, b)) = none l b
        where
          none : (l : List ℕ) → Before l [] → ⊥
          none [] b = b
          none (y ∷ l) b = b
      least (x ∷ l) p (inl h) =
          before_zero (code T) x h (byte_width T x (p.within 0 (omega arith)) ∙ p.leaf 0 (omega arith) (ap (λ (a : Addr). width (sub leaf a)) (addr_root leaf)))

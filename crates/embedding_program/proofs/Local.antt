-- Maps node by node. A list of images meets all four rules if it sends the root to the root, each child below its parent's image, the children of one
-- node to unrelated nodes, and leaves to leaves.
--
-- Branches are intervals of node numbers. The image of a node below another stays in the other's image's branch (`nested`, by induction up the parents
-- of the lower node). Unrelated nodes have unrelated images (`disjoint`): of the two nodes, replace the one whose parent has the greater number by its
-- parent, until both are children of one node.
use mathlib.Core.Path.{◌≡◌, sym, ap, ◌∙◌, subst}
use mathlib.Core.Logic.{◌↔◌, ◌≢◌, ◌⊎◌, inl, inr}
use Prim.Native.Nat.{ℕ, zero, suc, ◌+◌, ◌-◌, ◌≤◌, ◌<◌}
use native.Mathlib.Nat.{not-suc-le-zero}
use native.Mathlib.Decide.{dec_lt, ℕ_discrete}
use native.Mathlib.Omega.{arith}
use mathlib.Core.List.{List, [], ◌∷◌, ◌++◌, append_assoc, append-nil}
use lib.ListN.{length, length-append}
use Rattle.std.proofs.lemmas.List.{same_from_push}
use Rattle.base.proofs.Last.{split_last}
use Rattle.topology.specs.Tree.{Topo, width, size}
use Rattle.topology.specs.Address.{Addr, Above, addr, subtree, child_of}
use Rattle.topology.proofs.Ancestry.{above_from, above_to, size_pos, subtree_end, subtree-sum}
use Rattle.topology.proofs.Children.{HasChild, addr-child_of, child_of_after, child-within, Parent, parent, above_parent}
use Rattle.embedding_model.specs.Rules.{image, Embeds}
use Rattle.embedding_program.specs.InnerMeaning.{end}

-- the branches of two nodes have no node in common
abbrev pub Apart : Topo → ℕ → ℕ → Type 0
Apart t x y = (end t x ≤ y) ⊎ (end t y ≤ x)

pub end_after : (t : Topo) (n : ℕ) → n < end t n
end_after t n = omega (arith, size_pos (subtree t n))

-- a branch that begins in another ends in it
pub end_within : (t : Topo) (a b : ℕ) → a < size t → a ≤ b → b < end t a → end t b ≤ end t a
end_within t a b h l g =
    let e : a + (b - a) ≡ b = omega arith in
    let s : size (subtree t b) ≡ size (subtree (subtree t a) (b - a)) =
    ap (λ (n : ℕ). size (subtree t n)) (sym e) ∙ ap size (subtree-sum t a (b - a) h (omega arith)) in
    omega (arith, subtree_end (subtree t a) (b - a) (omega arith))

-- two children of one node are unrelated
pub siblings : (t : Topo) (n i j : ℕ) → HasChild t n i → HasChild t n j → i ≢ j → Above (addr t (child_of t n i)) (addr t (child_of t n j)) → ⊥
siblings t n i j h g d (r, e) = by_rest r (sym (addr-child_of t n j g) ∙ e ∙ ap (λ (a : Addr). a ++ r) (addr-child_of t n i h))
  where
    by_rest : (r : Addr) → addr t n ++ (j ∷ []) ≡ (addr t n ++ (i ∷ [])) ++ r → ⊥
    by_rest [] q = d (sym (same_from_push (addr t n) (addr t n) j i (q ∙ append-nil (addr t n ++ (i ∷ [])))).1)
    by_rest (k ∷ r) q =
        let s = split_last k r in
        let f : addr t n ++ (j ∷ []) ≡ ((addr t n ++ (i ∷ [])) ++ s.0) ++ (s.1 ∷ []) =
        q ∙ ap (λ (l : Addr). (addr t n ++ (i ∷ [])) ++ l) s.2 ∙ sym (append_assoc (addr t n ++ (i ∷ [])) s.0 (s.1 ∷ [])) in
        let same = (same_from_push (addr t n) ((addr t n ++ (i ∷ [])) ++ s.0) j s.1 f).0 in
        omega (arith, ap length same, length-append (addr t n ++ (i ∷ [])) s.0, length-append (addr t n) (i ∷ []))

-- Rule 1 follows from rule 4: of two nodes with one image, each lies at or above the other.
pub rule_1 : (S T : Topo) (m : List ℕ)
    → ((a b : ℕ) → a < size S → b < size S → (Above (addr S a) (addr S b) ↔ Above (addr T (image m a)) (addr T (image m b))))
    → (a b : ℕ) → a < size S → b < size S → image m a ≡ image m b → a ≡ b
rule_1 S T m order a b h g e =
    let up = above_from S a b h g ((order a b h g).1 ([], ap (addr T) (sym e) ∙ sym (append-nil (addr T (image m a))))) in
    let back = above_from S b a g h ((order b a g h).1 ([], ap (addr T) e ∙ sym (append-nil (addr T (image m b))))) in
    omega arith

pub record Local (S T : Topo) (m : List ℕ) : Type 0 where
  pub long : length m ≡ size S
  pub root : image m 0 ≡ 0
  pub within : (a : ℕ) → a < size S → image m a < size T
  pub leaf : (a : ℕ) → a < size S → width (subtree S a) ≡ 0 → width (subtree T (image m a)) ≡ 0
  pub down : (a i : ℕ) → HasChild S a i → (image m a < image m (child_of S a i)) × (image m (child_of S a i) < end T (image m a))
  pub apart : (a i j : ℕ) → HasChild S a i → HasChild S a j → i ≢ j → Apart T (image m (child_of S a i)) (image m (child_of S a j))

module _ (S T : Topo) (m : List ℕ) (l : Local S T m) where
  -- a node's image and its parent's
  record Step (n p : ℕ) : Type 0 where
    less : p < n
    there : p < size S
    inside : n < end S p
    low : image m p < image m n
    high : image m n < end T (image m p)
    ends : end T (image m n) ≤ end T (image m p)

  step : (n : ℕ) → n < size S → (p : Parent S n) → Step n p.node
  step n h p =
      let d = l.down p.node p.index p.has in
      let low : image m p.node < image m n = subst (λ (k : ℕ). image m p.node < image m k) p.child d.0 in
      let high : image m n < end T (image m p.node) = subst (λ (k : ℕ). image m k < end T (image m p.node)) p.child d.1 in
      record {
        less = subst (λ (k : ℕ). p.node < k) p.child (child_of_after S p.node p.index p.has);
        there = p.has.0;
        inside = subst (λ (k : ℕ). k < end S p.node) p.child (child-within S p.node p.index p.has);
        low = low;
        high = high;
        ends = end_within T (image m p.node) (image m n) (l.within p.node p.has.0) (omega arith) high;
      }

  nested_from : (fuel a b : ℕ) → b < fuel → a < b → b < size S → b < end S a → (image m a < image m b) × (image m b < end T (image m a))
  nested_from zero a b f h g e = absurd (not-suc-le-zero f)
  nested_from (suc fuel) a b f h g e =
      let p = parent S b (omega arith) g in
      let s = step b g p in
      let u = above_parent S a b h g e p in
      let f' : p.node < fuel = omega (arith, s.less) in
      by_parent p.node s u f' (ℕ_discrete a p.node) (nested_from fuel a p.node)
    where
      by_parent : (q : ℕ) → Step b q → (a ≤ q) × (q < end S a) → q < fuel → Dec (a ≡ q)
          → (q < fuel → a < q → q < size S → q < end S a → (image m a < image m q) × (image m q < end T (image m a)))
          → (image m a < image m b) × (image m b < end T (image m a))
      by_parent q s u f (yes e) r = subst (λ (k : ℕ). (image m k < image m b) × (image m b < end T (image m k))) (sym e) (s.low, s.high)
      by_parent q s u f (no d) r =
          let i = r f (omega arith) s.there u.1 in
          let n = end_within T (image m a) (image m q) (l.within a (omega arith)) (omega arith) i.1 in
          (omega (arith, s.low), omega (arith, s.high))

  pub nested : (a b : ℕ) → a < b → b < size S → b < end S a → (image m a < image m b) × (image m b < end T (image m a))
  nested a b = nested_from (suc b) a b (omega arith)

  abbrev Again : ℕ → Type 0
  Again fuel = (x y : ℕ) → x + y < fuel → x < y → y < size S → end S x ≤ y → Apart T (image m x) (image m y)

  disjoint_from : (fuel a b : ℕ) → a + b < fuel → a < b → b < size S → end S a ≤ b → Apart T (image m a) (image m b)
  disjoint_from zero a b f h g e = absurd (not-suc-le-zero f)
  disjoint_from (suc fuel) a b f h g e =
      let p = parent S b (omega arith) g in
      by_order p (step b g p) (dec_lt a p.node) (dec_lt p.node a) (λ x y k. disjoint_from fuel x y k)
    where
      -- b is replaced by its parent
      upper : (q : ℕ) → Step b q → Apart T (image m a) (image m q) → Apart T (image m a) (image m b)
      upper q s (inl k) = inl (omega (arith, s.low))
      upper q s (inr k) = inr (omega (arith, s.ends))

      -- a is replaced by its parent
      lower : (q : ℕ) → Step a q → Apart T (image m q) (image m b) → Apart T (image m a) (image m b)
      lower q s (inl k) = inl (omega (arith, s.ends))
      lower q s (inr k) = inr (omega (arith, s.low))

      both : (p : Parent S b) (q : Parent S a) → Step b p.node → Step a q.node → p.node < a → Again fuel → Dec (q.node ≡ p.node)
          → Apart T (image m a) (image m b)
      both p q s t k again (yes r) =
          let has : HasChild S p.node q.index = subst (λ (n : ℕ). HasChild S n q.index) r q.has in
          let is : child_of S p.node q.index ≡ a = ap (λ (n : ℕ). child_of S n q.index) (sym r) ∙ q.child in
          let differ : q.index ≢ p.index = λ d. other (sym is ∙ ap (child_of S p.node) d ∙ p.child) in
          subst (λ (x : ℕ). Apart T (image m x) (image m b)) is
          (subst (λ (y : ℕ). Apart T (image m (child_of S p.node q.index)) (image m y)) p.child
          (l.apart p.node q.index p.index has p.has differ))
        where
          other : a ≡ b → ⊥
          other x = omega arith
      both p q s t k again (no d) =
          let u = above_parent S p.node a k (omega arith) (omega (arith, s.inside)) q in
          lower q.node t (again q.node b (omega (arith, t.less)) (omega (arith, t.less)) g (by_end (dec_lt b (end S q.node)) u.0))
        where
          by_end : Dec (b < end S q.node) → p.node ≤ q.node → end S q.node ≤ b
          by_end (no n) o = omega arith
          by_end (yes y) o = absurd (omega (arith, (above_parent S q.node b (omega (arith, t.less)) g y p).0))

      by_order : (p : Parent S b) → Step b p.node → Dec (a < p.node) → Dec (p.node < a) → Again fuel → Apart T (image m a) (image m b)
      by_order p s (yes k) d again =
          upper p.node s (again a p.node (omega (arith, s.less)) k s.there (by_end (dec_lt p.node (end S a))))
        where
          by_end : Dec (p.node < end S a) → end S a ≤ p.node
          by_end (no n) = omega arith
          by_end (yes y) = absurd (omega (arith, end_within S a p.node (omega arith) (omega arith) y, s.inside))
      by_order p s (no n) (yes k) again =
          let q = parent S a (omega arith) (omega arith) in
          both p q s (step a (omega arith) q) k again (ℕ_discrete q.node p.node)
      by_order p s (no n) (no k) again =
          let r : p.node ≡ a = omega arith in
          absurd (omega (arith, subst (λ (x : ℕ). b < end S x) r s.inside))

  pub disjoint : (a b : ℕ) → a < b → b < size S → end S a ≤ b → Apart T (image m a) (image m b)
  disjoint a b = disjoint_from (suc (a + b)) a b (omega arith)

  order : (a b : ℕ) → a < size S → b < size S → (Above (addr S a) (addr S b) ↔ Above (addr T (image m a)) (addr T (image m b)))
  order a b h g = (λ u. there (above_from S a b h g u) (ℕ_discrete a b), λ u. back (above_from T (image m a) (image m b) (l.within a h) (l.within b g) u))
    where
      there : (a ≤ b) × (b < end S a) → Dec (a ≡ b) → Above (addr T (image m a)) (addr T (image m b))
      there u (yes e) = ([], ap (λ (k : ℕ). addr T (image m k)) (sym e) ∙ sym (append-nil (addr T (image m a))))
      there u (no d) =
          let n = nested a b (omega arith) g u.1 in
          above_to T (image m a) (image m b) (l.within a h) (omega arith) n.1

      back : (image m a ≤ image m b) × (image m b < end T (image m a)) → Above (addr S a) (addr S b)
      back u = by_order (dec_lt b a) (dec_lt b (end S a)) (dec_lt a (end S b))
        where
          not_apart : Apart T (image m a) (image m b) → ⊥
          not_apart (inl k) = omega arith
          not_apart (inr k) = omega (arith, end_after T (image m b))

          turn : Apart T (image m b) (image m a) → Apart T (image m a) (image m b)
          turn (inl k) = inr k
          turn (inr k) = inl k

          by_order : Dec (b < a) → Dec (b < end S a) → Dec (a < end S b) → Above (addr S a) (addr S b)
          by_order (no n) (yes k) d = above_to S a b h (omega arith) k
          by_order (no n) (no k) d = absurd (not_apart (disjoint a b (omega (arith, end_after S a)) g (omega arith)))
          by_order (yes k) d (yes e) = absurd (omega (arith, (nested b a k h e).0))
          by_order (yes k) d (no n) = absurd (not_apart (turn (disjoint b a k h (omega arith))))

  pub local_embeds : Embeds S T m
  local_embeds =
      record {
        long = l.long;
        within = l.within;
        once = rule_1 S T m order;
        root = λ _. l.root;
        leaf = l.leaf;
        order = order;
      }

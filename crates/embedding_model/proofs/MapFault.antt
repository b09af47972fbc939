-- Each test of the map check agrees with its rule, where the bytes are the codes of two trees and every source node is tested. So the check's number
-- is 0 exactly where the list meets the rules.
use mathlib.Core.Path.{◌≡◌, refl, sym, ap, ◌∙◌, subst}
use mathlib.Core.Logic.{◌↔◌, ◌≢◌}
use Prim.Native.Nat.{ℕ, suc, ◌<◌}
use native.Mathlib.Decide.{dec_lt, ℕ_discrete}
use native.Mathlib.Omega.{arith}
use mathlib.Core.List.{List}
use mathlib.Core.Bool.{Bool, true, false, not, ◌||◌, cond}
use lib.ListN.{length, get_or}
use lib.Dec.{ltb, eqb}
use borrow.Author.Tests.{ltb-true, lt-ltb, eqb-true, eqb-false, eq-eqb, ne_eqb, not-true}
use Rattle.base.specs.Refusals.{or_else}
use Rattle.base.specs.Tests.{all, same}
use Rattle.base.proofs.Refusals.{or_else_none}
use Rattle.base.proofs.Tests.{clash, all_below, below_all}
use Rattle.topology.specs.Tree.{Topo, width, size, code}
use Rattle.topology.specs.Address.{Addr, Above, addr, sub, subtree}
use Rattle.topology.specs.Reader.{fault, tree}
use Rattle.topology.specs.Branch.{is_above}
use Rattle.topology.proofs.Decoding.{length_code, byte_width}
use Rattle.topology.proofs.Numbering.{addr_root}
use Rattle.topology.proofs.Ancestry.{size_pos}
use Rattle.topology.proofs.Lookup.{above_code, code_above}
use Rattle.topology.proofs.Reader.{drawn}
use Rattle.topology_reduction.specs.Reduced.{passed_over, reduced, restricted, kept_bytes}
use Rattle.topology_reduction.proofs.Reduced.{code_reduced, size_reduced}
use Rattle.topology_reduction.proofs.Spread.{spread-restricted}
use Rattle.embedding_model.specs.Rules.{image, Passes, Embeds}
use Rattle.embedding_model.specs.Check.{are_nodes, rule1, rule2, rule3, rule4, images_fault, marked, are_marked, list_fault, map_fault}
use Rattle.embedding_model.proofs.Passes.{embeds_passes, passes_reduced}

same_true : (x y : Bool) → same x y ≡ true → x ≡ y
same_true true y e = sym e
same_true false y e = sym (not-true y e)

true_same : (x y : Bool) → (x ≡ true → y ≡ true) → (y ≡ true → x ≡ true) → same x y ≡ true
true_same true y f g = f refl
true_same false true f g = absurd (clash (cc (g refl)))
true_same false false f g = refl

module _ (S T : Topo) (m : List ℕ) where
  pub nodes_from : are_nodes (code T) (size S) m ≡ true → (a : ℕ) → a < size S → image m a < size T
  unfolding are_nodes
  nodes_from e a h =
      omega (arith, ltb-true (image m a) (length (code T)) (all_below (size S) (λ a. ltb (image m a) (length (code T))) e a h), length_code T)

  pub nodes_to : ((a : ℕ) → a < size S → image m a < size T) → are_nodes (code T) (size S) m ≡ true
  unfolding are_nodes
  nodes_to w =
      below_all (size S) (λ a. ltb (image m a) (length (code T))) (λ a h. lt-ltb (image m a) (length (code T)) (omega (arith, w a h, length_code T)))

  pub once_from : rule1 (size S) m ≡ true → (a b : ℕ) → a < size S → b < size S → image m a ≡ image m b → a ≡ b
  unfolding rule1
  once_from e a b h g q = by_order (dec_lt a b) (dec_lt b a)
    where
      differ : (a b : ℕ) → a < size S → b < a → image m b ≡ image m a → ⊥
      differ a b h l q =
          let row = all_below (size S) (λ a. all a (λ b. not (eqb (image m b) (image m a)))) e a h in
          let here = all_below a (λ b. not (eqb (image m b) (image m a))) row b l in
          eqb-false (image m b) (image m a) (not-true (eqb (image m b) (image m a)) here) q

      by_order : Dec (a < b) → Dec (b < a) → a ≡ b
      by_order (yes l) d = absurd (differ b a g l q)
      by_order (no k) (yes l) = absurd (differ a b h l (sym q))
      by_order (no k) (no l) = omega arith

  pub once_to : ((a b : ℕ) → a < size S → b < size S → image m a ≡ image m b → a ≡ b) → rule1 (size S) m ≡ true
  unfolding rule1
  once_to o =
      below_all (size S) (λ a. all a (λ b. not (eqb (image m b) (image m a))))
      (λ a h. below_all a (λ b. not (eqb (image m b) (image m a)))
      (λ b l. ap not (ne_eqb (image m b) (image m a) (λ q. differ a b h l (o b a (omega arith) h q)))))
    where
      differ : (a b : ℕ) → a < size S → b < a → b ≡ a → ⊥
      differ a b h l e = omega arith

  first_byte : get_or (code S) 0 0 ≡ width S
  first_byte = byte_width S 0 (size_pos S) ∙ ap (λ (a : Addr). width (sub S a)) (addr_root S)

  pub root_from : rule2 (code S) m ≡ true → width S ≢ 0 → image m 0 ≡ 0
  unfolding rule2
  root_from e n = by_test (eqb (image m 0) 0) refl (rw (ne_eqb (get_or (code S) 0 0) 0 (λ z. n (sym first_byte ∙ z))) at e)
    where
      by_test : (b : Bool) → eqb (image m 0) 0 ≡ b → b || false ≡ true → image m 0 ≡ 0
      by_test true q e = eqb-true (image m 0) 0 q
      by_test false q e = absurd (clash (cc e))

  pub root_to : (width S ≢ 0 → image m 0 ≡ 0) → rule2 (code S) m ≡ true
  unfolding rule2
  root_to r = by_width (ℕ_discrete (get_or (code S) 0 0) 0)
    where
      by_width : Dec (get_or (code S) 0 0 ≡ 0) → eqb (image m 0) 0 || eqb (get_or (code S) 0 0) 0 ≡ true
      by_width (yes e) = rw (eq-eqb (get_or (code S) 0 0) 0 e) (either (eqb (image m 0) 0))
        where
          either : (b : Bool) → b || true ≡ true
          either true = refl
          either false = refl
      by_width (no n) = rw (eq-eqb (image m 0) 0 (r (λ z. n (first_byte ∙ z))))

  module _ (within : (a : ℕ) → a < size S → image m a < size T) where
    pub leaf_from : rule3 (code S) (code T) (size S) m ≡ true
        → (a : ℕ) → a < size S → width (subtree S a) ≡ 0 → width (subtree T (image m a)) ≡ 0
    unfolding rule3
    leaf_from e a h z =
        by_test (all_below (size S) (λ a. not (eqb (get_or (code S) a 0) 0) || eqb (get_or (code T) (image m a) 0) 0) e a h)
        (eq-eqb (get_or (code S) a 0) 0 (byte_width S a h ∙ z))
      where
        by_test : not (eqb (get_or (code S) a 0) 0) || eqb (get_or (code T) (image m a) 0) 0 ≡ true → eqb (get_or (code S) a 0) 0 ≡ true
            → width (subtree T (image m a)) ≡ 0
        by_test t s = sym (byte_width T (image m a) (within a h)) ∙ eqb-true (get_or (code T) (image m a) 0) 0 (rw s at t)

    pub leaf_to : ((a : ℕ) → a < size S → width (subtree S a) ≡ 0 → width (subtree T (image m a)) ≡ 0)
        → rule3 (code S) (code T) (size S) m ≡ true
    unfolding rule3
    leaf_to l = below_all (size S) (λ a. not (eqb (get_or (code S) a 0) 0) || eqb (get_or (code T) (image m a) 0) 0) (λ a h. by_test a h (eqb (get_or (code S) a 0) 0) refl)
      where
        by_test : (a : ℕ) → a < size S → (x : Bool) → eqb (get_or (code S) a 0) 0 ≡ x
            → not x || eqb (get_or (code T) (image m a) 0) 0 ≡ true
        by_test a h false e = refl
        by_test a h true e =
            eq-eqb (get_or (code T) (image m a) 0) 0
            (byte_width T (image m a) (within a h) ∙ l a h (sym (byte_width S a h) ∙ eqb-true (get_or (code S) a 0) 0 e))

    pub order_from : rule4 (code S) (code T) (size S) m ≡ true → (a b : ℕ) → a < size S → b < size S
        → (Above (addr S a) (addr S b) ↔ Above (addr T (image m a)) (addr T (image m b)))
    unfolding rule4
    order_from e a b h g =
        let row = all_below (size S) (λ a. all (size S) (λ b. same (is_above (code S) a b) (is_above (code T) (image m a) (image m b)))) e a h in
        let here = all_below (size S) (λ b. same (is_above (code S) a b) (is_above (code T) (image m a) (image m b))) row b g in
        let q = same_true (is_above (code S) a b) (is_above (code T) (image m a) (image m b)) here in (
          λ u. code_above T (image m a) (image m b) (within a h) (sym q ∙ above_code S a b h g u),
          λ u. code_above S a b h (q ∙ above_code T (image m a) (image m b) (within a h) (within b g) u),
        )

    pub order_to : ((a b : ℕ) → a < size S → b < size S → (Above (addr S a) (addr S b) ↔ Above (addr T (image m a)) (addr T (image m b))))
        → rule4 (code S) (code T) (size S) m ≡ true
    unfolding rule4
    order_to o =
        below_all (size S) (λ a. all (size S) (λ b. same (is_above (code S) a b) (is_above (code T) (image m a) (image m b))))
        (λ a h. below_all (size S) (λ b. same (is_above (code S) a b) (is_above (code T) (image m a) (image m b)))
        (λ b g. true_same (is_above (code S) a b) (is_above (code T) (image m a) (image m b))
        (λ e. above_code T (image m a) (image m b) (within a h) (within b g) ((o a b h g).0 (code_above S a b h e)))
        (λ e. above_code S a b h g ((o a b h g).1 (code_above T (image m a) (image m b) (within a h) e)))))

pick_none : (b : Bool) (rest k : ℕ) → cond b rest (suc k) ≡ 0 → (b ≡ true) × (rest ≡ 0)
pick_none true rest k e = (refl, e)
pick_none false rest k e = absurd (omega arith)

-- If the number is 0, no test fails.
pub images_none : (s t m : List ℕ) → images_fault s t m ≡ 0
    → (are_nodes t (length s) m ≡ true) × (rule1 (length s) m ≡ true) × (rule2 s m ≡ true) × (rule3 s t (length s) m ≡ true)
    × (rule4 s t (length s) m ≡ true)
unfolding images_fault
images_none s t m e =
    let n = length s in
    let f11 : ℕ = cond (rule4 s t n m) 0 11 in
    let f10 : ℕ = cond (rule3 s t n m) f11 10 in
    let f9 : ℕ = cond (rule2 s m) f10 9 in
    let f8 : ℕ = cond (rule1 n m) f9 8 in
    let b = pick_none (are_nodes t n m) f8 6 e in
    let c = pick_none (rule1 n m) f9 7 b.1 in
    let d = pick_none (rule2 s m) f10 8 c.1 in
    let g = pick_none (rule3 s t n m) f11 9 d.1 in
    let h = pick_none (rule4 s t n m) 0 10 g.1 in
    (b.0, c.0, d.0, g.0, h.0)

pub embeds_from : (S T : Topo) (m : List ℕ) → length m ≡ size S → are_nodes (code T) (size S) m ≡ true → rule1 (size S) m ≡ true
    → rule2 (code S) m ≡ true → rule3 (code S) (code T) (size S) m ≡ true → rule4 (code S) (code T) (size S) m ≡ true → Embeds S T m
embeds_from S T m l n r1 r2 r3 r4 =
    let within = nodes_from S T m n in
    record {
      long = l;
      within = within;
      once = once_from S T m r1;
      root = root_from S T m r2;
      leaf = leaf_from S T m within r3;
      order = order_from S T m within r4;
    }

images_embeds : (S T : Topo) (m : List ℕ) → length m ≡ size S → images_fault (code S) (code T) m ≡ 0 → Embeds S T m
images_embeds S T m l e =
    let q = rw (length_code S) at (images_none (code S) (code T) m e) in
    embeds_from S T m l q.0 q.1 q.2 q.3 q.4

embeds_images : (S T : Topo) (m : List ℕ) → Embeds S T m → images_fault (code S) (code T) m ≡ 0
unfolding images_fault
embeds_images S T m p =
    rw (
      length_code S,
      nodes_to S T m p.within,
      once_to S T m p.once,
      root_to S T m p.root,
      leaf_to S T m p.within p.leaf,
      order_to S T m p.within p.order,
    )

-- every passed node has its mark
module _ (S : Topo) (m : List ℕ) where
  marked_from : are_marked (code S) m ≡ true → (a : ℕ) → a < length (code S) → get_or (code S) a 0 ≡ 1 → image m a ≡ passed_over
  unfolding are_marked marked
  marked_from e a h q =
      eqb-true (image m a) passed_over
      (rw (eq-eqb (get_or (code S) a 0) 1 q) at (all_below (length (code S)) (λ a. marked (get_or (code S) a 0) (image m a)) e a h))

  marked_to_lem : ((a : ℕ) → a < size S → width (subtree S a) ≡ 1 → image m a ≡ passed_over) → are_marked (code S) m ≡ true
  unfolding are_marked marked
  marked_to_lem p =
      below_all (length (code S)) (λ a. marked (get_or (code S) a 0) (image m a)) (λ a h. by_test a h (eqb (get_or (code S) a 0) 1) refl)
    where
      by_test : (a : ℕ) → a < length (code S) → (x : Bool) → eqb (get_or (code S) a 0) 1 ≡ x → not x || eqb (image m a) passed_over ≡ true
      by_test a h false e = refl
      by_test a h true e =
          let there : a < size S = omega (arith, h, length_code S) in
          eq-eqb (image m a) passed_over (p a there (sym (byte_width S a there) ∙ eqb-true (get_or (code S) a 0) 1 e))

-- 26 comes before 7 to 11: it is the number wherever a passed node lacks its mark, whatever the images of the other nodes are.
pub unmarked_26 : (source target m : List ℕ) → length m ≡ length source → are_marked source m ≡ false → list_fault source target m ≡ 26
unfolding list_fault
unmarked_26 source target m long e = rw (eq-eqb (length m) (length source) long, e)

list_passes : (S T : Topo) (m : List ℕ) → list_fault (code S) (code T) m ≡ 0 → Passes S T m
unfolding list_fault
list_passes S T m e =
    let f7 = images_fault (kept_bytes (code S)) (code T) (restricted (code S) m) in
    let a = pick_none (eqb (length m) (length (code S))) (cond (are_marked (code S) m) f7 26) 5 e in
    let b = pick_none (are_marked (code S) m) f7 25 a.1 in
    let g = spread-restricted (code S) m (eqb-true (length m) (length (code S)) a.0) (marked_from S m b.0) in
    let long = g.1 ∙ sym (size_reduced S) in
    subst (Passes S T) g.0
    (embeds_passes S T (restricted (code S) m) long (images_embeds (reduced S) T (restricted (code S) m) long (rw (code_reduced S) b.1)))

pub passes_list : (S T : Topo) (m : List ℕ) → Passes S T m → list_fault (code S) (code T) m ≡ 0
unfolding list_fault
passes_list S T m p =
    rw (
      eq-eqb (length m) (length (code S)) (p.long ∙ sym (length_code S)),
      marked_to_lem S m p.passed,
      ← code_reduced S,
      embeds_images (reduced S) T (restricted (code S) m) (passes_reduced S T m p).1,
    )

-- The check's number is 0 exactly where both trees have no fault and the list meets the rules.
pub map_fault_none : (source target m : List ℕ)
    → (map_fault source target m ≡ 0) ↔ ((fault 32 source ≡ 0) × (fault 64 target ≡ 0) × Passes (tree source) (tree target) m)
unfolding map_fault
map_fault_none source target m = (there, back)
  where
    there : or_else (fault 32 source) (or_else (fault 64 target) (list_fault source target m)) ≡ 0
        → (fault 32 source ≡ 0) × (fault 64 target ≡ 0) × Passes (tree source) (tree target) m
    there e =
        let a = or_else_none (fault 32 source) (or_else (fault 64 target) (list_fault source target m)) e in
        let b = or_else_none (fault 64 target) (list_fault source target m) a.1 in
        let l : list_fault (code (tree source)) (code (tree target)) m ≡ 0 =
        rw (drawn 32 source a.0, drawn 64 target b.0) b.1 in
        (a.0, b.0, list_passes (tree source) (tree target) m l)

    back : (fault 32 source ≡ 0) × (fault 64 target ≡ 0) × Passes (tree source) (tree target) m
        → or_else (fault 32 source) (or_else (fault 64 target) (list_fault source target m)) ≡ 0
    back (e, f, p) =
        let l = passes_list (tree source) (tree target) m p in
        rw (e, f) (rw (drawn 32 source e, drawn 64 target f) at l)

-- The test of the backtracking search: every prefix of a passing list passes, the numbers of a passing list are target nodes, and a list for all
-- source nodes passes exactly where it is a map.
use mathlib.Core.Path.{◌≡◌, refl, ap}
use Prim.Native.Nat.{ℕ, ◌≤◌, ◌<◌}
use native.Mathlib.Omega.{arith}
use mathlib.Core.List.{List, [], ◌∷◌, ◌++◌}
use mathlib.Core.Bool.{true, not, ◌&&◌, ◌||◌}
use lib.ListN.{length, get_or, length-append, get_or-append}
use lib.Seq.{get_or-append_seam}
use lib.Dec.{ltb, eqb}
use borrow.Author.Tests.{ltb-true}
use Rattle.base.specs.Tests.{all, same}
use Rattle.std.proofs.lemmas.Bool.{and_parts}
use Rattle.base.proofs.Tests.{all_below, below_all, all_cong, all_fewer}
use Rattle.topology.specs.Tree.{Topo, size, code}
use Rattle.topology.specs.Branch.{is_above}
use Rattle.embedding_model.specs.Rules.{image, Embeds}
use Rattle.embedding_model.specs.Check.{are_nodes, rule1, rule2, rule3, rule4}
use Rattle.embedding_model.specs.Least.{meets_rules}
use Rattle.embedding_model.proofs.MapFault.{embeds_from, nodes_to, once_to, root_to, leaf_to, order_to}

pub record RulesMet (s t m : List ℕ) : Type 0 where
  pub nodes : are_nodes t (length m) m ≡ true
  pub r1 : rule1 (length m) m ≡ true
  pub r2 : rule2 s m ≡ true
  pub r3 : rule3 s t (length m) m ≡ true
  pub r4 : rule4 s t (length m) m ≡ true

pub meets_tests : (s t m : List ℕ) → meets_rules s t m ≡ true → RulesMet s t m
unfolding meets_rules
meets_tests s t m e =
    let n = length m in
    let x4 = rule4 s t n m in
    let x3 = rule3 s t n m && x4 in
    let x2 = rule2 s m && x3 in
    let x1 = rule1 n m && x2 in
    let e1 = (and_parts (are_nodes t n m) x1 e).1 in
    let e2 = (and_parts (rule1 n m) x2 e1).1 in
    let e3 = (and_parts (rule2 s m) x3 e2).1 in
    record {
      nodes = (and_parts (are_nodes t n m) x1 e).0;
      r1 = (and_parts (rule1 n m) x2 e1).0;
      r2 = (and_parts (rule2 s m) x3 e2).0;
      r3 = (and_parts (rule3 s t n m) x4 e3).0;
      r4 = (and_parts (rule3 s t n m) x4 e3).1;
    }

pub tests_meet : (s t m : List ℕ) → RulesMet s t m → meets_rules s t m ≡ true
unfolding meets_rules
tests_meet s t m r = rw (r.nodes, r.r1, r.r2, r.r3, r.r4)

module _ (s t f r : List ℕ) where
  shorter : length f ≤ length (f ++ r)
  shorter = omega (arith, length-append f r)

  here : (i : ℕ) → i < length f → image (f ++ r) i ≡ image f i
  here i h = get_or-append f r 0 i h

  front_nodes : are_nodes t (length (f ++ r)) (f ++ r) ≡ true → are_nodes t (length f) f ≡ true
  unfolding are_nodes
  front_nodes = all_fewer (length (f ++ r)) (length f) (λ a. ltb (image (f ++ r) a) (length t)) (λ a. ltb (image f a) (length t)) shorter
      (λ a h. ap (λ (x : ℕ). ltb x (length t)) (here a h))

  front-1 : rule1 (length (f ++ r)) (f ++ r) ≡ true → rule1 (length f) f ≡ true
  unfolding rule1
  front-1 = all_fewer (length (f ++ r)) (length f) (λ a. all a (λ b. not (eqb (image (f ++ r) b) (image (f ++ r) a))))
      (λ a. all a (λ b. not (eqb (image f b) (image f a)))) shorter
      (λ a h. all_cong a (λ b. not (eqb (image (f ++ r) b) (image (f ++ r) a))) (λ b. not (eqb (image f b) (image f a)))
      (λ b l. rw (here a h, here b (omega arith))))

  front_3 : rule3 s t (length (f ++ r)) (f ++ r) ≡ true → rule3 s t (length f) f ≡ true
  unfolding rule3
  front_3 = all_fewer (length (f ++ r)) (length f) (λ a. not (eqb (get_or s a 0) 0) || eqb (get_or t (image (f ++ r) a) 0) 0)
      (λ a. not (eqb (get_or s a 0) 0) || eqb (get_or t (image f a) 0) 0) shorter
      (λ a h. ap (λ (x : ℕ). not (eqb (get_or s a 0) 0) || eqb (get_or t x 0) 0) (here a h))

  front_4 : rule4 s t (length (f ++ r)) (f ++ r) ≡ true → rule4 s t (length f) f ≡ true
  unfolding rule4
  front_4 e =
      below_all (length f) (λ a. all (length f) (λ b. same (is_above s a b) (is_above t (image f a) (image f b))))
      (λ a h. all_fewer (length (f ++ r)) (length f) (λ b. same (is_above s a b) (is_above t (image (f ++ r) a) (image (f ++ r) b)))
      (λ b. same (is_above s a b) (is_above t (image f a) (image f b))) shorter
      (λ b g. rw (here a h, here b g))
      (all_below (length (f ++ r)) (λ a. all (length (f ++ r)) (λ b. same (is_above s a b) (is_above t (image (f ++ r) a) (image (f ++ r) b)))) e a (omega (arith, shorter))))

front_2 : (s f r : List ℕ) → rule2 s (f ++ r) ≡ true → rule2 s f ≡ true
unfolding rule2
front_2 s [] r e = refl
front_2 s (x ∷ f) r e = e

pub front_meets : (s t f r : List ℕ) → meets_rules s t (f ++ r) ≡ true → meets_rules s t f ≡ true
front_meets s t f r e =
    let w = meets_tests s t (f ++ r) e in
    tests_meet s t f (record {
      nodes = front_nodes s t f r w.nodes;
      r1 = front-1 s t f r w.r1;
      r2 = front_2 s f r w.r2;
      r3 = front_3 s t f r w.r3;
      r4 = front_4 s t f r w.r4;
    })

pub next_node : (s t f : List ℕ) (x : ℕ) → meets_rules s t (f ++ (x ∷ [])) ≡ true → x < length t
unfolding are_nodes
next_node s t f x e =
    let l : length f < length (f ++ (x ∷ [])) = omega (arith, length-append f (x ∷ [])) in
    let h = all_below (length (f ++ (x ∷ []))) (λ a. ltb (image (f ++ (x ∷ [])) a) (length t)) (meets_tests s t (f ++ (x ∷ [])) e).nodes (length f) l in
    omega (arith, ltb-true (image (f ++ (x ∷ [])) (length f)) (length t) h, get_or-append_seam f x [] 0)

module _ (S T : Topo) (m : List ℕ) where
  pub meets_embeds : length m ≡ size S → meets_rules (code S) (code T) m ≡ true → Embeds S T m
  meets_embeds l e =
      let w = meets_tests (code S) (code T) m e in
      embeds_from S T m l (rw l at w.nodes) (rw l at w.r1) w.r2 (rw l at w.r3) (rw l at w.r4)

  pub embeds_meets : Embeds S T m → meets_rules (code S) (code T) m ≡ true
  embeds_meets p =
      let l = p.long in
      tests_meet (code S) (code T) m (record {
        nodes = rw l (nodes_to S T m p.within);
        r1 = rw l (once_to S T m p.once);
        r2 = root_to S T m p.root;
        r3 = rw l (leaf_to S T m p.within p.leaf);
        r4 = rw l (order_to S T m p.within p.order);
      })

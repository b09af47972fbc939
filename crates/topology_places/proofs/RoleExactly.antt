-- What a node's role means, where the bytes are the code of a tree. A source node is `Passed` exactly where it has one child (`passed_exactly`). A
-- chip node is `Image` exactly where it is one of the images, and `Between` exactly where it is none and lies above one (`role_exactly`).
use mathlib.Core.Path.{◌≡◌, refl, sym, ap, ◌∙◌, subst}
use mathlib.Core.Logic.{◌≢◌, ◌↔◌}
use Prim.Native.Nat.{ℕ, zero, suc, ◌<◌}
use native.Mathlib.Omega.{arith}
use mathlib.Core.Bool.{Bool, true, false, ◌&&◌, cond}
use mathlib.Core.List.{List, [], append-nil}
use lib.ListN.{length, get_or}
use lib.Dec.{leb, ltb, eqb}
use borrow.Author.Tests.{ltb-true, eq-eqb, eqb-true, eqb-false}
use Rattle.base.proofs.Tests.{clash}
use Rattle.topology.specs.Tree.{Topo, width, size, code}
use Rattle.topology.specs.Address.{Above, addr, subtree}
use Rattle.topology.specs.Reader.{fault, tree}
use Rattle.topology.specs.Branch.{branch_end, is_above}
use Rattle.topology.proofs.Ancestry.{subtree_end}
use Rattle.topology.proofs.Lookup.{end_code, above_code, code_above, valid_size, valid_width}
use Rattle.topology.proofs.Reader.{drawn}
use Rattle.topology_places.specs.Places.{source_role, images_at, images_under, role_of}
use Rattle.topology_places.specs.declared.Role.{Role}
use Rattle.topology_places.specs.declared.Role.TheVariants.{Plain, Passed, Image, Between, Unused}
use Rattle.topology_places.proofs.Passes.{counted_some, counted_none}
use Rattle.topology_places.proofs.RoleOf.{role_passed, role_plain, role_image, role_between, role_unused}

-- node k is one of the images
abbrev pub IsImage : List ℕ → ℕ → Type 0
IsImage images k = (a : ℕ) × (a < length images) × (get_or images a 0 ≡ k)

-- it is one of them or lies above one. A number in the list that is no node's number, such as the 255 of a passed node, is no image.
abbrev pub OverImage : Topo → List ℕ → ℕ → Type 0
OverImage t images k = (a : ℕ) × (a < length images) × (get_or images a 0 < size t) × Above (addr t k) (addr t (get_or images a 0))

-- what each role of a chip node means
abbrev pub Says : Topo → List ℕ → ℕ → Role → Type 0
Says t images k Plain = length images ≡ 0
Says t images k Passed = ⊥
Says t images k Image = IsImage images k
Says t images k Between = (IsImage images k → ⊥) × OverImage t images k
Says t images k Unused = (length images ≢ 0) × (OverImage t images k → ⊥)

not_some : (n : ℕ) → (n ≢ 0 → ⊥) → n ≡ 0
not_some zero f = refl
not_some (suc n) f = absurd (f (λ z. omega arith))

-- a number in a node's branch is a node's number
above_node : (t : Topo) (a b : ℕ) → a < size t → is_above (code t) a b ≡ true → b < size t
unfolding is_above
above_node t a b h e = by_tests (leb a b) (ltb b (branch_end (code t) a)) refl e
  where
    by_tests : (x y : Bool) → ltb b (branch_end (code t) a) ≡ y → x && y ≡ true → b < size t
    by_tests true true q e = omega (arith, ltb-true b (branch_end (code t) a) q, end_code t a h, subtree_end t a h)
    by_tests true false q e = absurd (clash (cc))
    by_tests false y q e = absurd (clash (cc))

-- A source node is a passed node exactly where it has one child.
pub passed_exactly : (limit : ℕ) (bytes : List ℕ) → fault limit bytes ≡ 0 → (k : ℕ) → k < length bytes
    → (source_role (get_or bytes k 0) ≡ Passed) ↔ (width (subtree (tree bytes) k) ≡ 1)
unfolding source_role
passed_exactly limit bytes e k h =
    let w = valid_width limit bytes e k h in
    (λ q. w ∙ one (get_or bytes k 0) (eqb (get_or bytes k 0) 1) refl q, λ q. sym (role_passed (get_or bytes k 0) (sym w ∙ q)))
  where
    one : (b : ℕ) (t : Bool) → eqb b 1 ≡ t → cond t Passed Plain ≡ Passed → b ≡ 1
    one b true p q = eqb-true b 1 p
    one b false p q = absurd (clash (cc))

module _ (limit : ℕ) (bytes : List ℕ) (e : fault limit bytes ≡ 0) (images : List ℕ) (k : ℕ) (h : k < length bytes) where
  in_tree : k < size (tree bytes)
  in_tree = omega (arith, valid_size limit bytes e)

  -- the count is not 0 exactly where there is such an image
  is_image : images_at images k ≢ 0 → IsImage images k
  unfolding images_at
  is_image n =
      let s = counted_some (λ a. eqb (get_or images a 0) k) (length images) n in
      (s.0, s.1, eqb-true (get_or images s.0 0) k s.2)

  no_image : images_at images k ≡ 0 → IsImage images k → ⊥
  unfolding images_at
  no_image z (a, l, q) = counted_none (λ a. eqb (get_or images a 0) k) (length images) a z l (eq-eqb (get_or images a 0) k q)

  over_image : images_under bytes images k ≢ 0 → OverImage (tree bytes) images k
  unfolding images_under
  over_image n =
      let s = counted_some (λ a. is_above bytes k (get_or images a 0)) (length images) n in
      let there : is_above (code (tree bytes)) k (get_or images s.0 0) ≡ true = rw (drawn limit bytes e) s.2 in
      (s.0, s.1, above_node (tree bytes) k (get_or images s.0 0) in_tree there, code_above (tree bytes) k (get_or images s.0 0) in_tree there)

  under_none : images_under bytes images k ≡ 0 → OverImage (tree bytes) images k → ⊥
  unfolding images_under
  under_none z (a, l, node, u) =
      let there = above_code (tree bytes) k (get_or images a 0) in_tree node u in
      counted_none (λ a. is_above bytes k (get_or images a 0)) (length images) a z l (rw (drawn limit bytes e) at there)

  -- a node that is an image is one or lies above one
  image_over : IsImage images k → OverImage (tree bytes) images k
  image_over (a, l, q) = (a, l, omega (arith, q, in_tree), ([], ap (addr (tree bytes)) q ∙ sym (append-nil (addr (tree bytes) k))))

  -- what the node's role means holds
  says : Says (tree bytes) images k (role_of bytes images k)
  unfolding role_of
  says = by_tests (eqb (length images) 0) (eqb (images_at images k) 0) (eqb (images_under bytes images k) 0) refl refl refl
    where
      by_tests : (x y z : Bool) → eqb (length images) 0 ≡ x → eqb (images_at images k) 0 ≡ y → eqb (images_under bytes images k) 0 ≡ z
          → Says (tree bytes) images k (cond x Plain (cond y (cond z Unused Between) Image))
      by_tests true y z p q r = eqb-true (length images) 0 p
      by_tests false false z p q r = is_image (eqb-false (images_at images k) 0 q)
      by_tests false true true p q r = (eqb-false (length images) 0 p, under_none (eqb-true (images_under bytes images k) 0 r))
      by_tests false true false p q r =
          (no_image (eqb-true (images_at images k) 0 q), over_image (eqb-false (images_under bytes images k) 0 r))

  -- Node k of a chip has a role exactly where what the role means holds.
  pub role_exactly : (r : Role) → (role_of bytes images k ≡ r) ↔ Says (tree bytes) images k r
  role_exactly r = (λ q. subst (Says (tree bytes) images k) q says, back r)
    where
      back : (r : Role) → Says (tree bytes) images k r → role_of bytes images k ≡ r
      back Plain z = sym (role_plain bytes images k z)
      back Passed f = absurd f
      back Image (a, l, q) = sym (role_image bytes images k (λ z. omega arith) (λ z. no_image z (a, l, q)))
      back Between (f, over) =
          sym (role_between bytes images k (λ z. omega (arith, over.1)) (not_some (images_at images k) (λ n. f (is_image n)))
          (λ z. under_none z over))
      back Unused (some, f) =
          sym (role_unused bytes images k some (not_some (images_at images k) (λ n. f (image_over (is_image n))))
          (not_some (images_under bytes images k) (λ n. f (over_image n))))

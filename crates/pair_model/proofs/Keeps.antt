-- A map that meets the rules has the properties that the laws of the simulation require (`keeps`). A kept node owns its image, since its children's
-- images lie strictly below (`kept_owns`). A passed node owns nothing, since its child has the same image (`passed_none`).
use mathlib.Core.Path.{◌≡◌, sym, ap, ◌∙◌, subst, subst₂}
use mathlib.Core.Logic.{◌↔◌, ◌≢◌}
use Prim.Native.Nat.{ℕ, ◌<◌}
use native.Mathlib.Omega.{arith}
use mathlib.Core.List.{List, [], ◌∷◌, ◌++◌, append_assoc, append-nil}
use Rattle.base.proofs.Prefix.{apart-prefix}
use Rattle.topology.specs.Tree.{Topo, width, size}
use Rattle.topology.specs.Address.{Addr, In, sub, Above, addr, num}
use Rattle.topology.proofs.Numbering.{addr_in, num_lt, addr-num}
use Rattle.topology.proofs.Ancestry.{in_join}
use Rattle.topology.proofs.AncestryOrder.{above-strict}
use Rattle.topology_reduction.specs.Kept.{descent, kept_at}
use Rattle.topology_reduction.proofs.Kept.{kept_in, kept-is, kept_self, kept_down, kept-child}
use Rattle.embedding_model.specs.Rules.{image, Passes}
use Rattle.pair_model.specs.Embedding.{image_at}
use Rattle.pair_model.specs.Mirror.{Owns}
use Rattle.pair_model.proofs.Images.{Keeps}

module _ (S T : Topo) (m : List ℕ) (E : Passes S T m) where
  kept-lt : (b : Addr) → In S b → num S (kept_at S b) < size S
  kept-lt b i = num_lt S (kept_at S b) (kept_in S b i)

  order : (a b : Addr) → In S a → In S b → Above (kept_at S a) (kept_at S b) ↔ Above (image_at S T m a) (image_at S T m b)
  order a b i j =
      subst₂ (λ (x y : Addr). Above x y ↔ Above (image_at S T m a) (image_at S T m b))
      (addr-num S (kept_at S a) (kept_in S a i)) (addr-num S (kept_at S b) (kept_in S b j))
      (E.order (num S (kept_at S a)) (num S (kept_at S b)) (kept-lt a i) (kept-lt b j) (kept-is S a i) (kept-is S b j))

  pub keeps : Keeps S T (image_at S T m)
  keeps =
      record {
        there = λ b i. addr_in T (image m (num S (kept_at S b))) (E.within (num S (kept_at S b)) (kept-lt b i) (kept-is S b i));
        leaf = leaf;
        down = λ a b i j u. (order a b i j).0 (kept_down S a b j u);
        apart = λ k x y d e n i j u. apart k x y d e n ((order (k ++ (x ∷ d)) (k ++ (y ∷ e)) i j).1 u);
      }
    where
      leaf : (b : Addr) → In S b → width (sub S b) ≡ 0 → width (sub T (image_at S T m b)) ≡ 0
      leaf b i e =
          let self : b ≡ kept_at S b = sym (kept_self S b (λ q. omega arith)) in
          E.leaf (num S (kept_at S b)) (kept-lt b i)
          (subst (λ (z : Addr). width (sub S z) ≡ 0) (self ∙ sym (addr-num S (kept_at S b) (kept_in S b i))) e)

      apart : (k : Addr) (x y : ℕ) (d e : Addr) → (x ≡ y → ⊥) → Above (kept_at S (k ++ (x ∷ d))) (kept_at S (k ++ (y ∷ e))) → ⊥
      apart k x y d e n (f, q) =
          let dx = descent (sub S (k ++ (x ∷ d))) in
          let dy = descent (sub S (k ++ (y ∷ e))) in
          n (sym (apart-prefix k y x (e ++ dy) (d ++ dx) f (sym (append_assoc k (y ∷ e) dy) ∙ q ∙ ap (λ (z : Addr). z ++ f) (append_assoc k (x ∷ d) dx))))

  pub kept_owns : (b : Addr) → In S b → width (sub S b) ≢ 1 → Owns S (image_at S T m) b (image_at S T m b)
  kept_owns b i k =
      record { covers = ([], sym (append-nil (image_at S T m b))); lowest = λ x h u. too_low x ((order (b ++ (x ∷ [])) b h i).1 u) }
    where
      too_low : (x : ℕ) → Above (kept_at S (b ++ (x ∷ []))) (kept_at S b) → ⊥
      too_low x (f, e) =
          let d = descent (sub S (b ++ (x ∷ []))) in
          above-strict b x d (f, sym (kept_self S b k) ∙ e ∙ ap (λ (z : Addr). z ++ f) (append_assoc b (x ∷ []) d))

  pub passed_none : (b a : Addr) → In S b → width (sub S b) ≡ 1 → Owns S (image_at S T m) b a → ⊥
  passed_none b a i w o =
      let same : image_at S T m b ≡ image_at S T m (b ++ (1 ∷ [])) = ap (λ (z : Addr). addr T (image m (num S z))) (kept-child S b w) in
      o.lowest 1 (in_join S b (1 ∷ []) i (omega arith, omega (arith, w), tt)) (subst (λ (g : Addr). Above g a) same o.covers)

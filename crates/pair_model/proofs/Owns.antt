-- Every target node that is the image of the source's root or lies below it has an owner. It is found from the root down: if the image of some child
-- is the target node or lies above it, the search continues at that child. It ends because the height of the source is finite.
use mathlib.Core.Path.{◌≡◌, refl, sym, ◌∙◌, subst}
use mathlib.Core.Logic.{◌⊎◌, inl, inr}
use Prim.Native.Nat.{ℕ, zero, suc, ◌+◌, ◌≤◌, ◌<◌}
use native.Mathlib.Decide.{ℕ_discrete}
use native.Mathlib.Omega.{arith}
use mathlib.Core.List.{[], ◌∷◌, ◌++◌, append-nil, append_assoc}
use lib.ListN.{length, length-append}
use Rattle.base.proofs.Prefix.{Meet, below, over, apart, meet}
use Rattle.topology.specs.Tree.{Topo, width, height}
use Rattle.topology.specs.Address.{Addr, In, sub, Above}
use Rattle.topology.proofs.Ancestry.{in_front, in_below, in_join, in_height}
use Rattle.topology.proofs.AncestryOrder.{above_trans, above_either, above_dec}
use Rattle.pair_model.specs.Mirror.{Owns}
use Rattle.pair_model.proofs.Images.{Keeps}

module _ {S T : Topo} {F : Addr → Addr} (K : Keeps S T F) where
  -- if a node owns its image, the image of each child lies strictly below it
  pub lower : (b : Addr) (i : ℕ) → In S (b ++ (i ∷ [])) → Owns S F b (F b) → (j : ℕ) × (g : Addr) × (F (b ++ (i ∷ [])) ≡ F b ++ (j ∷ g))
  lower b i h o = by_rest (K.down b (b ++ (i ∷ [])) (in_front S b (i ∷ []) h) h (i ∷ [], refl))
    where
      by_rest : Above (F b) (F (b ++ (i ∷ []))) → (j : ℕ) × (g : Addr) × (F (b ++ (i ∷ [])) ≡ F b ++ (j ∷ g))
      by_rest ([], e) = absurd (o.lowest i h ([], sym (append-nil (F (b ++ (i ∷ []))) ∙ e ∙ append-nil (F b))))
      by_rest (j ∷ g, e) = (j, g, e)

  -- the owner is the lowest: if a source node's image is a or lies above it, that source node is a's owner or lies above the owner
  pub owner_low : (b c a : Addr) → In S b → In S c → Owns S F b a → Above (F c) a → Above c b
  owner_low b c a i j o u = by_meet (meet b c)
    where
      parted : (k : Addr) (x y : ℕ) (d e : Addr) → (x ≡ y → ⊥) → b ≡ k ++ (x ∷ d) → c ≡ k ++ (y ∷ e) → Above (F b) (F c) ⊎ Above (F c) (F b) → ⊥
      parted k x y d e n g h (inl v) = K.apart k x y d e n (subst (In S) g i) (subst (In S) h j) (rw h at (rw g at v))
      parted k x y d e n g h (inr v) = K.apart k y x e d (λ q. n (sym q)) (subst (In S) h j) (subst (In S) g i) (rw g at (rw h at v))

      by_meet : Meet b c → Above c b
      by_meet (below d e) = (d, e)
      by_meet (over x d e) =
          let way : c ≡ (b ++ (x ∷ [])) ++ d = e ∙ sym (append_assoc b (x ∷ []) d) in
          let mid = in_front S (b ++ (x ∷ [])) d (subst (In S) way j) in
          absurd (o.lowest x mid (above_trans (F (b ++ (x ∷ []))) (F c) a (K.down (b ++ (x ∷ [])) c mid j (d, way)) u))
      by_meet (apart k x y d e n g h) = absurd (parted k x y d e n g h (above_either (F b) (F c) a o.covers u))

  pub record Owner (a : Addr) : Type 0 where
    pub node : Addr
    pub there : In S node
    pub owns : Owns S F node a

  -- among the first k children of b one whose image is a or lies above it, or none
  find : (a b : Addr) (k : ℕ)
      → ((i : ℕ) × (0 < i) × (i ≤ k) × Above (F (b ++ (i ∷ []))) a) ⊎ ((i : ℕ) → 0 < i → i ≤ k → Above (F (b ++ (i ∷ []))) a → ⊥)
  find a b zero = inr (λ i l h u. omega arith)
  find a b (suc k) = by_last (above_dec (F (b ++ (suc k ∷ []))) a) (find a b k)
    where
      Found : ℕ → Type 0
      Found n = (i : ℕ) × (0 < i) × (i ≤ n) × Above (F (b ++ (i ∷ []))) a

      Missing : ℕ → Type 0
      Missing n = (i : ℕ) → 0 < i → i ≤ n → Above (F (b ++ (i ∷ []))) a → ⊥

      by_last : Dec (Above (F (b ++ (suc k ∷ []))) a) → Found k ⊎ Missing k → Found (suc k) ⊎ Missing (suc k)
      by_last (yes u) r = inl (suc k, omega arith, omega arith, u)
      by_last (no n) (inl (i, p, l, u)) = inl (i, p, omega arith, u)
      by_last (no n) (inr m) = inr (λ i p l u. last_or_before i p u (ℕ_discrete i (suc k)) l)
        where
          last_or_before : (i : ℕ) → 0 < i → Above (F (b ++ (i ∷ []))) a → Dec (i ≡ suc k) → i ≤ suc k → ⊥
          last_or_before i p u (yes e) l = n (subst (λ (x : ℕ). Above (F (b ++ (x ∷ []))) a) e u)
          last_or_before i p u (no e) l = m i p (omega arith) u

  search_from : (fuel : ℕ) (a b : Addr) → In S b → Above (F b) a → height S < length b + fuel → Owner a
  search_from zero a b i u h = absurd (omega (arith, in_height S b i))
  search_from (suc fuel) a b i u h = by_child (find a b (width (sub S b))) (λ c. search_from fuel a c)
    where
      by_child : ((i : ℕ) × (0 < i) × (i ≤ width (sub S b)) × Above (F (b ++ (i ∷ []))) a)
          ⊎ ((i : ℕ) → 0 < i → i ≤ width (sub S b) → Above (F (b ++ (i ∷ []))) a → ⊥)
          → ((c : Addr) → In S c → Above (F c) a → height S < length c + fuel → Owner a) → Owner a
      by_child (inl (x, p, l, v)) more =
          more (b ++ (x ∷ [])) (in_join S b (x ∷ []) i (p, l, tt)) v (omega (arith, length-append b (x ∷ [])))
      by_child (inr n) more =
          let none : (x : ℕ) → In S (b ++ (x ∷ [])) → Above (F (b ++ (x ∷ []))) a → ⊥ =
          λ x j v. let r = in_below S b (x ∷ []) j in n x r.0 r.1 v in
          record { node = b; there = i; owns = record { covers = u; lowest = none } }

  pub owner : (a : Addr) → Above (F []) a → Owner a
  owner a u = search_from (suc (height S)) a [] tt u (omega arith)

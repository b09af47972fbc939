-- By address: a drawing without passed nodes has an embedding into the complete tree of the depth that it needs (`fits`), and a drawing has none into
-- a complete tree of less depth (`bound`).
--
-- For the first, the children's branches are placed side by side (proofs/Placement), each in a complete tree of the depth that the child needs. For
-- the second, the children's images are unrelated nodes, and the depth left below each is at least what that child needs. So Kraft's inequality
-- bounds the sum from which the needed depth is computed.
use mathlib.Core.Path.{◌≡◌, refl, sym, ap, ap₂, ◌∙◌, subst}
use mathlib.Core.Logic.{◌≢◌, ◌⊎◌, inl, inr}
use Prim.Native.Nat.{ℕ, zero, suc, ◌-◌, ◌^◌, ◌≤◌, ◌<◌}
use native.Mathlib.Nat.{not-suc-le-zero, le_of_suc-le-suc}
use native.Mathlib.Decide.{ℕ_discrete}
use native.Mathlib.Omega.{arith}
use mathlib.Core.List.{[], ◌∷◌, ◌++◌, append_assoc, append_cancel_left}
use mathlib.Core.Bool.{true}
use lib.ListN.{length, get_or, drop, length-append}
use lib.Seq.{drop-length, drop-append_seam}
use Rattle.base.specs.Sum.{sum}
use Rattle.topology.specs.Tree.{Topo, Forest, node, fnil, fcons, count, kids, width}
use Rattle.topology.specs.Address.{Addr, nth, In, sub, Above}
use Rattle.topology.proofs.Ancestry.{in_below, in_join, sub-append}
use Rattle.topology.proofs.AncestryOrder.{above_trans, above_either}
use Rattle.regular_model.specs.Regular.{complete}
use Rattle.regular_model.specs.InnerNeed.{enough, powers, need, needs}
use Rattle.regular_model.proofs.Enough.{enough-holds, enough-least}
use Rattle.regular_model.proofs.Complete.{sub-complete}
use Rattle.regular_model.proofs.Room.{room_all}
use Rattle.regular_model.proofs.Kraft.{Apart, kraft}
use Rattle.regular_model.proofs.Placement.{way_to, slot, placed_in, placed-length, placed-apart, placed_lower}

length_needs : (d : ℕ) (ts : Forest) → length (needs d ts) ≡ count ts
length_needs d fnil = refl
length_needs d (fcons t ts) = ap suc (length_needs d ts)

needs_nth : (d : ℕ) (ts : Forest) (i : ℕ) → i < count ts → get_or (needs d ts) i 0 ≡ need d (nth ts i)
needs_nth d fnil i l = absurd (not-suc-le-zero l)
needs_nth d (fcons t ts) zero l = refl
needs_nth d (fcons t ts) (suc i) l = needs_nth d ts i (le_of_suc-le-suc l)

-- an embedding by address, root to root (Definition 5.2 of document 001)
pub record Fits (R T : Topo) (F : Addr → Addr) : Type 0 where
  pub root : F [] ≡ []
  pub there : (a : Addr) → In R a → In T (F a)
  pub leaf : (a : Addr) → In R a → width (sub R a) ≡ 0 → width (sub T (F a)) ≡ 0
  pub down : (a b : Addr) → In R a → In R b → Above a b → Above (F a) (F b)
  pub up : (a b : Addr) → In R a → In R b → Above (F a) (F b) → Above a b

-- ---- it fits

-- No node has one child, so there is no passed node.
abbrev mutual
  pub Forked : Topo → Type 0
  Forked (node ts) = (count ts ≢ 1) × AllForked ts

  pub AllForked : Forest → Type 0
  AllForked fnil = Unit
  AllForked (fcons t ts) = Forked t × AllForked ts

forked-nth : (ts : Forest) → AllForked ts → (i : ℕ) → i < count ts → Forked (nth ts i)
forked-nth fnil f i l = absurd (not-suc-le-zero l)
forked-nth (fcons t ts) f zero l = f.0
forked-nth (fcons t ts) f (suc i) l = forked-nth ts f.1 i (le_of_suc-le-suc l)

-- the way down to the branch of the child at index i: `way` of proofs/Placement at the depth that the parent needs
abbrev way_of : ℕ → Forest → ℕ → Addr
way_of d ts i = way_to d (need d (node ts) - get_or (needs d ts) i 0) (slot d (needs d ts) i)

-- the image of an address: each step becomes the way down to the child's branch
abbrev pub image_of : ℕ → Topo → Addr → Addr
image_of d t [] = []
image_of d t (zero ∷ a) = []
image_of d t (suc i ∷ a) = way_of d (kids t) i ++ image_of d (nth (kids t) i) a

module _ (d : ℕ) (z : 2 ≤ d) where
  -- the laws of the placement at one node with children
  module _ (ts : Forest) (i : ℕ) (l : i < count ts) where
    has_room : sum (powers d (needs d ts)) ≤ d ^ need d (node ts)
    has_room = enough-holds d z (sum (powers d (needs d ts)))

    in_list : (j : ℕ) → j < count ts → j < length (needs d ts)
    in_list j g = omega (arith, length_needs d ts)

    way_there : In (complete d (need d (node ts))) (way_of d ts i)
    way_there = (placed_in d z (needs d ts) (need d (node ts)) has_room i (in_list i l)).0

    way_sub : sub (complete d (need d (node ts))) (way_of d ts i) ≡ complete d (need d (nth ts i))
    way_sub = (placed_in d z (needs d ts) (need d (node ts)) has_room i (in_list i l)).1 ∙ ap (complete d) (needs_nth d ts i l)

    way_apart : (j : ℕ) → j < count ts → i ≢ j → Above (way_of d ts i) (way_of d ts j) → ⊥
    way_apart j g n u = placed-apart d z (needs d ts) (need d (node ts)) has_room i j (in_list i l) (in_list j g) n u

    -- if there is another child, the way is not empty
    way_strict : count ts ≢ 1 → 0 < length (way_of d ts i)
    way_strict n = by_index (ℕ_discrete i 0)
      where
        beside : (j : ℕ) → j < count ts → i ≢ j → 0 < length (way_of d ts i)
        beside j g ne =
            omega (
              arith,
              placed-length d z (needs d ts) (need d (node ts)) has_room i,
              placed_lower d z (needs d ts) (need d (node ts)) has_room i j (in_list i l) (in_list j g) ne,
            )

        by_index : Dec (i ≡ 0) → 0 < length (way_of d ts i)
        by_index (yes e) = beside 1 (omega (arith, n)) (λ q. omega arith)
        by_index (no e) = beside 0 (omega arith) e

  image_there : (a : Addr) (t : Topo) → In t a → In (complete d (need d t)) (image_of d t a)
  image_there [] t i = tt
  image_there (zero ∷ a) t i = absurd (not-suc-le-zero i.0)
  image_there (suc k ∷ a) (node ts) (p, l, i) =
      in_join (complete d (need d (node ts))) (way_of d ts k) (image_of d (nth ts k) a) (way_there ts k l)
      (subst (λ (u : Topo). In u (image_of d (nth ts k) a)) (sym (way_sub ts k l)) (image_there a (nth ts k) i))

  image-leaf : (a : Addr) (t : Topo) → In t a → width (sub t a) ≡ 0 → width (sub (complete d (need d t)) (image_of d t a)) ≡ 0
  unfolding enough
  image-leaf [] (node fnil) i e = refl
  image-leaf [] (node (fcons t ts)) i e = absurd (omega arith)
  image-leaf (zero ∷ a) t i e = absurd (not-suc-le-zero i.0)
  image-leaf (suc k ∷ a) (node ts) (p, l, i) e =
      ap width (sub-append (complete d (need d (node ts))) (way_of d ts k) (image_of d (nth ts k) a))
      ∙ ap (λ (u : Topo). width (sub u (image_of d (nth ts k) a))) (way_sub ts k l)
      ∙ image-leaf a (nth ts k) i e

  image_down : (a e : Addr) (t : Topo) → In t a → Above (image_of d t a) (image_of d t (a ++ e))
  image_down [] e t i = (image_of d t e, refl)
  image_down (zero ∷ a) e t i = absurd (not-suc-le-zero i.0)
  image_down (suc k ∷ a) e (node ts) (p, l, i) =
      let r = image_down a e (nth ts k) i in
      (r.0, ap (λ (x : Addr). way_of d ts k ++ x) r.1 ∙ sym (append_assoc (way_of d ts k) (image_of d (nth ts k) a) r.0))

  image_up : (a b : Addr) (t : Topo) → Forked t → In t a → In t b → Above (image_of d t a) (image_of d t b) → Above a b
  image_up [] b t f i j u = (b, refl)
  image_up (zero ∷ a) b t f i j u = absurd (not-suc-le-zero i.0)
  image_up (suc k ∷ a) [] (node ts) f i j u =
      let w = way_of d ts k in
      let p = image_of d (nth ts k) a in
      absurd (omega (arith, ap length u.1, length-append (w ++ p) u.0, length-append w p, way_strict ts k i.1 f.0))
  image_up (suc k ∷ a) (zero ∷ b) t f i j u = absurd (not-suc-le-zero j.0)
  image_up (suc k ∷ a) (suc n ∷ b) (node ts) f (p, l, i) (q, g, j) u = by_child (ℕ_discrete k n) (λ h. image_up a b (nth ts k) (forked-nth ts f.1 k l) i h)
    where
      by_child : Dec (k ≡ n) → (In (nth ts k) b → Above (image_of d (nth ts k) a) (image_of d (nth ts k) b) → Above a b) → Above (suc k ∷ a) (suc n ∷ b)
      by_child (yes e) r =
          let v : Above (way_of d ts k ++ image_of d (nth ts k) a) (way_of d ts k ++ image_of d (nth ts k) b) =
          subst (λ (x : ℕ). Above (way_of d ts k ++ image_of d (nth ts k) a) (way_of d ts x ++ image_of d (nth ts x) b)) (sym e) u in
          let w : image_of d (nth ts k) b ≡ image_of d (nth ts k) a ++ v.0 =
          append_cancel_left (way_of d ts k) (image_of d (nth ts k) b) (image_of d (nth ts k) a ++ v.0) (v.1 ∙ append_assoc (way_of d ts k) (image_of d (nth ts k) a) v.0) in
          let s = r (subst (λ (x : ℕ). In (nth ts x) b) (sym e) j) (v.0, w) in
          (s.0, ap₂ (λ (x : ℕ) (c : Addr). suc x ∷ c) (sym e) s.1)
      by_child (no e) r = absurd (by_order (above_either (way_of d ts k) (way_of d ts n) (way_of d ts n ++ image_of d (nth ts n) b) over (image_of d (nth ts n) b, refl)))
        where
          over : Above (way_of d ts k) (way_of d ts n ++ image_of d (nth ts n) b)
          over = above_trans (way_of d ts k) (way_of d ts k ++ image_of d (nth ts k) a) (way_of d ts n ++ image_of d (nth ts n) b) (image_of d (nth ts k) a, refl) u

          by_order : Above (way_of d ts k) (way_of d ts n) ⊎ Above (way_of d ts n) (way_of d ts k) → ⊥
          by_order (inl v) = way_apart ts k l n g e v
          by_order (inr v) = way_apart ts n g k l (λ x. e (sym x)) v

  pub fits : (t : Topo) → Forked t → Fits t (complete d (need d t)) (image_of d t)
  fits t f =
      record {
        root = refl;
        there = λ a i. image_there a t i;
        leaf = λ a i e. image-leaf a t i e;
        down = λ a b i j u. subst (λ (c : Addr). Above (image_of d t a) (image_of d t c)) (sym u.1) (image_down a u.0 t i);
        up = λ a b i j u. image_up a b t f i j u;
      }

-- ---- no embedding into a complete tree of less depth

module _ (d : ℕ) (z : 2 ≤ d) where
  module _ (ts : Forest) (k : ℕ) (F : Addr → Addr) (E : Fits (node ts) (complete d k) F) where
    abbrev at : ℕ → Addr
    at i = F (suc i ∷ [])

    module _ (i : ℕ) (l : i < count ts) where
      has : (a : Addr) → In (nth ts i) a → In (node ts) (suc i ∷ a)
      has a j = (omega arith, l, j)

      rest : (a : Addr) → In (nth ts i) a → F (suc i ∷ a) ≡ at i ++ drop (length (at i)) (F (suc i ∷ a))
      rest a j =
          let u = E.down (suc i ∷ []) (suc i ∷ a) (has [] tt) (has a j) (a, refl) in
          u.1 ∙ ap (λ (x : Addr). at i ++ x) (sym (ap (drop (length (at i))) u.1 ∙ drop-append_seam (at i) u.0))

      place : (length (at i) ≤ k) × (sub (complete d k) (at i) ≡ complete d (k - length (at i)))
      place = sub-complete d (at i) k (E.there (suc i ∷ []) (has [] tt))

      child_fits : Fits (nth ts i) (complete d (k - length (at i))) (λ a. drop (length (at i)) (F (suc i ∷ a)))
      child_fits =
          record {
            root = drop-length (at i);
            there = λ a j. subst (λ (t : Topo). In t (drop (length (at i)) (F (suc i ∷ a)))) place.1
                (in_below (complete d k) (at i) (drop (length (at i)) (F (suc i ∷ a))) (subst (In (complete d k)) (rest a j) (E.there (suc i ∷ a) (has a j))));
            leaf = λ a j e.
                ap (λ (t : Topo). width (sub t (drop (length (at i)) (F (suc i ∷ a))))) (sym place.1)
                ∙ ap width (sym (ap (sub (complete d k)) (rest a j) ∙ sub-append (complete d k) (at i) (drop (length (at i)) (F (suc i ∷ a)))))
                ∙ E.leaf (suc i ∷ a) (has a j) e;
            down = λ a b j g u.
                let v = E.down (suc i ∷ a) (suc i ∷ b) (has a j) (has b g) (u.0, ap (λ (x : Addr). suc i ∷ x) u.1) in (
                  v.0,
                  append_cancel_left (at i) (drop (length (at i)) (F (suc i ∷ b))) (drop (length (at i)) (F (suc i ∷ a)) ++ v.0)
                      (sym (rest b g) ∙ v.1 ∙ ap (λ (x : Addr). x ++ v.0) (rest a j) ∙ append_assoc (at i) (drop (length (at i)) (F (suc i ∷ a))) v.0),
                );
            up = λ a b j g u.
                let v = E.up (suc i ∷ a) (suc i ∷ b) (has a j) (has b g) (
                  u.0,
                  rest b g ∙ ap (λ (x : Addr). at i ++ x) u.1 ∙ sym (append_assoc (at i) (drop (length (at i)) (F (suc i ∷ a))) u.0)
                      ∙ ap (λ (x : Addr). x ++ u.0) (sym (rest a j)),
                ) in
                (v.0, cc v.1);
          }

      unrelated : (j : ℕ) → j < count ts → i ≢ j → Above (at i) (at j) → ⊥
      unrelated j g n u =
          let v = E.up (suc i ∷ []) (suc j ∷ []) (has [] tt) (omega arith, g, tt) u in
          n (first v.1)
        where
          first : {e : Addr} → suc j ∷ [] ≡ suc i ∷ e → i ≡ j
          first q = cc

  node_bound : (ts : Forest) (k : ℕ) (F : Addr → Addr) (E : Fits (node ts) (complete d k) F)
      → ((i : ℕ) → i < count ts → need d (nth ts i) ≤ k - length (F (suc i ∷ []))) → need d (node ts) ≤ k
  node_bound ts k F E h = enough-least d z (sum (powers d (needs d ts))) k (omega (arith, room_all d (needs d ts), kraft d (omega arith) k (λ i. true) (at ts k F E) (needs d ts) apart))
    where
      listed : (i : ℕ) → i < length (needs d ts) → i < count ts
      listed i l = omega (arith, length_needs d ts)

      apart : Apart d k (λ i. true) (at ts k F E) (needs d ts)
      apart =
          record {
            there = λ i l e. E.there (suc i ∷ []) (omega arith, listed i l, tt);
            inside = λ i l e. omega (arith, needs_nth d ts i (listed i l), h i (listed i l), (place ts k F E i (listed i l)).0);
            apart = λ i j l g e f n u. unrelated ts k F E i (listed i l) j (listed j g) n u;
          }

  mutual
    -- A drawing has no embedding into a complete tree that is less deep than it needs.
    pub bound : (t : Topo) (k : ℕ) (F : Addr → Addr) → Fits t (complete d k) F → need d t ≤ k
    bound (node ts) k F E = node_bound ts k F E (λ i l. bounds ts i l (k - length (F (suc i ∷ []))) (λ a. drop (length (F (suc i ∷ []))) (F (suc i ∷ a))) (child_fits ts k F E i l))

    bounds : (ts : Forest) (i : ℕ) → i < count ts → (k : ℕ) (F : Addr → Addr) → Fits (nth ts i) (complete d k) F → need d (nth ts i) ≤ k
    bounds fnil i l k F E = absurd (not-suc-le-zero l)
    bounds (fcons t ts) zero l k F E = bound t k F E
    bounds (fcons t ts) (suc i) l k F E = bounds ts i (le_of_suc-le-suc l) k F E

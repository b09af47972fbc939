-- The maps of a drawing are the embeddings of its reduced drawing, with 255 at the passed nodes, and the least map comes from the least embedding.
use mathlib.Core.Path.{◌≡◌, refl, sym, ap, ap₂, ◌∙◌, subst, subst₂}
use mathlib.Core.Logic.{◌↔◌, ◌≢◌, inl, inr}
use Prim.Native.Nat.{ℕ, suc, ◌+◌, ◌≤◌, ◌<◌}
use native.Mathlib.Decide.{dec_lt, ℕ_discrete}
use native.Mathlib.Omega.{arith}
use mathlib.Core.List.{List, [], ◌∷◌, ◌++◌, append-nil}
use mathlib.Core.Bool.{Bool, true, false, cond}
use lib.ListN.{length, take, get_or}
use lib.Dec.{eqb}
use Rattle.topology.specs.Tree.{Topo, Forest, node, fnil, fcons, count, width, code, codes, size}
use Rattle.topology.specs.Address.{sub, num, subtree}
use Rattle.topology.proofs.Decoding.{length_code, byte_width}
use Rattle.topology.proofs.Numbering.{addr_root}
use Rattle.topology_reduction.specs.Kept.{Kept, descent, descent_in, if_alone, top}
use Rattle.topology_reduction.specs.Reduced.{joined, reduced, reduced_all, passed_over, kept_bytes, spread, restricted}
use Rattle.topology_reduction.proofs.Kept.{top_in, top_kept}
use Rattle.topology_reduction.proofs.Reduced.{place_lt, place-subtree, place_less, place_order, size_reduced, reduced_again}
use Rattle.topology_reduction.proofs.Spread.{spread-length, spread-kept, spread_passed, kept_of, spread-restricted}
use Rattle.embedding_model.specs.Rules.{image, Passes, Embeds, Before}
use Rattle.embedding_model.specs.Least.{LeastPassing}
use Rattle.embedding_model.specs.InnerLeast.{LeastEmbedding}
use Rattle.topology_reduction.specs.InnerNodes.{place}

-- ---- the top node of the reduced drawing

width-joined : (ts : Forest) → count ts ≢ 1 → width (joined ts) ≡ count ts
width-joined fnil n = refl
width-joined (fcons t fnil) n = absurd (n refl)
width-joined (fcons t (fcons u ts)) n = refl

width_reduced : (t : Topo) → width t ≢ 1 → width (reduced t) ≡ width t
width_reduced (node ts) n = width-joined (reduced_all ts) (λ e. n (sym (same ts) ∙ e)) ∙ same ts
  where
    same : (ts : Forest) → count (reduced_all ts) ≡ count ts
    same fnil = refl
    same (fcons t ts) = ap suc (same ts)

-- the top node has the number 0
mutual
  pub top-place : (t : Topo) → place (code t) (num t (descent t)) ≡ 0
  top-place (node ts) = top_places ts

  top_places : (ts : Forest) → place (count ts ∷ codes ts) (num (node ts) (descent_in ts)) ≡ 0
  top_places fnil = refl
  top_places (fcons t ts) = last_place t ts (top-place t)

  last_place : (t : Topo) (ts : Forest) → place (code t) (num t (descent t)) ≡ 0
      → place (suc (count ts) ∷ (code t ++ codes ts)) (num (node (fcons t ts)) (if_alone ts (1 ∷ descent t))) ≡ 0
  last_place t (fcons u ts) e = refl
  last_place t fnil e =
      let z : 0 + num t (descent t) ≡ num t (descent t) = omega arith in
      ap₂ (λ (l : List ℕ) (n : ℕ). length (kept_bytes (take n l))) (append-nil (code t)) z ∙ e

module _ (S T : Topo) (l : List ℕ) (long : length l ≡ size (reduced S)) where
  long' : length l ≡ length (kept_bytes (code S))
  long' = long ∙ size_reduced S

  byte : (a : ℕ) → a < size S → width (subtree S a) ≢ 1 → get_or (code S) a 0 ≢ 1
  byte a h k e = k (sym (byte_width S a h) ∙ e)

  in_code : (a : ℕ) → a < size S → a < length (code S)
  in_code a h = omega (arith, length_code S)

  at : (a : ℕ) → a < size S → Kept S a → image (spread (code S) l) a ≡ image l (place (code S) a)
  at a h k = spread-kept (code S) l a (in_code a h) (byte a h k) long'

  place_inj : (a b : ℕ) → a < size S → b < size S → Kept S a → Kept S b → place (code S) a ≡ place (code S) b → a ≡ b
  place_inj a b h g ka kb e = by_order (dec_lt a b) (dec_lt b a)
    where
      by_order : Dec (a < b) → Dec (b < a) → a ≡ b
      by_order (yes u) v = absurd (omega (arith, place_less (code S) a b (in_code a h) (byte a h ka) u))
      by_order (no u) (yes v) = absurd (omega (arith, place_less (code S) b a (in_code b g) (byte b g kb) v))
      by_order (no u) (no v) = omega arith

  top-width : width (subtree S (top S)) ≡ width (reduced S)
  top-width =
      sym (width_reduced (subtree S (top S)) (top_kept S))
      ∙ ap width (sym (place-subtree S (top S) (top_in S)) ∙ ap (λ (n : ℕ). subtree (reduced S) n) (top-place S) ∙ ap (sub (reduced S)) (addr_root (reduced S)))

  leaf-place : (a : ℕ) → a < size S → Kept S a → width (subtree (reduced S) (place (code S) a)) ≡ width (subtree S a)
  leaf-place a h k = ap width (place-subtree S a h) ∙ width_reduced (subtree S a) k

  -- An embedding of the reduced drawing, spread over all nodes, is a map of the drawing.
  pub embeds_passes : Embeds (reduced S) T l → Passes S T (spread (code S) l)
  embeds_passes E =
      record {
        long = spread-length (code S) l long' ∙ length_code S;
        passed = λ a h e. spread_passed (code S) l a (in_code a h) (byte_width S a h ∙ e) long';
        within = λ a h k. rw (at a h k) (E.within (place (code S) a) (place_lt S a h));
        once = λ a b h g ka kb e.
            place_inj a b h g ka kb (E.once (place (code S) a) (place (code S) b) (place_lt S a h) (place_lt S b g) (sym (at a h ka) ∙ e ∙ at b g kb));
        root = λ w. at (top S) (top_in S) (top_kept S) ∙ ap (image l) (top-place S) ∙ E.root (λ e. w (top-width ∙ e));
        leaf = λ a h e.
            let k : Kept S a = λ q. clash e q in
            rw (at a h k) (E.leaf (place (code S) a) (place_lt S a h) (leaf-place a h k ∙ e));
        order = λ a b h g ka kb.
            let o = place_order S a b h g ka kb in
            let r = E.order (place (code S) a) (place (code S) b) (place_lt S a h) (place_lt S b g) in
            (λ u. rw (at a h ka, at b g kb) (r.0 (o.0 u)), λ u. o.1 (r.1 (rw (at a h ka, at b g kb) at u)));
      }
    where
      clash : {n : ℕ} → n ≡ 0 → n ≡ 1 → ⊥
      clash e q = omega arith

  -- the kept node with a number in the reduced drawing
  record Of (j : ℕ) : Type 0 where
    node : ℕ
    there : node < size S
    kept : Kept S node
    place_is : place (code S) node ≡ j
    is : image (spread (code S) l) node ≡ image l j

  of : (j : ℕ) → j < size (reduced S) → Of j
  of j h =
      let f = kept_of (code S) j (omega (arith, size_reduced S)) in
      let there : f.0 < size S = omega (arith, f.1, length_code S) in
      let kept : Kept S f.0 = λ e. f.2 (byte_width S f.0 there ∙ e) in
      record { node = f.0; there = there; kept = kept; place_is = f.3; is = at f.0 there kept ∙ ap (image l) f.3 }

  -- Conversely, it is an embedding if the spread list is a map.
  pub passes_embeds : Passes S T (spread (code S) l) → Embeds (reduced S) T l
  passes_embeds p =
      record {
        long = long;
        within = λ j h. let n = of j h in rw (← n.is) (p.within n.node n.there n.kept);
        once = λ i j h g e.
            let n = of i h in
            let k = of j g in
            sym n.place_is ∙ ap (place (code S)) (p.once n.node k.node n.there k.there n.kept k.kept (n.is ∙ e ∙ sym k.is)) ∙ k.place_is;
        root = λ w. ap (image l) (sym (top-place S)) ∙ sym (at (top S) (top_in S) (top_kept S)) ∙ p.root (λ e. w (sym top-width ∙ e));
        leaf = λ j h e.
            let n = of j h in
            rw (← n.is) (p.leaf n.node n.there
            (sym (leaf-place n.node n.there n.kept) ∙ ap (λ (x : ℕ). width (subtree (reduced S) x)) n.place_is ∙ e));
        order = λ i j h g.
            let n = of i h in
            let k = of j g in
            let o = place_order S n.node k.node n.there k.there n.kept k.kept in
            let r = p.order n.node k.node n.there k.there n.kept k.kept in
            (λ u. rw (n.is, k.is) at (r.0 (o.1 (rw (n.place_is, k.place_is) u))), λ u. rw (n.place_is, k.place_is) at (o.0 (r.1 (rw (n.is, k.is) u))));
      }

-- Every map of a drawing comes from an embedding of its reduced drawing.
pub passes_reduced : (S T : Topo) (m : List ℕ) → Passes S T m → (spread (code S) (restricted (code S) m) ≡ m) × Embeds (reduced S) T (restricted (code S) m)
passes_reduced S T m p =
    let g = spread-restricted (code S) m (p.long ∙ sym (length_code S))
    (λ n h e. let there : n < size S = omega (arith, h, length_code S) in p.passed n there (sym (byte_width S n there) ∙ e)) in
    (g.0, passes_embeds S T (restricted (code S) m) (g.1 ∙ sym (size_reduced S)) (subst (Passes S T) (sym g.0) p))

-- So a drawing has a map exactly where its reduced drawing has one.
pub maps_reduced : (S T : Topo) → ((m : List ℕ) → Passes S T m → ⊥) ↔ ((m : List ℕ) → Passes (reduced S) T m → ⊥)
maps_reduced S T = (
  λ n m p. n (spread (code S) (restricted (code (reduced S)) m)) (up (restricted (code (reduced S)) m) (passes_reduced (reduced S) T m p).1),
  λ n m p. n (spread (code (reduced S)) (restricted (code S) m)) (down (restricted (code S) m) (passes_reduced S T m p).1),
)
  where
    up : (l : List ℕ) → Embeds (reduced (reduced S)) T l → Passes S T (spread (code S) l)
    up l e = let q = subst (λ (t : Topo). Embeds t T l) (reduced_again S) e in embeds_passes S T l q.long q

    down : (l : List ℕ) → Embeds (reduced S) T l → Passes (reduced S) T (spread (code (reduced S)) l)
    down l e = let q = subst (λ (t : Topo). Embeds t T l) (sym (reduced_again S)) e in embeds_passes (reduced S) T l q.long q

-- Every number of a map fits a byte.
pub image-fits : (S T : Topo) (m : List ℕ) → Passes S T m → size T ≤ 64 → (a : ℕ) → a < size S → image m a < 256
image-fits S T m p few a h = by_width (ℕ_discrete (width (subtree S a)) 1)
  where
    by_width : Dec (width (subtree S a) ≡ 1) → image m a < 256
    by_width (yes e) = omega (arith, p.passed a h e)
    by_width (no k) = omega (arith, p.within a h k)

-- ---- the least map

-- Spreading keeps the order of lists.
spread_back : (bs l k : List ℕ) → length l ≡ length (kept_bytes bs) → length k ≡ length (kept_bytes bs) → Before (spread bs l) (spread bs k) → Before l k
spread_back [] [] k e f b = absurd b
spread_back [] (x ∷ l) k e f b = absurd b
spread_back (c ∷ bs) l k e f b = by_test l k (eqb c 1) refl e f b (λ l k. spread_back bs l k)
  where
    by_test : (l k : List ℕ) (t : Bool) → eqb c 1 ≡ t → length l ≡ length (cond t (kept_bytes bs) (c ∷ kept_bytes bs)) → length k ≡ length (cond t (kept_bytes bs) (c ∷ kept_bytes bs))
        → Before (spread (c ∷ bs) l) (spread (c ∷ bs) k)
        → ((l k : List ℕ) → length l ≡ length (kept_bytes bs) → length k ≡ length (kept_bytes bs) → Before (spread bs l) (spread bs k) → Before l k) → Before l k
    by_test l k true q e f b r = r l k e f (same (passed_over ∷ spread bs l) (passed_over ∷ spread bs k) refl refl (subst₂ Before (first l q) (first k q) b))
      where
        first : (l : List ℕ) → eqb c 1 ≡ true → spread (c ∷ bs) l ≡ passed_over ∷ spread bs l
        first [] q = rw q
        first (x ∷ l) q = rw q

        same : (x y : List ℕ) → x ≡ passed_over ∷ spread bs l → y ≡ passed_over ∷ spread bs k → Before x y → Before (spread bs l) (spread bs k)
        same x y u v w = tail (subst₂ Before u v w)
          where
            tail : Before (passed_over ∷ spread bs l) (passed_over ∷ spread bs k) → Before (spread bs l) (spread bs k)
            tail (inl h) = absurd (omega arith)
            tail (inr (h, b)) = b
    by_test [] k false q e f b r = absurd (omega arith)
    by_test (x ∷ l) [] false q e f b r = absurd (omega arith)
    by_test (x ∷ l) (y ∷ k) false q e f b r = ahead (subst₂ Before (first x l) (first y k) b)
      where
        first : (x : ℕ) (l : List ℕ) → spread (c ∷ bs) (x ∷ l) ≡ x ∷ spread bs l
        first x l = rw q

        ahead : Before (x ∷ spread bs l) (y ∷ spread bs k) → Before (x ∷ l) (y ∷ k)
        ahead (inl h) = inl h
        ahead (inr (h, b)) = inr (h, r l k (omega (arith, e)) (omega (arith, f)) b)

pub least-spread : (S T : Topo) (l : List ℕ) → LeastEmbedding (reduced S) T l → LeastPassing S T (spread (code S) l)
least-spread S T l e =
    record {
      passes = embeds_passes S T l e.embeds.long e.embeds;
      first = λ m p b.
          let r = passes_reduced S T m p in
          let k = restricted (code S) m in
          e.first k r.1
          (spread_back (code S) k l (r.1.long ∙ size_reduced S) (e.embeds.long ∙ size_reduced S)
          (subst (λ (x : List ℕ). Before x (spread (code S) l)) (sym r.0) b));
    }

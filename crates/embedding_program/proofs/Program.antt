-- What the dynamic program's table means for maps. `best s t` is the least number of a placing of s's children below t in which each child c goes to
-- a node x where `best c x` is open, that is, less than `no_images`. There is no placing where s is a leaf and t is not.
--
-- If there is a map, the table is open at each node and its image (`opens`, from the last node to the first). Read off from the root, an open table
-- gives images that meet the conditions of proofs/Local (`opened`), so they are a map. No map comes before it: where the two lists first differ, the
-- parent has the same image in both, and there the table has the least placing of its children (`first`). The target nodes that are allowed for a
-- source node are a parameter, `fits`; the search requires rule 3 alone.
use mathlib.Core.Path.{◌≡◌, refl, sym, ap, ◌∙◌, subst}
use mathlib.Core.Logic.{◌≢◌, inl, inr}
use Prim.Native.Nat.{ℕ, zero, suc, ◌+◌, ◌-◌, ◌≤◌, ◌<◌}
use native.Mathlib.Nat.{not-suc-le-zero, le_of_suc-le-suc}
use native.Mathlib.Decide.{dec_lt}
use native.Mathlib.Omega.{arith}
use mathlib.Core.List.{List, [], ◌∷◌}
use mathlib.Core.Bool.{true, false}
use lib.ListN.{length, get_or, length-replicate, get_or-replicate, get_or-eq_default}
use Rattle.base.proofs.Tabulate.{tabulate, length_tabulate, get_d_tabulate}
use Rattle.base.proofs.Tests.{clash}
use Rattle.topology.specs.Tree.{Topo, width, size}
use Rattle.topology.specs.Address.{subtree, child_of}
use Rattle.topology.proofs.Ancestry.{above_from, above_to, size_pos, subtree_end}
use Rattle.topology.proofs.Children.{HasChild, child_of_lt, addr-child_of, child_of_after, child_of_next, parent}
use Rattle.embedding_model.specs.Rules.{image, Embeds, Before}
use Rattle.embedding_program.specs.InnerSets.{pack, digit, no_images}
use Rattle.embedding_program.specs.InnerPlacing.{Member}
use Rattle.embedding_program.proofs.Sets.{weight_le, member_length, pack_bound, digit-pack, pack_less}
use Rattle.embedding_program.proofs.Placing.{placed-map}
use Rattle.embedding_program.specs.InnerMeaning.{end, kid, full, Fits, PlacedAt, BestEntry, TruthFor, ReadOff}
use Rattle.embedding_program.proofs.Local.{Apart, siblings, Local, local_embeds}

pub has_kid : (t : Topo) (s j : ℕ) → s < size t → j < width (subtree t s) → HasChild t s (width (subtree t s) - j)
has_kid t s j h g = (h, omega arith, omega arith)

-- the place of a child
pub kid-place : (t : Topo) (s i : ℕ) → HasChild t s i → kid t s (width (subtree t s) - i) ≡ child_of t s i
kid-place t s i h =
    let e : width (subtree t s) - (width (subtree t s) - i) ≡ i = omega arith in
    ap (child_of t s) e

child_of_mono : (t : Topo) (s a b : ℕ) → s < size t → 0 < a → a < b → b ≤ width (subtree t s) → child_of t s a < child_of t s b
child_of_mono t s a zero h p l w = absurd (not-suc-le-zero l)
child_of_mono t s a (suc b) h p l w = by_order (dec_lt a b) (λ k. child_of_mono t s a b h p k (omega arith))
  where
    next : child_of t s b < child_of t s (suc b)
    next = omega (arith, child_of_next t s b (h, omega arith, omega arith), size_pos (Rattle.topology.specs.Address.child (subtree t s) b))

    by_order : Dec (a < b) → (a < b → child_of t s a < child_of t s b) → child_of t s a < child_of t s (suc b)
    by_order (yes k) r = omega (arith, r k, next)
    by_order (no k) r =
        let e : a ≡ b = omega arith in
        subst (λ (i : ℕ). child_of t s i < child_of t s (suc b)) (sym e) next

-- one list comes before another: their first difference
record Difference (l m : List ℕ) : Type 0 where
  index : ℕ
  there : index < length m
  less : image l index < image m index
  same : (i : ℕ) → i < index → image l i ≡ image m i

difference : (l m : List ℕ) → Before l m → Difference l m
difference [] m b = absurd b
difference (x ∷ l) [] b = absurd b
difference (x ∷ l) (y ∷ m) (inl h) = record { index = 0; there = omega arith; less = h; same = λ i g. absurd (not-suc-le-zero g) }
difference (x ∷ l) (y ∷ m) (inr (e, b)) =
    let d = difference l m b in
    record { index = suc d.index; there = omega (arith, d.there); less = d.less; same = same d }
  where
    same : (d : Difference l m) (i : ℕ) → i < suc d.index → image (x ∷ l) i ≡ image (y ∷ m) i
    same d zero g = e
    same d (suc i) g = d.same i (le_of_suc-le-suc g)

-- the number of at most eight images below 64 is less than `no_images`
pub pack_none : (ys : List ℕ) → length ys ≤ 8 → ((i : ℕ) → i < length ys → get_or ys i 0 < 64) → pack ys < no_images
pack_none ys l f = omega (arith, pack_bound ys f, weight_le (length ys) 8 l)

full-length : (t : Topo) (s j : ℕ) → Member (full t s) j → j < width (subtree t s)
full-length t s j m = omega (arith, member_length (full t s) j m, length-replicate (width (subtree t s)) true)

pub full_member : (t : Topo) (s j : ℕ) → j < width (subtree t s) → Member (full t s) j
full_member t s j h = get_or-replicate (width (subtree t s)) j true false h

module _ (S T : Topo) where
  -- an entry depends only on the rows of the children
  pub entry-map : (fits : ℕ → ℕ → Type 0) (best other : ℕ → ℕ → ℕ) (s t v : ℕ) → t < size T
      → ((j x : ℕ) → j < width (subtree S s) → x < size T → best (kid S s j) x ≡ other (kid S s j) x)
      → BestEntry S T fits best s t v → BestEntry S T fits other s t v
  entry-map fits best other s t v h same e =
      record {
        lower = λ f ys q. e.lower f ys (back ys q);
        allowed = e.allowed;
        attained = λ l. ((e.attained l).0, there (e.attained l).0 (e.attained l).1, (e.attained l).2);
      }
    where
      there : (ys : List ℕ) → PlacedAt S T best s t ys → PlacedAt S T other s t ys
      there ys =
          placed-map (λ j x. best (kid S s j) x < no_images) (λ j x. other (kid S s j) x < no_images) (end T) (end T) (end T t) (full S s) (t + 1) ys
          (λ j x l g o. rw (← same j x (omega (arith, length-replicate (width (subtree S s)) true)) (omega (arith, subtree_end T t h))) o) (λ x g. refl)

      back : (ys : List ℕ) → PlacedAt S T other s t ys → PlacedAt S T best s t ys
      back ys =
          placed-map (λ j x. other (kid S s j) x < no_images) (λ j x. best (kid S s j) x < no_images) (end T) (end T) (end T t) (full S s) (t + 1) ys
          (λ j x l g o. rw (same j x (omega (arith, length-replicate (width (subtree S s)) true)) (omega (arith, subtree_end T t h))) o) (λ x g. refl)

  -- Maps whose images are all allowed; `fits` implies rule 3.
  module _ (inner : width S ≢ 0) (fits : ℕ → ℕ → Type 0) (leaves : (s t : ℕ) → fits s t → Fits S T s t) (small : size T ≤ 64)
      (few : (s : ℕ) → s < size S → width (subtree S s) ≤ 8) (best : ℕ → ℕ → ℕ) (truth : TruthFor S T fits best 0) where
    -- the images of a node's children, by place
    abbrev kid_images : List ℕ → ℕ → List ℕ
    kid_images m s = tabulate (width (subtree S s)) (λ j. image m (kid S s j))

    module _ (m : List ℕ) (p : Embeds S T m) (allowed : (s : ℕ) → s < size S → fits s (image m s)) where
      child-image : (s i : ℕ) → HasChild S s i → (image m s < image m (child_of S s i)) × (image m (child_of S s i) < end T (image m s))
      child-image s i h =
          let c = child_of S s i in
          let g = child_of_lt S s i h in
          let u = above_from T (image m s) (image m c) (p.within s h.0) (p.within c g) ((p.order s c h.0 g).0 (i ∷ [], addr-child_of S s i h)) in
          (strict u.0 (λ e. lower (p.once s c h.0 g e)), u.1)
        where
          lower : s ≡ child_of S s i → ⊥
          lower e = omega (arith, child_of_after S s i h)

          strict : image m s ≤ image m (child_of S s i) → image m s ≢ image m (child_of S s i) → image m s < image m (child_of S s i)
          strict l d = omega arith

      children_apart : (s i j : ℕ) → HasChild S s i → HasChild S s j → i ≢ j → Apart T (image m (child_of S s i)) (image m (child_of S s j))
      children_apart s i j h g d = by_order (dec_lt y x) (dec_lt y (end T x)) (dec_lt x (end T y))
        where
          x : ℕ
          x = image m (child_of S s i)

          y : ℕ
          y = image m (child_of S s j)

          unrelated : (i j : ℕ) → HasChild S s i → HasChild S s j → i ≢ j → image m (child_of S s i) ≤ image m (child_of S s j)
              → image m (child_of S s j) < end T (image m (child_of S s i)) → ⊥
          unrelated i j h g d l k =
              siblings S s i j h g d
              ((p.order (child_of S s i) (child_of S s j) (child_of_lt S s i h) (child_of_lt S s j g)).1
              (above_to T (image m (child_of S s i)) (image m (child_of S s j)) (p.within (child_of S s i) (child_of_lt S s i h)) l k))

          by_order : Dec (y < x) → Dec (y < end T x) → Dec (x < end T y) → Apart T x y
          by_order (no n) (yes k) e = absurd (unrelated i j h g d (omega arith) k)
          by_order (no n) (no k) e = inl (omega arith)
          by_order (yes k) e (yes l) = absurd (unrelated j i g h (λ q. d (sym q)) (omega arith) l)
          by_order (yes k) e (no l) = inr (omega arith)

      placing : (s : ℕ) → s < size S → ((j : ℕ) → j < width (subtree S s) → best (kid S s j) (image m (kid S s j)) < no_images)
          → PlacedAt S T best s (image m s) (kid_images m s)
      placing s h o =
          record {
            long = length_tabulate k f ∙ sym (length-replicate k true);
            off = λ i e. outside i e (dec_lt i k);
            from = λ i n. rw (at i n) (omega (arith, (child-image s (k - i) (has_kid S s i h (full-length S s i n))).0));
            to = λ i n. rw (at i n) (child-image s (k - i) (has_kid S s i h (full-length S s i n))).1;
            may = λ i n. rw (at i n) (o i (full-length S s i n));
            apart = λ i j n q d. rw (at i n, at j q)
                (children_apart s (k - i) (k - j) (has_kid S s i h (full-length S s i n)) (has_kid S s j h (full-length S s j q))
                (other i j (full-length S s i n) (full-length S s j q) d));
          }
        where
          k : ℕ
          k = width (subtree S s)

          f : ℕ → ℕ
          f j = image m (kid S s j)

          at : (i : ℕ) → Member (full S s) i → get_or (kid_images m s) i 0 ≡ image m (kid S s i)
          at i n = get_d_tabulate k f i 0 (full-length S s i n)

          other : (i j : ℕ) → i < k → j < k → i ≢ j → k - i ≢ k - j
          other i j l g d = omega arith

          outside : (i : ℕ) → get_or (full S s) i false ≡ false → Dec (i < k) → get_or (kid_images m s) i 0 ≡ 0
          outside i e (yes l) = absurd (clash (cc (full_member S s i l)))
          outside i e (no l) = get_or-eq_default (kid_images m s) 0 (omega (arith, length_tabulate k f))

      images-small : (s : ℕ) → s < size S → (i : ℕ) → i < length (kid_images m s) → get_or (kid_images m s) i 0 < 64
      images-small s h i l =
          let l' : i < width (subtree S s) = omega (arith, length_tabulate (width (subtree S s)) (λ j. image m (kid S s j))) in
          let e = get_d_tabulate (width (subtree S s)) (λ j. image m (kid S s j)) i 0 l' in
          omega (arith, p.within (kid S s i) (child_of_lt S s (width (subtree S s) - i) (has_kid S s i h l')))

      opens_from : (fuel s : ℕ) → size S ≤ s + fuel → s < size S → best s (image m s) < no_images
      opens_from zero s f h = absurd (omega arith)
      opens_from (suc fuel) s f h =
          let q = placing s h (λ j l. opens_from fuel (kid S s j) (later j l) (child_of_lt S s (width (subtree S s) - j) (has_kid S s j h l))) in
          let e = (truth s (image m s) (omega arith) h (p.within s h) (at_root s)).lower (allowed s h) (kid_images m s) q in
          omega (arith, pack_none (kid_images m s) (omega (arith, length_tabulate (width (subtree S s)) (λ j. image m (kid S s j)), few s h)) (images-small s h))
        where
          at_root : (s : ℕ) → s ≡ 0 → image m s ≡ 0
          at_root s z = rw z (p.root inner)

          later : (j : ℕ) → j < width (subtree S s) → size S ≤ kid S s j + fuel
          later j l = omega (arith, child_of_after S s (width (subtree S s) - j) (has_kid S s j h l))

      -- If there is a map, the table is open at each node and its image.
      pub opens : (s : ℕ) → s < size S → best s (image m s) < no_images
      opens s = opens_from (size S) s (omega arith)

    -- If the table is shut at the roots, there is no map.
    pub program_none : no_images ≤ best 0 0 → (l : List ℕ) → Embeds S T l → ((s : ℕ) → s < size S → fits s (image l s)) → ⊥
    program_none h l p a = omega (arith, subst (λ (x : ℕ). best 0 x < no_images) (p.root inner) (opens l p a 0 (size_pos S)))

    pub record LeastAllowed (m : List ℕ) : Type 0 where
      pub embeds : Embeds S T m
      pub allowed : (s : ℕ) → s < size S → fits s (image m s)
      pub first : (l : List ℕ) → Embeds S T l → ((s : ℕ) → s < size S → fits s (image l s)) → Before l m → ⊥

    module _ (m : List ℕ) (r : ReadOff S best m) (top : best 0 0 < no_images) where
      record Opened (s : ℕ) : Type 0 where
        node : image m s < size T
        is_open : best s (image m s) < no_images

      -- the placing that the table gives at a node
      record Chosen (s : ℕ) : Type 0 where
        images : List ℕ
        placed : PlacedAt S T best s (image m s) images
        number : pack images ≡ best s (image m s)
        kids : (j : ℕ) → j < width (subtree S s) → image m (kid S s j) ≡ get_or images j 0

      -- the table's entry for a node and its image
      entry : (s : ℕ) → s < size S → Opened s → BestEntry S T fits best s (image m s) (best s (image m s))
      entry s h o = truth s (image m s) (omega arith) h o.node (λ z. rw z r.root)

      chosen : (s : ℕ) → s < size S → Opened s → Chosen s
      chosen s h o =
          let a = (entry s h o).attained o.is_open in
          let ys = a.0 in
          let q = a.1 in
          let e = a.2 in
          let bound : (i : ℕ) → i < length ys → get_or ys i 0 < 64 =
          λ i l. omega (arith, q.to i (full_member S s i (omega (arith, q.long, length-replicate (width (subtree S s)) true))), subtree_end T (image m s) o.node) in
          record {
            images = ys;
            placed = q;
            number = e;
            kids = λ j l. r.reads s j h l ∙ ap (digit j) (sym e) ∙ digit-pack ys bound j (omega (arith, q.long, length-replicate (width (subtree S s)) true));
          }

      kid-opened : (s j : ℕ) → j < width (subtree S s) → s < size S → Opened s → Chosen s → Opened (kid S s j)
      kid-opened s j l h o c =
          let n = full_member S s j l in
          let e = c.kids j l in
          record {
            node = omega (arith, e, c.placed.to j n, subtree_end T (image m s) o.node);
            is_open = rw e (c.placed.may j n);
          }

      opened_from : (fuel s : ℕ) → s < fuel → s < size S → Opened s
      opened_from zero s f h = absurd (not-suc-le-zero f)
      opened_from (suc fuel) zero f h =
          record { node = rw r.root (size_pos T); is_open = rw r.root top }
      opened_from (suc fuel) (suc n) f h =
          let p = parent S (suc n) (omega arith) h in
          let s = p.node in
          let j = width (subtree S s) - p.index in
          let is : kid S s j ≡ suc n = kid-place S s p.index p.has ∙ p.child in
          let before : s < suc n = subst (λ (k : ℕ). s < k) p.child (child_of_after S s p.index p.has) in
          let o = opened_from fuel s (omega arith) p.has.0 in
          subst Opened is (kid-opened s j (omega (arith, p.has)) p.has.0 o (chosen s p.has.0 o))

      opened : (s : ℕ) → s < size S → Opened s
      opened s = opened_from (suc s) s (omega arith)

      choice : (s : ℕ) → s < size S → Chosen s
      choice s h = chosen s h (opened s h)

      -- a child's image is the one chosen
      child_chosen : (s i : ℕ) (b : s < size S) → HasChild S s i
          → image m (child_of S s i) ≡ get_or (choice s b).images (width (subtree S s) - i) 0
      child_chosen s i b h =
          ap (image m) (sym (kid-place S s i h)) ∙ (choice s b).kids (width (subtree S s) - i) (omega (arith, h))

      child_member : (s i : ℕ) → HasChild S s i → Member (full S s) (width (subtree S s) - i)
      child_member s i h = full_member S s (width (subtree S s) - i) (omega (arith, h))

      all_allowed : (s : ℕ) → s < size S → fits s (image m s)
      all_allowed s h = (entry s h (opened s h)).allowed (opened s h).is_open

      local : Local S T m
      local =
          record {
            long = r.long;
            root = r.root;
            within = λ a h. (opened a h).node;
            leaf = λ a h. leaves a (image m a) (all_allowed a h);
            down = λ a i h. (
              rw (child_chosen a i h.0 h) (omega (arith, (choice a h.0).placed.from (width (subtree S a) - i) (child_member a i h))),
              rw (child_chosen a i h.0 h) ((choice a h.0).placed.to (width (subtree S a) - i) (child_member a i h)),
            );
            apart = λ a i j h g d.
                rw (child_chosen a i h.0 h, child_chosen a j h.0 g)
                ((choice a h.0).placed.apart (width (subtree S a) - i) (width (subtree S a) - j) (child_member a i h) (child_member a j g) (differ a i j h g d));
          }
        where
          differ : (a i j : ℕ) → HasChild S a i → HasChild S a j → i ≢ j → width (subtree S a) - i ≢ width (subtree S a) - j
          differ a i j h g d = omega arith

      pub read_embeds : Embeds S T m
      read_embeds = local_embeds S T m local

      -- if the images first differed at child i of s, the table would have a smaller placing
      earlier : (l : List ℕ) → Embeds S T l → ((s : ℕ) → s < size S → fits s (image l s)) → (s i : ℕ) (h : HasChild S s i) → image l s ≡ image m s
          → image l (child_of S s i) < image m (child_of S s i) → ((n : ℕ) → n < child_of S s i → image l n ≡ image m n) → ⊥
      earlier l p a s i h e less same =
          let w = width (subtree S s) in
          let c = choice s h.0 in
          let f = opened s h.0 in
          let zs = kid_images l s in
          let placed : PlacedAt S T best s (image m s) zs =
          subst (λ (t : ℕ). PlacedAt S T best s t zs) e
          (placing l p a s h.0 (λ j g. opens l p a (kid S s j) (child_of_lt S s (w - j) (has_kid S s j h.0 g)))) in
          let low = (entry s h.0 f).lower ((entry s h.0 f).allowed f.is_open) zs placed in
          let long : length zs ≡ w = length_tabulate w (λ j. image l (kid S s j)) in
          let images_long : length c.images ≡ w = c.placed.long ∙ length-replicate w true in
          let at : (j : ℕ) → j < w → get_or zs j 0 ≡ image l (kid S s j) = λ j g. get_d_tabulate w (λ j. image l (kid S s j)) j 0 g in
          let place : w - i < w = omega (arith, h) in
          let here : get_or zs (w - i) 0 < get_or c.images (w - i) 0 =
          omega (arith, at (w - i) place, ap (image l) (kid-place S s i h), child_chosen s i h.0 h) in
          let above : (j : ℕ) → w - i < j → j < length zs → get_or zs j 0 ≡ get_or c.images j 0 =
          λ j k g. at j (omega arith) ∙ same (kid S s j) (child_of_mono S s (w - j) i h.0 (omega arith) (omega (arith, h)) (omega (arith, h))) ∙ c.kids j (omega arith) in
          omega (arith, pack_less zs c.images (omega arith) (images-small l p a s h.0) (w - i) (omega arith) here above, c.number)

      first : (l : List ℕ) → Embeds S T l → ((s : ℕ) → s < size S → fits s (image l s)) → Before l m → ⊥
      first l p a b =
          let d = difference l m b in
          by_node d.index (omega (arith, d.there, r.long)) d.less d.same
        where
          by_node : (n : ℕ) → n < size S → image l n < image m n → ((i : ℕ) → i < n → image l i ≡ image m i) → ⊥
          by_node zero h less same = omega (arith, r.root)
          by_node (suc n) h less same =
              let q = parent S (suc n) (omega arith) h in
              let before : q.node < suc n = subst (λ (k : ℕ). q.node < k) q.child (child_of_after S q.node q.index q.has) in
              earlier l p a q.node q.index q.has (same q.node before)
              (subst (λ (k : ℕ). image l k < image m k) (sym q.child) less)
              (subst (λ (k : ℕ). (i : ℕ) → i < k → image l i ≡ image m i) (sym q.child) same)

      -- The list read off an open table is the least map whose images are all allowed.
      pub program_least : LeastAllowed m
      program_least = record { embeds = read_embeds; allowed = all_allowed; first = first }

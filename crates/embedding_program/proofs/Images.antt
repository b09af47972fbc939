-- The loops around the table: a node's children by place, the images of one node's children, and all images from the root on. At the end the search's
-- answer agrees with the definition.
use mathlib.Core.Path.{◌≡◌, sym, ap, ◌∙◌, subst}
use mathlib.Core.Logic.{◌≢◌}
use Prim.Native.Nat.{ℕ, zero, suc, ◌+◌, ◌*◌, ◌-◌, ◌/◌, ◌%◌, ◌^◌, ◌≤◌, ◌<◌}
use native.Mathlib.Nat.{not-suc-le-zero, div-one}
use Rattle.std.proofs.lemmas.Nat.{shr-shr}
use native.Mathlib.Decide.{dec_lt, ℕ_discrete}
use native.Mathlib.Omega.{arith}
use mathlib.Core.List.{List, ◌++◌}
use mathlib.Core.Option.{none, some}
use lib.ListN.{length, get_or, set, take, replicate, length-set, length-append, length-replicate, get_or-replicate, get_or-append}
use lib.Seq.{get_or-set_same, get_or-set_other, length-take-le, get_or-take, get_or-append-add, ext_get_or}
use Rattle.base.proofs.Replicate.{get_or_everywhere}
use Rattle.topology.specs.Tree.{Topo, width, size, code}
use Rattle.topology.specs.Address.{subtree, child}
use Rattle.topology.specs.Reader.{tree}
use Rattle.topology.specs.InnerEnds.{Ends}
use Rattle.topology.proofs.Children.{HasChild, child_of_lt, child_of_after, child_of_first, child_of_next, subtree-child_of, parent, parent_unique}
use Rattle.embedding_model.specs.Rules.{image}
use Rattle.embedding_program.specs.InnerSets.{digit, no_images}
use Rattle.embedding_model.specs.Least.{least_map, padded}
use Rattle.embedding_program.specs.InnerTables.{best_by, TreeBytes}
use Rattle.embedding_program.specs.InnerMeaning.{Fits, kid, Truth, ReadOff, ReadTo, KidsOf, Put, Different}
use Rattle.embedding_program.proofs.Program.{has_kid, kid-place, program_none, program_least}
use Rattle.embedding_model.proofs.Least.{least_none, least-is}
use Rattle.embedding_program.proofs.Nodes.{size_bytes, width_byte, end_byte}
use Rattle.embedding_model.specs.InnerLeast.{least}

-- The children of a node, listed from the first, which has the highest place, down to place j; the next is `next`.
pub record Listing (S : Topo) (s j next : ℕ) (kids : List ℕ) : Type 0 where
  pub upto : j ≤ width (subtree S s)
  pub places : length kids ≡ 8
  pub next-is : 0 < j → next ≡ kid S s (j - 1)
  pub at : (i : ℕ) → j ≤ i → i < width (subtree S s) → get_or kids i 0 ≡ kid S s i

module _ (bytes : List ℕ) (d : TreeBytes 32 bytes) (ends : List ℕ) (e : Ends bytes ends) (s : ℕ) (h : s < length bytes) where
  S : Topo
  S = tree bytes

  in_tree : s < size (tree bytes)
  in_tree = omega (arith, size_bytes bytes 32 d)

  pub listing_start : (kids : List ℕ) → length kids ≡ 8 → Listing (tree bytes) s (get_or bytes s 0) (s + 1) kids
  listing_start kids l =
      record {
        upto = omega (arith, w);
        places = l;
        next-is = λ p. first p;
        at = λ i a b. absurd (omega (arith, w));
      }
    where
      w : width (subtree (tree bytes) s) ≡ get_or bytes s 0
      w = width_byte bytes 32 d s h

      first : 0 < get_or bytes s 0 → s + 1 ≡ kid (tree bytes) s (get_or bytes s 0 - 1)
      first p =
          let q : width (subtree (tree bytes) s) - (get_or bytes s 0 - 1) ≡ 1 = omega (arith, w) in
          rw q (omega (arith, child_of_first (tree bytes) s in_tree))

  -- the next child is a source node
  pub listing_node : (j next : ℕ) (kids : List ℕ) → Listing (tree bytes) s j next kids → 0 < j → next < length bytes
  listing_node j next kids c p =
      omega (
        arith,
        c.next-is p,
        child_of_lt (tree bytes) s (width (subtree (tree bytes) s) - (j - 1)) (has_kid (tree bytes) s (j - 1) in_tree (omega (arith, c.upto))),
        size_bytes bytes 32 d,
      )

  pub listing_next : (j next : ℕ) (kids : List ℕ) → Listing (tree bytes) s j next kids → 0 < j
      → Listing (tree bytes) s (j - 1) (get_or ends next 0) (set kids (j - 1) next)
  listing_next j next kids c p =
      record {
        upto = omega (arith, c.upto);
        places = length-set kids (j - 1) next ∙ c.places;
        next-is = λ q. follows q;
        at = λ i a b. here_or_before i a b (ℕ_discrete i (j - 1));
      }
    where
      w : ℕ
      w = width (subtree (tree bytes) s)

      few : w ≤ 8
      few = omega (arith, width_byte bytes 32 d s h, d.few s)

      has : HasChild (tree bytes) s (w - (j - 1))
      has = has_kid (tree bytes) s (j - 1) in_tree (omega (arith, c.upto))

      follows : 0 < j - 1 → get_or ends next 0 ≡ kid (tree bytes) s (j - 1 - 1)
      follows q =
          let is = c.next-is p in
          let i : w - (j - 1 - 1) ≡ suc (w - (j - 1)) = omega (arith, c.upto) in
          let b = end_byte bytes 32 d ends e next (listing_node j next kids c p) in
          let z : size (subtree (tree bytes) next) ≡ size (child (subtree (tree bytes) s) (w - (j - 1))) =
          ap (λ (x : ℕ). size (subtree (tree bytes) x)) is ∙ ap size (subtree-child_of (tree bytes) s (w - (j - 1)) has) in
          rw i (omega (arith, child_of_next (tree bytes) s (w - (j - 1)) has))

      here_or_before : (i : ℕ) → j - 1 ≤ i → i < w → Dec (i ≡ j - 1) → get_or (set kids (j - 1) next) i 0 ≡ kid (tree bytes) s i
      here_or_before i a b (yes q) = rw q (get_or-set_same kids (j - 1) next 0 (omega (arith, c.places, c.upto, few)) ∙ c.next-is p)
      here_or_before i a b (no q) = get_or-set_other kids (j - 1) i next 0 q ∙ c.at i (omega arith) b

-- the digit at place i lies 6 bits further up for each place
digit_shifted : (i v : ℕ) → v / 2 ^ (6 * i) % 64 ≡ digit i v
digit_shifted zero v = ap (λ (n : ℕ). n % 64) (div-one v)
digit_shifted (suc i) v =
    let e : 6 * suc i ≡ 6 + 6 * i = omega arith in
    rw e (ap (λ (n : ℕ). n % 64) (sym (shr-shr v 6 (6 * i))) ∙ digit_shifted i (v / 64))

-- one more image of a child
pub put_next : (kids : List ℕ) (k v : ℕ) → Different kids k → (before : List ℕ) (j : ℕ) (map : List ℕ) → Put kids j v before map → j < k
    → Put kids (j + 1) v before (set map (get_or kids j 0) (v / 2 ^ (6 * j) % 64))
put_next kids k v d before j map c h =
    record {
      places = length-set map (get_or kids j 0) x ∙ c.places;
      put = λ i g. here_or_before i g (ℕ_discrete i j);
      others = λ i f. get_or-set_other map (get_or kids j 0) i x 0 (f j (omega arith)) ∙ c.others i (λ a b. f a (omega arith));
    }
  where
    x : ℕ
    x = v / 2 ^ (6 * j) % 64

    there : get_or kids j 0 < length map
    there = omega (arith, c.places, d.small j h)

    here_or_before : (i : ℕ) → i < j + 1 → Dec (i ≡ j) → get_or (set map (get_or kids j 0) x) (get_or kids i 0) 0 ≡ digit i v
    here_or_before i g (yes q) = rw q (get_or-set_same map (get_or kids j 0) x 0 there ∙ digit_shifted j v)
    here_or_before i g (no q) =
        get_or-set_other map (get_or kids j 0) (get_or kids i 0) x 0 (λ r. q (d.apart i j (omega arith) h r)) ∙ c.put i (omega arith)

digit-small : (i v : ℕ) → digit i v < 64
digit-small zero v = omega arith
digit-small (suc i) v = digit-small i (v / 64)

-- All images, for the children of the source nodes before s.
module _ (bytes : List ℕ) (d : TreeBytes 32 bytes) (best : ℕ → ℕ → ℕ) where
  pub read-start : ReadTo (tree bytes) best 0 (replicate 32 0)
  read-start =
      record {
        places = length-replicate {A = ℕ} 32 0;
        root = get_or_everywhere {A = ℕ} 32 0 0;
        reads = λ s j h g. absurd (not-suc-le-zero h);
        zeros = λ i h. get_or_everywhere {A = ℕ} 32 i 0;
      }

  -- the next node has its image already: a digit, or the root's image
  pub read_small : (s : ℕ) → s < length bytes → (m : List ℕ) → ReadTo (tree bytes) best s m → image m s < 64
  read_small zero h m c = omega (arith, c.root)
  read_small (suc s) h m c =
      let p = parent (tree bytes) (suc s) (omega arith) (omega (arith, size_bytes bytes 32 d)) in
      let w = width (subtree (tree bytes) p.node) in
      let before : p.node < suc s = subst (λ (k : ℕ). p.node < k) p.child (child_of_after (tree bytes) p.node p.index p.has) in
      let is : kid (tree bytes) p.node (w - p.index) ≡ suc s = kid-place (tree bytes) p.node p.index p.has ∙ p.child in
      omega (
        arith,
        ap (image m) is,
        c.reads p.node (w - p.index) before (omega (arith, p.has)),
        digit-small (w - p.index) (best p.node (image m p.node)),
      )

  pub read_next : (s : ℕ) → s < length bytes → (kids : List ℕ) → KidsOf (tree bytes) s kids → (m : List ℕ) → ReadTo (tree bytes) best s m → (after : List ℕ)
      → Put kids (get_or bytes s 0) (best s (image m s)) m after → ReadTo (tree bytes) best (s + 1) after
  read_next s h kids k m c after p =
      record {
        places = p.places;
        root = kept 0 (λ j l e. low j l e) ∙ c.root;
        reads = λ a j g l. here_or_before a j g l (ℕ_discrete a s);
        zeros = λ i g. kept i (λ j l e. high i g j l e) ∙ c.zeros i g;
      }
    where
      S : Topo
      S = tree bytes

      sized : size (tree bytes) ≡ length bytes
      sized = size_bytes bytes 32 d

      w : width (subtree (tree bytes) s) ≡ get_or bytes s 0
      w = width_byte bytes 32 d s h

      has : (a j : ℕ) → a < size (tree bytes) → j < width (subtree (tree bytes) a) → HasChild (tree bytes) a (width (subtree (tree bytes) a) - j)
      has a j g l = has_kid (tree bytes) a j g l

      at : (j : ℕ) → j < get_or bytes s 0 → get_or kids j 0 ≡ kid (tree bytes) s j
      at j l = k.at j (omega (arith, w))

      kept : (i : ℕ) → ((j : ℕ) → j < get_or bytes s 0 → i ≡ kid (tree bytes) s j → ⊥) → image after i ≡ image m i
      kept i f = p.others i (λ j l e. f j l (e ∙ at j l))

      after_s : (j : ℕ) → j < get_or bytes s 0 → s < kid (tree bytes) s j
      after_s j l = child_of_after (tree bytes) s (width (subtree (tree bytes) s) - j) (has s j (omega (arith, sized)) (omega (arith, w)))

      low : (j : ℕ) → j < get_or bytes s 0 → 0 ≡ kid (tree bytes) s j → ⊥
      low j l e = omega (arith, after_s j l)

      high : (i : ℕ) → size (tree bytes) ≤ i → (j : ℕ) → j < get_or bytes s 0 → i ≡ kid (tree bytes) s j → ⊥
      high i g j l e =
          omega (arith, child_of_lt (tree bytes) s (width (subtree (tree bytes) s) - j) (has s j (omega (arith, sized)) (omega (arith, w))))

      same_node : (a : ℕ) → a ≤ s → image after a ≡ image m a
      same_node a g = kept a (λ j l e. not_kid j l e)
        where
          not_kid : (j : ℕ) → j < get_or bytes s 0 → a ≡ kid (tree bytes) s j → ⊥
          not_kid j l e = omega (arith, after_s j l)

      here_or_before : (a j : ℕ) → a < s + 1 → j < width (subtree (tree bytes) a) → Dec (a ≡ s)
          → image after (kid (tree bytes) a j) ≡ digit j (best a (image after a))
      here_or_before a j g l (yes q) =
          subst (λ (b : ℕ). image after (kid (tree bytes) b j) ≡ digit j (best b (image after b))) (sym q)
          (ap (image after) (sym (at j l')) ∙ p.put j l' ∙ ap (λ (x : ℕ). digit j (best s x)) (sym (same_node s (omega arith))))
        where
          l' : j < get_or bytes s 0
          l' = omega (arith, w, ap (λ (b : ℕ). width (subtree (tree bytes) b)) q)
      here_or_before a j g l (no q) =
          kept (kid (tree bytes) a j) (λ i o e. other i o e)
          ∙ c.reads a j (omega arith) l ∙ ap (λ (x : ℕ). digit j (best a x)) (sym (same_node a (omega arith)))
        where
          other : (i : ℕ) → i < get_or bytes s 0 → kid (tree bytes) a j ≡ kid (tree bytes) s i → ⊥
          other i o e =
              q (parent_unique (tree bytes) a (width (subtree (tree bytes) a) - j) s (width (subtree (tree bytes) s) - i)
              (has a j (omega (arith, sized)) l) (has s i (omega (arith, sized)) (omega (arith, w))) e).0

  -- the images of the source nodes, without the padding
  pub read_off : (m : List ℕ) → ReadTo (tree bytes) best (length bytes) m → ReadOff (tree bytes) best (take (length bytes) m)
  read_off m c =
      record {
        long = length-take-le (length bytes) m (omega (arith, c.places, d.fits)) ∙ sym sized;
        root = at 0 d.some ∙ c.root;
        reads = λ s j h g.
            at (kid (tree bytes) s j) (omega (arith, child_of_lt (tree bytes) s (width (subtree (tree bytes) s) - j) (has_kid (tree bytes) s j h g), sized))
            ∙ c.reads s j (omega (arith, sized)) g ∙ ap (λ (x : ℕ). digit j (best s x)) (sym (at s (omega (arith, sized))));
      }
    where
      sized : size (tree bytes) ≡ length bytes
      sized = size_bytes bytes 32 d

      at : (i : ℕ) → i < length bytes → image (take (length bytes) m) i ≡ image m i
      at i h = get_or-take (length bytes) m i 0 h

  pub read-padded : (m : List ℕ) → ReadTo (tree bytes) best (length bytes) m → m ≡ padded (some (take (length bytes) m))
  read-padded m c = ext_get_or 0 m (l ++ replicate (32 - length l) 0) both (λ i h. by_place i h (dec_lt i (length bytes)))
    where
      l : List ℕ
      l = take (length bytes) m

      long : length l ≡ length bytes
      long = length-take-le (length bytes) m (omega (arith, c.places, d.fits))

      both : length m ≡ length (l ++ replicate (32 - length l) 0)
      both = omega (arith, c.places, length-append l (replicate (32 - length l) 0), length-replicate {A = ℕ} (32 - length l) 0, long, d.fits)

      by_place : (i : ℕ) → i < length m → Dec (i < length bytes) → get_or m i 0 ≡ get_or (l ++ replicate (32 - length l) 0) i 0
      by_place i h (yes g) =
          sym (get_or-append l (replicate (32 - length l) 0) 0 i (omega (arith, long)) ∙ get_or-take (length bytes) m i 0 g)
      by_place i h (no g) =
          let z : length l + (i - length l) ≡ i = omega (arith, long) in
          c.zeros i (omega (arith, size_bytes bytes 32 d))
          ∙ sym (ap (λ (x : ℕ). get_or (l ++ replicate (32 - length l) 0) x 0) (sym z)
          ∙ get_or-append-add l (replicate (32 - length l) 0) (i - length l) 0
          ∙ get_or-replicate (32 - length l) (i - length l) 0 0 (omega (arith, long, c.places)))

-- The search's answers for a source that is no lone leaf: if the table is shut at the roots, there is no map; else the list read off is the least map.
module _ (source target : List ℕ) (d : TreeBytes 32 source) (e : TreeBytes 64 target) (best : List ℕ)
    (truth : Truth (tree source) (tree target) (best_by best) 0) (inner : width (tree source) ≢ 0) where
  small : size (tree target) ≤ 64
  small = omega (arith, size_bytes target 64 e, e.fits)

  few : (s : ℕ) → s < size (tree source) → width (subtree (tree source) s) ≤ 8
  few s h = omega (arith, width_byte source 32 d s (omega (arith, size_bytes source 32 d)), d.few s)

  by_bytes : least (tree source) (tree target) ≡ least_map source target
  by_bytes = ap (λ (s : List ℕ). least_map s (code (tree target))) d.is ∙ ap (least_map source) e.is

  pub found_none : no_images ≤ best_by best 0 0 → least_map source target ≡ none
  found_none h =
      sym by_bytes ∙ (least_none (tree source) (tree target)).1 (λ l p. program_none (tree source) (tree target) inner (Fits (tree source) (tree target)) (λ a b f. f) small few (best_by best) truth h l p p.leaf)

  pub found_list : best_by best 0 0 < no_images → (m : List ℕ) → ReadTo (tree source) (best_by best) (length source) m
      → (least_map source target ≡ some (take (length source) m)) × (m ≡ padded (least_map source target))
  found_list h m r =
      let l = take (length source) m in
      let a = program_least (tree source) (tree target) inner (Fits (tree source) (tree target)) (λ a b f. f) small few (best_by best) truth l
      (read_off source d (best_by best) m r) h in
      let f : least_map source target ≡ some l =
      sym by_bytes ∙ least-is (tree source) (tree target) l
      (record { embeds = a.embeds; first = λ k p b. a.first k p p.leaf b }) in
      (f, read-padded source d (best_by best) m r ∙ ap padded (sym f))

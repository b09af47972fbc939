-- The loops that fill the table `best`: one source node's entries, then all source nodes from the last to the first. What the code's lists contain is
-- restated for the two trees that the bytes draw.
use mathlib.Core.Path.{◌≡◌, refl, sym, ap, ◌∙◌, subst}
use mathlib.Core.Logic.{◌≢◌}
use Prim.Native.Nat.{ℕ, zero, suc, ◌+◌, ◌*◌, ◌-◌, ◌≤◌, ◌<◌}
use native.Mathlib.Decide.{dec_lt, ℕ_discrete}
use native.Mathlib.Omega.{arith}
use mathlib.Core.List.{List}
use mathlib.Core.Bool.{true, false}
use lib.ListN.{length, get_or, take, replicate, length-replicate, get_or-replicate, get_or-eq_default}
use lib.Seq.{get_or-take, length-take-le}
use Rattle.topology.specs.Tree.{Topo, width, size}
use Rattle.topology.specs.Address.{subtree}
use Rattle.topology.specs.Reader.{tree}
use Rattle.topology.specs.Branch.{branch_end}
use Rattle.topology.specs.InnerEnds.{Ends}
use Rattle.topology.proofs.Ancestry.{subtree_end}
use Rattle.topology.proofs.Children.{HasChild, child_of_lt, child_of_after, parent_unique}
use Rattle.topology.proofs.Decoding.{length_code, byte_width}
use Rattle.topology.proofs.Lookup.{end_code}
use Rattle.embedding_program.specs.InnerSets.{no_images}
use Rattle.embedding_program.specs.InnerPlacing.{Member, Placed}
use Rattle.embedding_program.specs.InnerTables.{best_by, can_by, end_by, BranchOf, TreeBytes}
use Rattle.embedding_program.specs.InnerMeaning.{end, kid, full, Fits, PlacedAt, BestEntry, Truth, KidsOf, PlacedBy, EntryBy, BestEntryBy, reach_by, RowPut, Different}
use Rattle.embedding_program.proofs.Placing.{placed-map}
use Rattle.embedding_program.proofs.Local.{end_after, end_within}
use Rattle.embedding_program.proofs.Program.{has_kid, entry-map}

module _ (best kids ends : List ℕ) where
  -- one entry: rule 3 forbids it, or it is the least placing of the children
  pub entry_shut : (w t : ℕ) → ((length kids ≡ 0 → w ≡ 0) → ⊥) → BestEntryBy best kids ends w t no_images
  entry_shut w t n =
      record { bound = omega arith; lower = λ k ys q. absurd (n k); fits = λ h. absurd (omega arith); attained = λ h. absurd (omega arith) }

  -- no node is below a leaf
  pub entry-leaf : (w t : ℕ) → length kids ≢ 0 → end_by ends t ≡ t + 1 → BestEntryBy best kids ends w t no_images
  entry-leaf w t d e =
      record {
        bound = omega arith;
        lower = λ k ys q. absurd (omega (arith, q.from 0 first, q.to 0 first));
        fits = λ h. absurd (omega arith);
        attained = λ h. absurd (omega arith);
      }
    where
      first : Member (replicate (length kids) true) 0
      first = get_or-replicate (length kids) 0 true false (omega arith)

pub entry-unbounded : (best kids ends : List ℕ) (w t v : ℕ) → BestEntryBy best kids ends w t v → EntryBy best kids ends w t v
entry-unbounded best kids ends w t v b = record { lower = b.lower; fits = b.fits; attained = b.attained }

-- the target nodes that a source node may go to
pub reach-within : (s n : ℕ) → 0 < n → reach_by s n ≤ n
reach-within zero n h = h
reach-within (suc s) n h = omega arith

in_reach : (s t n : ℕ) → t < n → (s ≡ 0 → t ≡ 0) → t < reach_by s n
in_reach zero t n l r = omega (arith, r refl)
in_reach (suc s) t n l r = l

-- The trees that the bytes draw.
module _ (bytes : List ℕ) (limit : ℕ) (d : TreeBytes limit bytes) where
  pub size_bytes : size (tree bytes) ≡ length bytes
  size_bytes = sym (length_code (tree bytes)) ∙ ap length d.is

  pub width_byte : (s : ℕ) → s < length bytes → width (subtree (tree bytes) s) ≡ get_or bytes s 0
  width_byte s h = sym (byte_width (tree bytes) s (omega (arith, size_bytes))) ∙ ap (λ (l : List ℕ). get_or l s 0) d.is

  pub end_byte : (ends : List ℕ) → Ends bytes ends → (x : ℕ) → x < length bytes → end_by ends x ≡ end (tree bytes) x
  end_byte ends e x h =
      e.at x h ∙ ap (λ (l : List ℕ). branch_end l x) (sym d.is) ∙ end_code (tree bytes) x (omega (arith, size_bytes))

  pub branch_of : (ends : List ℕ) → Ends bytes ends → (t : ℕ) → t < length bytes → BranchOf ends t
  branch_of ends e t h =
      record {
        here = omega (arith, at t h, end_after T t);
        grows = λ x g. omega (arith, at x (inside x g), end_after T x);
        nested = λ x l g. omega (arith, at x (inside x g), at t h, end_within T t x t_in (omega arith) (omega (arith, at t h)));
      }
    where
      T : Topo
      T = tree bytes

      t_in : t < size T
      t_in = omega (arith, size_bytes)

      at : (x : ℕ) → x < length bytes → end_by ends x ≡ end T x
      at x g = end_byte ends e x g

      inside : (x : ℕ) → x < end_by ends t → x < length bytes
      inside x g = omega (arith, at t h, subtree_end T t t_in, size_bytes)

  -- the listed children of a node
  module _ (s : ℕ) (h : s < length bytes) (kids : List ℕ) (k : KidsOf (tree bytes) s kids) where
    has : (j : ℕ) → j < get_or bytes s 0 → HasChild (tree bytes) s (width (subtree (tree bytes) s) - j)
    has j l = has_kid (tree bytes) s j (omega (arith, size_bytes)) (omega (arith, width_byte s h))

    pub kids-small : (j : ℕ) → j < get_or bytes s 0 → get_or kids j 0 < limit
    kids-small j l =
        omega (arith, k.at j (omega (arith, width_byte s h)), child_of_lt (tree bytes) s (width (subtree (tree bytes) s) - j) (has j l), size_bytes, d.fits)

    pub kids_differ : (i j : ℕ) → i < get_or bytes s 0 → j < get_or bytes s 0 → get_or kids i 0 ≡ get_or kids j 0 → i ≡ j
    kids_differ i j l g e =
        let w = width_byte s h in
        let q = parent_unique (tree bytes) s (width (subtree (tree bytes) s) - i) s (width (subtree (tree bytes) s) - j) (has i l) (has j g)
        (sym (k.at i (omega arith)) ∙ e ∙ k.at j (omega arith)) in
        omega (arith, q.1)

-- the children of source node s, and no more
pub record Listed (bytes : List ℕ) (s : ℕ) (kids : List ℕ) : Type 0 where
  pub long : length kids ≡ get_or bytes s 0
  pub few : length kids ≤ 8
  pub small : (j : ℕ) → get_or kids j 0 < 32
  pub are : KidsOf (tree bytes) s kids
  pub differ : Different kids (length kids)

-- the first entries of a table of children with 8 places
pub listed : (bytes : List ℕ) → TreeBytes 32 bytes → (s : ℕ) → s < length bytes → (kids : List ℕ) → KidsOf (tree bytes) s kids → length kids ≡ 8
    → (w : ℕ) → w ≡ get_or bytes s 0 → Listed bytes s (take w kids)
listed bytes d s h kids k places w e =
    record {
      long = long;
      few = omega (arith, d.few s, long);
      small = λ j. by_place j (dec_lt j w);
      are = are;
      differ = record {
        few = omega (arith, d.few s, long);
        small = λ j l. by_place j (dec_lt j w);
        apart = λ i j l g. kids_differ bytes 32 d s h (take w kids) are i j (omega (arith, long)) (omega (arith, long));
      };
    }
  where
    long : length (take w kids) ≡ get_or bytes s 0
    long = length-take-le w kids (omega (arith, d.few s)) ∙ e

    are : KidsOf (tree bytes) s (take w kids)
    are = record { at = λ j g. get_or-take w kids j 0 (omega (arith, width_byte bytes 32 d s h)) ∙ k.at j g }

    by_place : (j : ℕ) → Dec (j < w) → get_or (take w kids) j 0 < 32
    by_place j (yes l) = kids-small bytes 32 d s h (take w kids) are j (omega arith)
    by_place j (no l) = omega (arith, get_or-eq_default (take w kids) 0 {n = j} (omega (arith, long)))

module _ (source target : List ℕ) (d : TreeBytes 32 source) (e : TreeBytes 64 target) (ends : List ℕ) (n : Ends target ends) where
  S : Topo
  S = tree source

  T : Topo
  T = tree target

  -- no source node is behind the last
  pub table-start : (best : List ℕ) → Truth (tree source) (tree target) (best_by best) (length source)
  table-start best s t l h g r = absurd (omega (arith, size_bytes source 32 d))

  -- one more source node
  pub table_next : (n s : ℕ) → n ≤ s + 1 → s < length source → (kids : List ℕ) → KidsOf (tree source) s kids
      → length kids ≡ get_or source s 0 → (before best row : List ℕ)
      → ((t : ℕ) → t < reach_by s (length target) → EntryBy before kids ends (get_or target t 0) t (get_or row t 0))
      → RowPut before s (reach_by s (length target)) row best
      → Truth (tree source) (tree target) (best_by before) n → Truth (tree source) (tree target) (best_by best) s
  unfolding S T
  table_next m s close h kids k long before best row entries put truth a t l g i root = by_node (ℕ_discrete a s)
    where
      sized : size S ≡ length source
      sized = size_bytes source 32 d

      t_in : t < length target
      t_in = omega (arith, size_bytes target 64 e)

      behind : (b x : ℕ) → s < b → best_by before b x ≡ best_by best b x
      behind b x q = sym (put.others (b * 64 + x) (omega arith))

      w_s : width (subtree S s) ≡ length kids
      w_s = width_byte source 32 d s h ∙ sym long

      at-end : (x : ℕ) → x < end_by ends t → end_by ends x ≡ end T x
      at-end x q =
          end_byte target 64 e ends n x (omega (arith, end_byte target 64 e ends n t t_in, subtree_end T t i, size_bytes target 64 e))

      in_full : (j : ℕ) → j < length (full S s) → j < width (subtree S s)
      in_full j q = omega (arith, length-replicate (width (subtree S s)) true)

      kid-row : (j x : ℕ) → j < width (subtree S s) → best_by before (get_or kids j 0) x ≡ best_by best (kid S s j) x
      kid-row j x q =
          ap (λ (b : ℕ). best_by before b x) (k.at j q) ∙ behind (kid S s j) x (child_of_after S s (width (subtree S s) - j) (has_kid S s j (omega arith) q))

      by_list : (c : ℕ) → c ≡ width (subtree S s) → (hi : ℕ) → hi ≡ end T t → hi ≡ end_by ends t → (ys : List ℕ)
          → Placed (can_by before kids) (end_by ends) hi (replicate c true) (t + 1) ys → PlacedAt S T (best_by best) s t ys
      by_list c ec hi eh eq ys q =
          placed-map (can_by before kids) (λ j x. best_by best (kid S s j) x < no_images) (end_by ends) (end T) (end T t) (full S s) (t + 1) ys
          (λ j x l r o. rw (← kid-row j x (in_full j l)) o) (λ x r. at-end x (omega arith))
          (subst (λ (z : ℕ). Placed (can_by before kids) (end_by ends) (end T t) (replicate z true) (t + 1) ys) ec
          (subst (λ (z : ℕ). Placed (can_by before kids) (end_by ends) z (replicate c true) (t + 1) ys) eh q))

      by_tree : (ys : List ℕ) → PlacedAt S T (best_by best) s t ys → PlacedBy before kids ends t ys
      by_tree ys q =
          subst (λ (z : ℕ). Placed (can_by before kids) (end_by ends) (end_by ends t) (replicate z true) (t + 1) ys) w_s
          (subst (λ (z : ℕ). Placed (can_by before kids) (end_by ends) z (full S s) (t + 1) ys) (sym hi)
          (placed-map (λ j x. best_by best (kid S s j) x < no_images) (can_by before kids) (end T) (end_by ends) (end T t) (full S s) (t + 1) ys
          (λ j x l r o. rw (kid-row j x (in_full j l)) o) (λ x r. sym (at-end x (omega (arith, hi)))) q))
        where
          hi : end_by ends t ≡ end T t
          hi = end_byte target 64 e ends n t t_in

      here : (s ≡ 0 → t ≡ 0) → BestEntry S T (Fits S T) (best_by best) s t (best_by best s t)
      here r =
          let b : EntryBy before kids ends (get_or target t 0) t (best_by best s t) =
          let near = in_reach s t (length target) t_in r in
          rw (put.here t near) (entries t near) in
          let w_t : width (subtree T t) ≡ get_or target t 0 = width_byte target 64 e t t_in in
          let hi : end_by ends t ≡ end T t = end_byte target 64 e ends n t t_in in
          record {
            lower = λ f ys q. b.lower (λ z. sym w_t ∙ f (w_s ∙ z)) ys (by_tree ys q);
            allowed = λ v z. w_t ∙ b.fits v (sym w_s ∙ z);
            attained = λ v. (
              (b.attained v).0,
              by_list (length kids) (sym w_s) (end_by ends t) hi refl (b.attained v).0 (b.attained v).1,
              (b.attained v).2,
            );
          }

      by_node : Dec (a ≡ s) → BestEntry S T (Fits S T) (best_by best) a t (best_by best a t)
      by_node (yes q) = subst (λ (b : ℕ). BestEntry S T (Fits S T) (best_by best) b t (best_by best b t)) (sym q) (here (λ z. root (q ∙ z)))
      by_node (no q) =
          let later : s < a = omega arith in
          subst (BestEntry S T (Fits S T) (best_by best) a t) (behind a t later)
          (entry-map S T (Fits S T) (best_by before) (best_by best) a t (best_by before a t) i
          (λ j x r o. behind (kid S a j) x (deeper j r later))
          (truth a t (omega arith) g i root))
        where
          deeper : (j : ℕ) → j < width (subtree S a) → s < a → s < kid S a j
          deeper j r later = omega (arith, child_of_after S a (width (subtree S a) - j) (has_kid S a j g r))

-- What the misfit is, for two trees. A map sends each node where it may go (`goes_there`), and the branch under the node into the branch under the
-- node's image. So a branch that fits nowhere leaves no map (`enough`). Where there is no map, the top node's own branch fits nowhere, since the top
-- node may go to the root only. So there is a misfit exactly where the search answers 12 (`misfit_is`).
--
-- The laws about maps are those of the reduced drawing: its nodes are the places of the kept nodes, and the branch of a place is the node's branch,
-- reduced.
use mathlib.Core.Path.{◌≡◌, refl, sym, ap, ◌∙◌, subst}
use mathlib.Core.Logic.{◌≢◌}
use Prim.Native.Nat.{ℕ, ◌≤◌, ◌<◌}
use native.Mathlib.Decide.{ℕ_discrete}
use native.Mathlib.Omega.{arith}
use mathlib.Core.List.{List, [], ◌∷◌}
use mathlib.Core.Bool.{Bool, true, false, false≢true, not, ◌&&◌, cond}
use lib.ListN.{length, get_or}
use lib.Dec.{eqb, leb}
use borrow.Author.Tests.{eq-eqb, ne_eqb, eqb-true, eqb-false, leb-true, le-leb, not-true}
use Rattle.std.proofs.lemmas.Bool.{and_parts}
use Rattle.base.proofs.Tests.{and_both, all_below, below_all}
use Rattle.topology.specs.Tree.{Topo, fnil, fcons, width, size, code}
use Rattle.topology.specs.Tree.{node as tree_node}
use Rattle.topology.specs.Address.{Addr, addr, num, sub, subtree}
use Rattle.topology.specs.Address.{depth as address_depth}
use Rattle.topology.specs.Reader.{fault, tree}
use Rattle.topology.specs.Branch.{branch_part}
use Rattle.topology.proofs.Numbering.{addr_root, num-addr}
use Rattle.topology.proofs.Decoding.{tree_code, length_code, byte_width}
use Rattle.topology.proofs.Reader.{accepts, drawn, within, fault_wider}
use Rattle.topology.proofs.Lookup.{part_code, valid_size}
use Rattle.topology_reduction.specs.Kept.{Kept, top}
use Rattle.topology_reduction.specs.Reduced.{reduced, restricted, spread}
use Rattle.topology_reduction.specs.InnerNodes.{place}
use Rattle.topology_reduction.proofs.Kept.{top_in, top_kept}
use Rattle.topology_reduction.proofs.Reduced.{size_reduced, place_lt, place-subtree}
use Rattle.topology_reduction.proofs.Spread.{spread-kept}
use Rattle.topology_places.specs.Places.{depth}
use Rattle.topology_places.proofs.Addresses.{depth_is}
use Rattle.topology_places.proofs.Passes.{last_of_lem}
use Rattle.embedding_model.specs.Rules.{image, Passes, Embeds}
use Rattle.embedding_model.specs.Least.{search_fault}
use Rattle.embedding_model.proofs.LoneLeaf.{leaf_code}
use Rattle.embedding_model.proofs.Passes.{top-place, embeds_passes, passes_reduced}
use Rattle.embedding_model.proofs.Search.{search-twelve, search_found, lone_loads, search-map}
use Rattle.embedding_diagnosis.specs.Misfit.{is_kept, kept_above, may_go, fits_at, fits_nowhere, misfit, FitsNowhere, Misfit}
use Rattle.embedding_diagnosis.proofs.Branches.{branch_map, branch_embeds, image-depth, branch-within}
use Rattle.embedding_diagnosis.proofs.KeptAbove.{kept_above_lem}

-- ---- where a node may go

module _ (above : ℕ) (target : List ℕ) (t : ℕ) where
  pub may_to : (above ≡ 0 → t ≡ 0) → above ≤ depth target t → may_go above target t ≡ true
  unfolding may_go
  may_to r d = by_top (ℕ_discrete above 0)
    where
      by_top : Dec (above ≡ 0) → cond (eqb above 0) (eqb t 0) (leb above (depth target t)) ≡ true
      by_top (yes e) = rw (eq-eqb above 0 e) (eq-eqb t 0 (r e))
      by_top (no n) = rw (ne_eqb above 0 n) (le-leb above (depth target t) d)

  pub may_depth : may_go above target t ≡ true → above ≤ depth target t
  unfolding may_go
  may_depth e = by_top (ℕ_discrete above 0)
    where
      by_top : Dec (above ≡ 0) → above ≤ depth target t
      by_top (yes z) = omega arith
      by_top (no n) = leb-true above (depth target t) (rw (ne_eqb above 0 n) at e)

  pub may_top : above ≡ 0 → may_go above target t ≡ true → t ≡ 0
  unfolding may_go
  may_top z e = eqb-true t 0 (rw (eq-eqb above 0 z) at e)

-- ---- the branches of two trees

root_subtree : (t : Topo) → subtree t 0 ≡ t
root_subtree t = ap (sub t) (addr_root t)

module _ (source target : List ℕ) (hs : fault 32 source ≡ 0) (ht : fault 64 target ≡ 0) where
  abbrev S : Topo
  S = tree source

  abbrev T : Topo
  T = tree target

  module _ (s t : ℕ) (ls : s < length source) (lt : t < length target) where
    pub drawing : branch_part source s ≡ code (subtree S s)
    drawing = part_code source s (fault_wider 32 64 source (omega arith) hs) ls

    pub chip : branch_part target t ≡ code (subtree T t)
    chip = part_code target t ht lt

    drawing-fault : fault 32 (branch_part source s) ≡ 0
    drawing-fault =
        ap (fault 32) drawing ∙ accepts 32 (subtree S s) (branch-within 32 S s (omega (arith, valid_size 32 source hs)) (within 32 source hs))

    chip-fault : fault 64 (branch_part target t) ≡ 0
    chip-fault =
        ap (fault 64) chip ∙ accepts 64 (subtree T t) (branch-within 64 T t (omega (arith, valid_size 64 target ht)) (within 64 target ht))

    drawing-tree : tree (branch_part source s) ≡ subtree S s
    drawing-tree = ap tree drawing ∙ tree_code (subtree S s)

    chip-tree : tree (branch_part target t) ≡ subtree T t
    chip-tree = ap tree chip ∙ tree_code (subtree T t)

    fits_not : fits_at source target s t ≡ false → (l : List ℕ) → Passes (subtree S s) (subtree T t) l → ⊥
    unfolding fits_at
    fits_not e l p =
        eqb-false _ _ e (search_found (branch_part source s) (branch_part target t) drawing-fault chip-fault l (rw (drawing-tree, chip-tree) p))

    fits_some : fits_at source target s t ≡ true → ((l : List ℕ) → Passes (subtree S s) (subtree T t) l → ⊥) → ⊥
    unfolding fits_at
    fits_some e n =
        let m = search-map (branch_part source s) (branch_part target t) drawing-fault chip-fault (eqb-true _ _ e) in
        n m.0 (rw (← drawing-tree, ← chip-tree) m.1.passes)

    -- a leaf fits every branch, since every branch has a leaf
    pub leaf-fits : get_or source s 0 ≡ 0 → ((l : List ℕ) → Passes (subtree S s) (subtree T t) l → ⊥) → ⊥
    unfolding fits_at
    leaf-fits z =
        fits_some (eq-eqb _ 0
        (lone_loads (branch_part source s) (branch_part target t) drawing-fault chip-fault
        (ap (λ (u : Topo). width (reduced u)) drawing-tree ∙ alone (subtree S s) leaf)))
      where
        leaf : width (subtree S s) ≡ 0
        leaf = sym (byte_width S s (omega (arith, valid_size 32 source hs))) ∙ ap (λ (b : List ℕ). get_or b s 0) (drawn 32 source hs) ∙ z

        alone : (u : Topo) → width u ≡ 0 → width (reduced u) ≡ 0
        alone (tree_node fnil) e = refl
        alone (tree_node (fcons u us)) e = absurd (omega arith)

  -- the test says what it should
  module _ (s : ℕ) (ls : s < length source) where
    pub nowhere_from : fits_nowhere source target s ≡ true → FitsNowhere source target s
    unfolding fits_nowhere
    nowhere_from e t lt g =
        let q : may_go (kept_above source s) target t && fits_at source target s t ≡ false =
        not-true _ (all_below (length target) (λ t. not (may_go (kept_above source s) target t && fits_at source target s t)) e t lt) in
        fits_not s t ls lt (rw g at q)

    pub nowhere_to : FitsNowhere source target s → fits_nowhere source target s ≡ true
    unfolding fits_nowhere
    nowhere_to n = below_all (length target) (λ t. not (may_go (kept_above source s) target t && fits_at source target s t)) each
      where
        by_both : (a b : Bool) → (a ≡ true → b ≡ true → ⊥) → not (a && b) ≡ true
        by_both false b f = refl
        by_both true false f = refl
        by_both true true f = absurd (f refl refl)

        each : (t : ℕ) → t < length target → not (may_go (kept_above source s) target t && fits_at source target s t) ≡ true
        each t lt =
            by_both (may_go (kept_above source s) target t) (fits_at source target s t) (λ a b. fits_some s t ls lt b (n t lt a))

  -- ---- a kept node and its place in the reduced drawing

  abbrev R : Topo
  R = reduced S

  module _ (s : ℕ) (ls : s < length source) (k : get_or source s 0 ≢ 1) where
    node : s < size S
    node = omega (arith, valid_size 32 source hs)

    kept : Kept S s
    kept w = k (ap (λ (b : List ℕ). get_or b s 0) (sym (drawn 32 source hs)) ∙ byte_width S s node ∙ w)

    abbrev p : ℕ
    p = place (code S) s

    above_is : kept_above source s ≡ address_depth R p
    above_is = ap (λ (b : List ℕ). kept_above b s) (sym (drawn 32 source hs)) ∙ kept_above_lem S s node kept

    -- only the root has no node above it
    top_only : kept_above source s ≡ 0 → p ≡ 0
    top_only z = sym (num-addr R p (place_lt S s node)) ∙ ap (num R) (none (addr R p) (sym above_is ∙ z))
      where
        none : (a : Addr) → length a ≡ 0 → a ≡ []
        none [] e = refl
        none (x ∷ a) e = absurd (omega arith)

    -- A map sends each node where it may go, unless the reduced drawing is a lone leaf.
    module _ (m : List ℕ) (P : Passes S T m) where
      abbrev l : List ℕ
      l = restricted (code S) m

      E : Embeds R T l
      E = (passes_reduced S T m P).1

      image_is : image m s ≡ image l p
      image_is =
          ap (λ (x : List ℕ). image x s) (sym (passes_reduced S T m P).0)
          ∙ spread-kept (code S) l s (omega (arith, node, length_code S)) (λ e. kept (sym (byte_width S s node) ∙ e)) (E.long ∙ size_reduced S)

      image_in : image m s < length target
      image_in = omega (arith, P.within s node kept, valid_size 64 target ht)

      pub goes_there : width R ≢ 0 → may_go (kept_above source s) target (image m s) ≡ true
      goes_there w =
          may_to (kept_above source s) target (image m s) (λ z. image_is ∙ ap (image l) (top_only z) ∙ E.root w)
          (omega (
            arith,
            above_is,
            image-depth R T l E p (place_lt S s node),
            ap (address_depth T) image_is,
            depth_is 64 target ht (image m s) image_in,
          ))

      -- and its branch into the branch under the image
      branch_passes : (t : ℕ) (b : List ℕ) → Embeds (subtree R p) (subtree T t) b → Passes (subtree S s) (subtree T t) (spread (code (subtree S s)) b)
      branch_passes t b e =
          let f = subst (λ (u : Topo). Embeds u (subtree T t) b) (place-subtree S s node) e in
          embeds_passes (subtree S s) (subtree T t) b f.long f

      fits_somewhere : FitsNowhere source target s → ⊥
      fits_somewhere n = by_width (ℕ_discrete (width R) 0)
        where
          by_width : Dec (width R ≡ 0) → ⊥
          by_width (no w) =
              n (image m s) image_in (goes_there w) _
              (branch_passes (image m s) (branch_map R T l E p (place_lt S s node))
              (subst (λ (t : ℕ). Embeds (subtree R p) (subtree T t) (branch_map R T l E p (place_lt S s node))) (sym image_is)
              (branch_embeds R T l E p (place_lt S s node))))
          by_width (yes w) =
              let one : size R ≡ 1 = sym (length_code R) ∙ ap length (leaf_code R w) in
              let first : p ≡ 0 = omega (arith, place_lt S s node) in
              let level : kept_above source s ≡ 0 = above_is ∙ ap (address_depth R) first ∙ ap length (addr_root R) in
              let whole : Embeds (subtree R p) (subtree T 0) l =
              subst (λ (U : Topo). Embeds U (subtree T 0) l) (sym (ap (subtree R) first ∙ root_subtree R))
              (subst (λ (U : Topo). Embeds R U l) (sym (root_subtree T)) E) in
              n 0 (omega (arith, image_in)) (may_to (kept_above source s) target 0 (λ z. refl) (omega (arith, level))) _ (branch_passes 0 l whole)

    pub enough : fits_nowhere source target s ≡ true → search_fault source target ≡ 12
    enough e = (search-twelve source target hs ht).1 (λ m P. fits_somewhere m P (nowhere_from s ls e))

  -- ---- the misfit

  top_there : top S < length source
  top_there = omega (arith, top_in S, valid_size 32 source hs)

  top_byte : get_or source (top S) 0 ≢ 1
  top_byte e = top_kept S (sym (byte_width S (top S) (top_in S)) ∙ ap (λ (b : List ℕ). get_or b (top S) 0) (drawn 32 source hs) ∙ e)

  top_nowhere : ((m : List ℕ) → Passes S T m → ⊥) → FitsNowhere source target (top S)
  top_nowhere n t lt g l q =
      let level : kept_above source (top S) ≡ 0 =
      above_is (top S) top_there top_byte ∙ ap (address_depth R) (top-place S) ∙ ap length (addr_root R) in
      let first : t ≡ 0 = may_top (kept_above source (top S)) target t level g in
      let e = (passes_reduced (subtree S (top S)) (subtree T t) l q).1 in
      let r : reduced (subtree S (top S)) ≡ R = sym (place-subtree S (top S) (top_in S)) ∙ ap (subtree R) (top-place S) ∙ root_subtree R in
      let k : List ℕ = restricted (code (subtree S (top S))) l in
      let f = subst (λ (U : Topo). Embeds U (subtree T t) k) r e in
      let whole = subst (λ (U : Topo). Embeds R U k) (ap (subtree T) first ∙ root_subtree T) f in
      n (spread (code S) k) (embeds_passes S T k whole.long whole)

  kept_test : (s : ℕ) → is_kept source s ≡ true → get_or source s 0 ≢ 1
  unfolding is_kept
  kept_test s e = eqb-false (get_or source s 0) 1 (not-true _ e)

  test_kept : (s : ℕ) → get_or source s 0 ≢ 1 → is_kept source s ≡ true
  unfolding is_kept
  test_kept s n = rw (ne_eqb (get_or source s 0) 1 n) refl

  pub misfit_is : search_fault source target ≡ 12 → Misfit source target (misfit source target)
  unfolding misfit
  misfit_is e =
      let none = (search-twelve source target hs ht).0 e in
      let test : ℕ → Bool = λ s. is_kept source s && fits_nowhere source target s in
      let found = last_of_lem test (length source) (top S) top_there
      (and_both (test_kept (top S) top_byte) (nowhere_to (top S) top_there (top_nowhere none))) in
      let parts = and_parts _ _ found.passes in
      record {
        there = found.there;
        kept = kept_test _ parts.0;
        nowhere = nowhere_from _ found.there parts.1;
        later = λ d g h k n. false≢true (sym (found.later d g h) ∙ and_both (test_kept d k) (nowhere_to d h n));
      }

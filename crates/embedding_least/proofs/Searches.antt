-- The search's answers, one law for each. Bytes that were read are the code of a tree within the limits. Whether there are images, and which, follows
-- from the table or, for a lone leaf, from the first leaf of the target. A refusal of the reader comes first.
use mathlib.Core.Path.{◌≡◌, refl, sym, ap, ◌∙◌, subst}
use mathlib.Core.Logic.{◌≢◌}
use Prim.Native.Nat.{ℕ, zero, suc, ◌≤◌, ◌<◌}
use native.Mathlib.Decide.{dec_lt}
use native.Mathlib.Omega.{arith}
use mathlib.Core.List.{List, [], ◌∷◌}
use mathlib.Core.Option.{Option, none, some}
use lib.ListN.{length, get_or, take, get_or-eq_default}
use Rattle.base.specs.Refusals.{or_else}
use Rattle.base.proofs.Refusals.{or_else_none}
use Rattle.topology.specs.Tree.{width, size}
use Rattle.topology.specs.Address.{Addr, sub, addr}
use Rattle.topology.specs.Reader.{fault, tree}
use Rattle.topology.proofs.Numbering.{addr_in, addr_root}
use Rattle.topology.proofs.Ancestry.{in_breadth, size_pos}
use Rattle.topology.proofs.Decoding.{length_code, byte_width}
use Rattle.topology.proofs.Reader.{drawn, within}
use Rattle.topology_reduction.specs.Reduced.{restricted, spread, kept_bytes, in32}
use Rattle.topology_reduction.proofs.Limits.{kept-fault}
use Rattle.topology_reduction.proofs.RestrictLoop.{restrict-held}
use Rattle.topology_reduction.proofs.SpreadOut.{spread_out_held}
use Rattle.embedding_program.specs.InnerSets.{no_images}
use Rattle.embedding_model.specs.Least.{least_map, least_of, padded, search_fault, search_map}
use Rattle.embedding_program.specs.InnerTables.{best_by, TreeBytes}
use Rattle.embedding_program.specs.InnerMeaning.{Truth, ReadTo}
use Rattle.embedding_program.proofs.Images.{found_none, found_list}
use Rattle.embedding_model.proofs.LoneLeaf.{leaf_code, first_leaf_in, lone_least}
use Rattle.embedding_model.proofs.Search.{found_long}
use Rattle.embedding_trees.specs.Trees.{trees_fault}
use Rattle.embedding_trees.proofs.TreesFault.{tree-fits}
use Rattle.embedding_least.specs.InnerImages.{in_places}
use Rattle.std.specs.Prelude.{Result, Some, None, Ok, Err}
use Rattle.std.specs.Option.{ok_or}
use Rattle.refusal.specs.Numbers.{number, number_of}
use Rattle.refusal.specs.declared.Refusal.{Refusal}
use Rattle.refusal.specs.declared.Refusal.TheVariants.{NoMap}
use Rattle.refusal.proofs.Numbers.{refused_first}
use Rattle.embedding_least.specs.Answers.{Searches}
use Rattle.embedding_model.specs.FirstLeaf.{first_leaf}

draws : (limit : ℕ) (bytes : List ℕ) → fault limit bytes ≡ 0 → TreeBytes limit bytes
draws limit bytes z =
    let f = tree-fits limit bytes z in
    record { is = drawn limit bytes z; some = f.0; fits = f.1; few = λ n. by_node n (dec_lt n (length bytes)) }
  where
    by_node : (n : ℕ) → Dec (n < length bytes) → get_or bytes n 0 ≤ 8
    by_node n (yes h) =
        let is = drawn limit bytes z in
        let l : n < size (tree bytes) = omega (arith, length_code (tree bytes), ap length is) in
        omega (
          arith,
          byte_width (tree bytes) n l,
          ap (λ (b : List ℕ). get_or b n 0) is,
          in_breadth (tree bytes) (addr (tree bytes) n) (addr_in (tree bytes) n l),
          (within limit bytes z).children,
        )
    by_node n (no h) = omega (arith, get_or-eq_default bytes 0 {n = n} (omega arith))

module _ (source : List ℕ) (d : TreeBytes 32 source) where
  -- the first byte determines whether the tree is a lone leaf
  first_byte : get_or source 0 0 ≡ width (tree source)
  first_byte =
      let l : 0 < size (tree source) = size_pos (tree source) in
      sym (ap (λ (b : List ℕ). get_or b 0 0) d.is) ∙ byte_width (tree source) 0 l
      ∙ ap (λ (a : Addr). width (sub (tree source) a)) (addr_root (tree source))

  pub lone : get_or source 0 0 ≡ 0 → 0 ∷ [] ≡ source
  lone z = sym (leaf_code (tree source) (sym first_byte ∙ z)) ∙ d.is

  module _ (target : List ℕ) (e : TreeBytes 64 target) (best : List ℕ) (truth : Truth (tree source) (tree target) (best_by best) 0)
      (inner : get_or source 0 0 ≢ 0) where
    branching : width (tree source) ≢ 0
    branching w = inner (first_byte ∙ w)

    pub solve_none : no_images ≤ get_or best 0 0 → None ≡ in_places (least_map source target)
    solve_none h = rw (found_none source target d e best truth branching h)

    pub solve_found : get_or best 0 0 < no_images → (m : List ℕ) → ReadTo (tree source) (best_by best) (length source) m
        → Some m ≡ in_places (least_map source target)
    solve_found h m r =
        let f = found_list source target d e best truth branching h m r in
        rw f.0 (ap Some (f.1 ∙ ap padded f.0))

-- A lone leaf goes to the first leaf of the target, whose number fits a byte.
pub leaf-small : (target : List ℕ) → TreeBytes 64 target → first_leaf target < 64
leaf-small target e =
    let l : first_leaf target < size (tree target) = subst (λ (b : List ℕ). first_leaf b < size (tree target)) e.is (first_leaf_in (tree target)) in
    omega (arith, l, length_code (tree target), ap length e.is, e.fits)

pub leaf-placed : (target : List ℕ) → TreeBytes 64 target → (n : ℕ) → n ≡ first_leaf target
    → Some (in32 (n ∷ [])) ≡ in_places (least_map (0 ∷ []) target)
leaf-placed target e n q =
    let f : least_map (0 ∷ []) target ≡ some (first_leaf target ∷ []) =
    subst (λ (b : List ℕ). least_map (0 ∷ []) b ≡ some (first_leaf b ∷ [])) e.is (lone_least (tree target)) in
    rw (f, q)

or_else_after : (f g rest : ℕ) → or_else f (or_else g rest) ≡ or_else (or_else f g) rest
or_else_after zero g rest = refl
or_else_after (suc f) g rest = refl

module _ (source target : List ℕ) where
  -- a refusal of the reader comes first
  pub search_trees : (e : Refusal) → number e ≡ trees_fault source target → Searches source target (Err e)
  unfolding search_fault
  search_trees e h =
      record { number = refused_first e (trees_fault source target) _ h ∙ sym (or_else_after (fault 32 source) (fault 64 target) _); map = tt }

  module _ (z : 0 ≡ trees_fault source target) where
    no_fault : (fault 32 source ≡ 0) × (fault 64 target ≡ 0)
    no_fault = or_else_none (fault 32 source) (fault 64 target) (sym z)

    -- the bytes that are passed to the search are those of the reduced drawing
    pub kept-is : (items now : List ℕ) → items ≡ restricted (take 32 source) source → now ≡ items → now ≡ kept_bytes source
    kept-is items now e f = f ∙ e ∙ restrict-held source source (tree-fits 32 source no_fault.0).1

    pub both-draw : TreeBytes 32 (kept_bytes source) × TreeBytes 64 target
    both-draw = (draws 32 (kept_bytes source) (kept-fault 32 source no_fault.0), draws 64 target no_fault.1)

    abbrev pub found : Result (List ℕ) Refusal
    found = ok_or (in_places (least_map (kept_bytes source) target)) NoMap

    pub search_none : (e : Refusal) → Err e ≡ found → Searches source target (Err e)
    unfolding search_fault least_of
    search_none e r = by_map (least_map (kept_bytes source) target) refl r
      where
        by_map : (a : Option (List ℕ)) → least_map (kept_bytes source) target ≡ a → Err e ≡ ok_or (in_places a) NoMap
            → Searches source target (Err e)
        by_map none f q = record { number = rw (no_fault.0, no_fault.1, f) (ap number_of q); map = tt }
        by_map (some l) f q = cc

    pub search_found : (images m : List ℕ) → Ok images ≡ found → m ≡ in32 (spread (take 32 source) images) → Searches source target (Ok m)
    unfolding search_fault search_map least_of
    search_found images m r s = by_map (least_map (kept_bytes source) target) refl r
      where
        by_map : (a : Option (List ℕ)) → least_map (kept_bytes source) target ≡ a → Ok images ≡ ok_or (in_places a) NoMap
            → Searches source target (Ok m)
        by_map none f q = cc
        by_map (some l) f q =
            let is : images ≡ in32 l = cc in
            let spreads = spread_out_held source l (tree-fits 32 source no_fault.0).1 (found_long source target no_fault.0 no_fault.1 l f) in
            record {
              number = rw (no_fault.0, no_fault.1, f) refl;
              map = rw (no_fault.0, no_fault.1, f) (s ∙ ap (λ (k : List ℕ). in32 (spread (take 32 source) k)) is ∙ spreads);
            }

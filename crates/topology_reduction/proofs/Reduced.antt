-- Kept nodes of a drawing and nodes of its reduced drawing: `place` numbers the kept nodes as in the reduced drawing, and keeps branches and ancestry.
use mathlib.Core.Path.{◌≡◌, refl, sym, ap, ◌∙◌}
use mathlib.Core.Logic.{◌↔◌, ◌≢◌}
use Prim.Native.Nat.{ℕ, zero, suc, ◌+◌, ◌≤◌, ◌<◌}
use native.Mathlib.Nat.{not-suc-le-zero, le_of_suc-le-suc}
use native.Mathlib.Decide.{dec_lt}
use native.Mathlib.Omega.{arith}
use mathlib.Core.List.{List, [], ◌∷◌, ◌++◌, append_assoc, append-nil}
use mathlib.Core.Bool.{Bool, true, false, cond}
use lib.ListN.{length, take, drop, get_or, length-append}
use lib.Seq.{take-suc, take-append_seam, drop-append_seam}
use lib.Dec.{eqb}
use borrow.Author.Tests.{ne_eqb}
use Rattle.base.proofs.Part.{Part, drop-part}
use Rattle.topology.specs.Tree.{Topo, Forest, node, fnil, fcons, count, width, code, codes, size}
use Rattle.topology.specs.Address.{Above, addr, subtree}
use Rattle.topology.specs.Reader.{head, forest}
use Rattle.topology.proofs.Decoding.{forest_code, length_code, code_at, byte_width}
use Rattle.topology.proofs.Ancestry.{above_from, above_to, size_pos}
use Rattle.topology_reduction.specs.Reduced.{joined, reduced, reduced_all, kept_bytes}
use Rattle.topology_reduction.specs.InnerNodes.{place}

pub kept_append : (l m : List ℕ) → kept_bytes (l ++ m) ≡ kept_bytes l ++ kept_bytes m
kept_append [] m = refl
kept_append (b ∷ l) m = by_test (eqb b 1) (kept_append l m)
  where
    by_test : (t : Bool) → kept_bytes (l ++ m) ≡ kept_bytes l ++ kept_bytes m
        → cond t (kept_bytes (l ++ m)) (b ∷ kept_bytes (l ++ m)) ≡ cond t (kept_bytes l) (b ∷ kept_bytes l) ++ kept_bytes m
    by_test true r = r
    by_test false r = ap (λ (k : List ℕ). b ∷ k) r

count_reduced : (ts : Forest) → count (reduced_all ts) ≡ count ts
count_reduced fnil = refl
count_reduced (fcons t ts) = ap suc (count_reduced ts)

code_joined : (ts us : Forest) → count us ≡ count ts → codes us ≡ kept_bytes (codes ts) → code (joined us) ≡ kept_bytes (count ts ∷ codes ts)
code_joined fnil fnil e h = refl
code_joined fnil (fcons u us) e h = absurd (omega arith)
code_joined (fcons t ts) fnil e h = absurd (omega arith)
code_joined (fcons t fnil) (fcons u fnil) e h = sym (append-nil (code u)) ∙ h
code_joined (fcons t fnil) (fcons u (fcons v us)) e h = absurd (omega arith)
code_joined (fcons t (fcons x ts)) (fcons u fnil) e h = absurd (omega arith)
code_joined (fcons t (fcons x ts)) (fcons u (fcons v us)) e h =
    rw (ne_eqb (suc (suc (count ts))) 1 (omega arith)) (rw (e, h))

mutual
  -- in bytes, the reduced drawing is the drawing without its bytes 1
  pub code_reduced : (t : Topo) → code (reduced t) ≡ kept_bytes (code t)
  code_reduced (node ts) = code_joined ts (reduced_all ts) (count_reduced ts) (codes_reduced ts)

  codes_reduced : (ts : Forest) → codes (reduced_all ts) ≡ kept_bytes (codes ts)
  codes_reduced fnil = refl
  codes_reduced (fcons t ts) = rw (code_reduced t, codes_reduced ts) (sym (kept_append (code t) (codes ts)))

-- two trees whose codes are prefixes of one list are equal
pub same_front : (t u : Topo) (bs cs : List ℕ) → code t ++ bs ≡ code u ++ cs → t ≡ u
same_front t u bs cs e = ap head (sym (forest_code t bs) ∙ ap forest e ∙ forest_code u cs)

-- Reducing a reduced drawing changes nothing.
pub reduced_again : (t : Topo) → reduced (reduced t) ≡ reduced t
reduced_again t =
    same_front (reduced (reduced t)) (reduced t) [] []
    (ap (λ (l : List ℕ). l ++ []) (code_reduced (reduced t) ∙ ap kept_bytes (code_reduced t) ∙ kept_again (code t) ∙ sym (code_reduced t)))
  where
    kept_again : (l : List ℕ) → kept_bytes (kept_bytes l) ≡ kept_bytes l
    kept_again [] = refl
    kept_again (b ∷ l) = by_test (eqb b 1) refl (kept_again l)
      where
        by_test : (t : Bool) → eqb b 1 ≡ t → kept_bytes (kept_bytes l) ≡ kept_bytes l
            → kept_bytes (cond t (kept_bytes l) (b ∷ kept_bytes l)) ≡ cond t (kept_bytes l) (b ∷ kept_bytes l)
        by_test true q r = r
        by_test false q r = rw q (ap (λ (k : List ℕ). b ∷ k) r)

pub size_reduced : (t : Topo) → size (reduced t) ≡ length (kept_bytes (code t))
size_reduced t = sym (length_code (reduced t)) ∙ ap length (code_reduced t)

module _ (S : Topo) (a : ℕ) (h : a < size S) where
  p : Part (code S) a (code (subtree S a))
  p = code_at S a h

  place-front : place (code S) a ≡ length (kept_bytes p.front)
  unfolding p
  place-front =
      ap (λ (l : List ℕ). length (kept_bytes l))
      (ap (λ (n : ℕ). take n (code S)) (sym p.at) ∙ ap (take (length p.front)) p.is ∙ take-append_seam p.front (code (subtree S a) ++ p.back))

  whole : code (reduced S) ≡ kept_bytes p.front ++ (code (reduced (subtree S a)) ++ kept_bytes p.back)
  unfolding p
  whole =
      code_reduced S ∙ ap kept_bytes p.is ∙ kept_append p.front (code (subtree S a) ++ p.back)
      ∙ ap (λ (l : List ℕ). kept_bytes p.front ++ l)
      (kept_append (code (subtree S a)) p.back ∙ ap (λ (l : List ℕ). l ++ kept_bytes p.back) (sym (code_reduced (subtree S a))))

  pub place_lt : place (code S) a < size (reduced S)
  unfolding p
  place_lt =
      omega (
        arith,
        place-front,
        ap length whole,
        length_code (reduced S),
        length-append (kept_bytes p.front) (code (reduced (subtree S a)) ++ kept_bytes p.back),
        length-append (code (reduced (subtree S a))) (kept_bytes p.back),
        length_code (reduced (subtree S a)),
        size_pos (reduced (subtree S a)),
      )

  -- the branch of the node's place is the node's branch, reduced
  pub place-subtree : subtree (reduced S) (place (code S) a) ≡ reduced (subtree S a)
  unfolding p
  place-subtree =
      let q = code_at (reduced S) (place (code S) a) place_lt in
      same_front (subtree (reduced S) (place (code S) a)) (reduced (subtree S a)) q.back (kept_bytes p.back)
      (sym (drop-part q)
      ∙ ap (λ (n : ℕ). drop n (code (reduced S))) place-front
      ∙ ap (drop (length (kept_bytes p.front))) whole
      ∙ drop-append_seam (kept_bytes p.front) (code (reduced (subtree S a)) ++ kept_bytes p.back))

  -- and it ends at the place where the node's branch ends
  pub place_end : place (code S) (a + size (subtree S a)) ≡ place (code S) a + size (reduced (subtree S a))
  unfolding p
  place_end =
      let front = p.front ++ code (subtree S a) in
      let n : a + size (subtree S a) ≡ length front = omega (arith, p.at, length-append p.front (code (subtree S a)), length_code (subtree S a)) in
      let cut : take (a + size (subtree S a)) (code S) ≡ front =
      ap (λ (k : ℕ). take k (code S)) n ∙ ap (take (length front)) (p.is ∙ sym (append_assoc p.front (code (subtree S a)) p.back)) ∙ take-append_seam front p.back in
      omega (
        arith,
        ap (λ (l : List ℕ). length (kept_bytes l)) cut,
        ap length (kept_append p.front (code (subtree S a))),
        length-append (kept_bytes p.front) (kept_bytes (code (subtree S a))),
        size_reduced (subtree S a),
        place-front,
      )

-- places never fall, and grow by one at a kept node
pub place_next : (bs : List ℕ) (n : ℕ) → n < length bs → place bs (suc n) ≡ place bs n + length (cond (eqb (get_or bs n 0) 1) [] (get_or bs n 0 ∷ []))
place_next bs n h =
    ap length (ap kept_bytes (take-suc bs n 0 h) ∙ kept_append (take n bs) (get_or bs n 0 ∷ []))
    ∙ length-append (kept_bytes (take n bs)) (kept_bytes (get_or bs n 0 ∷ []))

place_mono : (bs : List ℕ) (n k : ℕ) → n ≤ k → place bs n ≤ place bs k
place_mono [] zero k h = omega arith
place_mono [] (suc n) zero h = absurd (not-suc-le-zero h)
place_mono [] (suc n) (suc k) h = omega arith
place_mono (b ∷ bs) zero k h = omega arith
place_mono (b ∷ bs) (suc n) zero h = absurd (not-suc-le-zero h)
place_mono (b ∷ bs) (suc n) (suc k) h = by_test (eqb b 1) (place_mono bs n k (le_of_suc-le-suc h))
  where
    by_test : (t : Bool) → place bs n ≤ place bs k
        → length (cond t (kept_bytes (take n bs)) (b ∷ kept_bytes (take n bs))) ≤ length (cond t (kept_bytes (take k bs)) (b ∷ kept_bytes (take k bs)))
    by_test true r = r
    by_test false r = omega (arith, r)

pub place_less : (bs : List ℕ) (n k : ℕ) → n < length bs → get_or bs n 0 ≢ 1 → n < k → place bs n < place bs k
place_less bs n k h u l =
    let one : length (cond (eqb (get_or bs n 0) 1) [] (get_or bs n 0 ∷ [])) ≡ 1 = rw (ne_eqb (get_or bs n 0) 1 u) in
    omega (arith, one, place_next bs n h, place_mono bs (suc n) k l)

-- Ancestry of kept nodes is ancestry of their places.
pub place_order : (S : Topo) (a b : ℕ) → a < size S → b < size S → width (subtree S a) ≢ 1 → width (subtree S b) ≢ 1
    → (Above (addr S a) (addr S b) ↔ Above (addr (reduced S) (place (code S) a)) (addr (reduced S) (place (code S) b)))
place_order S a b h g ka kb = (there, back)
  where
    R : Topo
    R = reduced S

    end : place (code S) (a + size (subtree S a)) ≡ place (code S) a + size (subtree (reduced S) (place (code S) a))
    end = place_end S a h ∙ ap (λ (t : Topo). place (code S) a + size t) (sym (place-subtree S a h))

    kept_b : get_or (code S) b 0 ≢ 1
    kept_b e = kb (sym (byte_width S b g) ∙ e)

    in_b : b < length (code S)
    in_b = omega (arith, length_code S)

    there : Above (addr S a) (addr S b) → Above (addr (reduced S) (place (code S) a)) (addr (reduced S) (place (code S) b))
    there u =
        let i = above_from S a b h g u in
        above_to (reduced S) (place (code S) a) (place (code S) b) (place_lt S a h) (place_mono (code S) a b i.0)
        (omega (arith, place_less (code S) b (a + size (subtree S a)) in_b kept_b i.1, end))

    back : Above (addr (reduced S) (place (code S) a)) (addr (reduced S) (place (code S) b)) → Above (addr S a) (addr S b)
    back u = by_order (above_from (reduced S) (place (code S) a) (place (code S) b) (place_lt S a h) (place_lt S b g) u) (dec_lt b a) (dec_lt b (a + size (subtree S a)))
      where
        by_order : (place (code S) a ≤ place (code S) b) × (place (code S) b < place (code S) a + size (subtree (reduced S) (place (code S) a)))
            → Dec (b < a) → Dec (b < a + size (subtree S a)) → Above (addr S a) (addr S b)
        by_order i (yes l) d = absurd (omega (arith, i.0, place_less (code S) b a in_b kept_b l))
        by_order i (no l) (no d) = absurd (omega (arith, i.1, end, place_mono (code S) (a + size (subtree S a)) b (omega arith)))
        by_order i (no l) (yes d) = above_to S a b h (omega arith) d

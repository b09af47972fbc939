-- Bytes that draw several trees, one after the other; a byte before them makes one tree of the first of them.
use mathlib.Core.Path.{◌≡◌, refl, sym, ap, ◌∙◌}
use Prim.Native.Nat.{ℕ, zero, suc, ◌+◌, ◌≤◌}
use native.Mathlib.Nat.{zero-add, not-suc-le-zero, le_of_suc-le-suc}
use native.Mathlib.Omega.{arith}
use mathlib.Core.List.{List, ◌∷◌, ◌++◌, append_assoc, append-nil}
use lib.ListN.{replicate}
use Rattle.topology.specs.Tree.{Forest, fnil, fcons, count, code, codes}
use Rattle.topology.specs.Reader.{first, others, forest, head, tree}

count_first : (b : ℕ) (ts : Forest) → b ≤ count ts → count (first b ts) ≡ b
count_first zero ts h = refl
count_first (suc b) fnil h = absurd (not-suc-le-zero h)
count_first (suc b) (fcons t ts) h = ap suc (count_first b ts (le_of_suc-le-suc h))

count-others : (b : ℕ) (ts : Forest) → b ≤ count ts → b + count (others b ts) ≡ count ts
count-others zero ts h = zero-add (count ts)
count-others (suc b) fnil h = absurd (not-suc-le-zero h)
count-others (suc b) (fcons t ts) h = omega (arith, count-others b ts (le_of_suc-le-suc h))

codes_split : (b : ℕ) (ts : Forest) → codes (first b ts) ++ codes (others b ts) ≡ codes ts
codes_split zero ts = refl
codes_split (suc b) fnil = refl
codes_split (suc b) (fcons t ts) = append_assoc (code t) (codes (first b ts)) (codes (others b ts)) ∙ ap (λ (l : List ℕ). code t ++ l) (codes_split b ts)

-- the bytes draw the given number of trees
abbrev pub Draws : List ℕ → ℕ → Type 0
Draws bs k = (count (forest bs) ≡ k) × (codes (forest bs) ≡ bs)

-- one more byte, for a node that takes the first b of the trees behind it as its children
pub draws_node : (b m : ℕ) (bs : List ℕ) → Draws bs (b + m) → Draws (b ∷ bs) (suc m)
draws_node b m bs d =
    let l : b ≤ count (forest bs) = omega (arith, d.0) in (
      omega (arith, d.0, count-others b (forest bs) l),
      ap (λ (k : ℕ). k ∷ (codes (first b (forest bs)) ++ codes (others b (forest bs)))) (count_first b (forest bs) l)
          ∙ ap (λ (cs : List ℕ). b ∷ cs) (codes_split b (forest bs) ∙ d.1),
    )

pub draws-leaves : (k : ℕ) → Draws (replicate k 0) k
draws-leaves zero = (refl, refl)
draws-leaves (suc k) = draws_node 0 k (replicate k 0) (rw (zero-add k) (draws-leaves k))

-- bytes that draw one tree are its code
pub draws-tree : (bytes : List ℕ) → Draws bytes 1 → code (tree bytes) ≡ bytes
unfolding tree
draws-tree bytes d = one (forest bytes) d.0 d.1
  where
    one : (ts : Forest) → count ts ≡ 1 → codes ts ≡ bytes → code (head ts) ≡ bytes
    one fnil k e = absurd (omega arith)
    one (fcons t fnil) k e = sym (append-nil (code t)) ∙ e
    one (fcons t (fcons u ts)) k e = absurd (omega arith)

-- The table of branch ends: how it is filled, and its meaning where there are few enough bytes.
use mathlib.Core.Path.{◌≡◌, refl, sym, ap, ◌∙◌}
use Prim.Native.Nat.{ℕ, zero, suc, ◌+◌, ◌≤◌, ◌<◌}
use native.Mathlib.Nat.{not-suc-le-zero, le_of_suc-le-suc}
use native.Mathlib.Omega.{arith}
use native.Mathlib.Decide.{dec_lt}
use mathlib.Core.List.{List}
use lib.ListN.{length, get_or, get_or-eq_default}
use lib.Seq.{ext_get_or}
use Rattle.topology.specs.Branch.{branch_end}
use Rattle.topology.specs.InnerEnds.{Ends}
use Rattle.topology.proofs.BranchEnd.{scan_none, end_bounds}
use Rattle.embedding_trees.specs.Trees.{ends_from, branch_ends}
use Rattle.embedding_trees.specs.InnerFilling.{FilledFrom}

module _ (bytes : List ℕ) where
  length-ends : (k n : ℕ) → length (ends_from k bytes n) ≡ k
  length-ends zero n = refl
  length-ends (suc k) n = ap suc (length-ends k (suc n))

  get_or_ends : (k n i m : ℕ) → n + i ≡ m → i < k → get_or (ends_from k bytes n) i 0 ≡ branch_end bytes m
  get_or_ends zero n i m e h = absurd (not-suc-le-zero h)
  get_or_ends (suc k) n zero m e h = ap (branch_end bytes) (omega arith)
  get_or_ends (suc k) n (suc i) m e h = get_or_ends k (suc n) i m (omega arith) (le_of_suc-le-suc h)

  ends_small : length bytes ≤ 64 → (k n : ℕ) → k ≤ 64 → get_or (ends_from k bytes 0) n 0 ≤ 64
  ends_small l k n h = by_place (dec_lt n k) (dec_lt n (length bytes))
    where
      by_place : Dec (n < k) → Dec (n < length bytes) → get_or (ends_from k bytes 0) n 0 ≤ 64
      by_place (no g) b = omega (arith, get_or-eq_default (ends_from k bytes 0) 0 {n = n} (omega (arith, length-ends k 0)))
      by_place (yes g) (yes b) = omega (arith, get_or_ends k 0 n n (omega arith) g, end_bounds bytes n (omega arith))
      by_place (yes g) (no b) = omega (arith, get_or_ends k 0 n n (omega arith) g, scan_none bytes n (omega arith))

-- ---- the table, from the last node to the first

module _ (bytes ends : List ℕ) where
  pub filled_later : (node later : ℕ) → node ≤ later → FilledFrom bytes ends node → FilledFrom bytes ends later
  filled_later node later h f = record { places = f.places; at = λ n l g. f.at n (omega arith) g }

  pub filled_all : FilledFrom bytes ends 0 → ends ≡ branch_ends bytes
  unfolding branch_ends
  filled_all f =
      ext_get_or 0 ends (ends_from 64 bytes 0) (f.places ∙ sym (length-ends bytes 64 0))
      (λ n g.
      let l : n < 64 = omega (arith, f.places) in
      f.at n (omega arith) l ∙ sym (get_or_ends bytes 64 0 n n (omega arith) l))

pub is_table : (bytes ends : List ℕ) → length bytes ≤ 64 → ends ≡ branch_ends bytes → Ends bytes ends
unfolding branch_ends
is_table bytes ends l e =
    rw e (record {
      places = length-ends bytes 64 0;
      small = λ n. ends_small bytes l 64 n (omega arith);
      at = λ n h. get_or_ends bytes 64 0 n n (omega arith) (omega arith);
    })

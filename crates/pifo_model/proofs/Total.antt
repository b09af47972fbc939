-- The number of entries of a well-formed tree: at most one on each level for each packet that it holds.
use mathlib.Core.Path.{◌≡◌, refl, sym, ap, ◌∙◌, subst}
use Prim.Native.Nat.{ℕ, zero, suc, ◌+◌, ◌*◌, ◌≤◌, max, zero-le}
use native.Mathlib.Nat.{mul-le-mul_left, mul-le-mul_right, mul-add, suc-mul, zero-add, add-zero}
use native.Mathlib.Omega.{arith}
use mathlib.Core.Bool.{true}
use lib.ListN.{length, length-append}
use Rattle.std.proofs.lemmas.Bool.{and_parts}
use Rattle.topology.specs.Tree.{Topo, Forest, node, fnil, fcons, size, sizes, height, heights}
use Rattle.pifo_model.specs.Tree.{PTree, PForest, pnode, pnil, pcons, shape, shapes, packets, packets_in, packets_of, leaf_queue, held, well, wells}
use Rattle.pifo_model.proofs.Well.{well_parts, length-held}
use Rattle.pifo_model.specs.Assembled.{Queues, assemble, assemble_all}

module _ {P : Type 0} where
  abbrev mutual
    pub total : PTree P → ℕ
    total (pnode q ts) = length q + totals ts

    pub totals : PForest P → ℕ
    totals pnil = 0
    totals (pcons t ts) = total t + totals ts

  mutual
    pub total_held : (t : PTree P) → well t ≡ true → total t ≤ suc (height (shape t)) * held t
    total_held (pnode q ts) w =
        let f = totals_held ts (well_parts q ts w).below in
        let h : length (packets_in ts) ≤ held (pnode q ts) = omega (arith, length-append (packets_of (leaf_queue q ts)) (packets_in ts)) in
        let m = mul-le-mul_left (heights (shapes ts)) h in
        omega (arith, length-held q ts w, suc-mul (heights (shapes ts)) (held (pnode q ts)))

    totals_held : (ts : PForest P) → wells ts ≡ true → totals ts ≤ heights (shapes ts) * length (packets_in ts)
    totals_held pnil w = zero-le
    totals_held (pcons t ts) w =
        let b = and_parts (well t) (wells ts) w in
        let x = total_held t b.0 in
        let y = totals_held ts b.1 in
        let big = max (suc (height (shape t))) (heights (shapes ts)) in
        let u : suc (height (shape t)) * held t ≤ big * held t = mul-le-mul_right (held t) (omega arith) in
        let v : heights (shapes ts) * length (packets_in ts) ≤ big * length (packets_in ts) = mul-le-mul_right (length (packets_in ts)) (omega arith) in
        let s : big * (held t + length (packets_in ts)) ≡ big * held t + big * length (packets_in ts) = mul-add big (held t) (length (packets_in ts)) in
        subst (λ (k : ℕ). total t + totals ts ≤ big * k) (sym (length-append (packets t) (packets_in ts))) (omega arith)

-- a sum over n numbers from k on
abbrev pub sum_from : ℕ → ℕ → (ℕ → ℕ) → ℕ
sum_from k zero f = 0
sum_from k (suc n) f = f k + sum_from (suc k) n f

pub sum-add : (k n m : ℕ) (f : ℕ → ℕ) → sum_from k (n + m) f ≡ sum_from k n f + sum_from (k + n) m f
sum-add k zero m f =
    ap (λ (x : ℕ). sum_from k x f) (zero-add m) ∙ sym (zero-add (sum_from k m f)) ∙ ap (λ (x : ℕ). 0 + sum_from x m f) (sym (add-zero k))
sum-add k (suc n) m f =
    let a : suc n + m ≡ suc (n + m) = omega arith in
    let b : suc k + n ≡ k + suc n = omega arith in
    ap (λ (x : ℕ). sum_from k x f) a ∙ omega (arith, sum-add (suc k) n m f, ap (λ (x : ℕ). sum_from x m f) b)

module _ {P : Type 0} where
  mutual
    pub total_assemble : (t : Topo) (q : Queues P) (k : ℕ) → total (assemble t q k) ≡ sum_from k (size t) (λ n. length (q n))
    total_assemble (node ts) q k = ap (λ (x : ℕ). length (q k) + x) (totals_assemble ts q (suc k))

    totals_assemble : (ts : Forest) (q : Queues P) (k : ℕ) → totals (assemble_all ts q k) ≡ sum_from k (sizes ts) (λ n. length (q n))
    totals_assemble fnil q k = refl
    totals_assemble (fcons t ts) q k =
        omega (arith, total_assemble t q k, totals_assemble ts q (k + size t), sum-add k (size t) (sizes ts) (λ n. length (q n)))

-- The next kept node at or below a node, from the bytes: the first node, from the given one on, whose byte is not 1.
use mathlib.Core.Path.{◌≡◌, refl, sym, ap, ◌∙◌}
use Prim.Native.Nat.{ℕ, suc, ◌+◌, ◌<◌}
use native.Mathlib.Omega.{arith}
use mathlib.Core.List.{List, ◌∷◌, ◌++◌, append-nil}
use borrow.Author.Tests.{ne_eqb}
use Rattle.base.proofs.Part.{drop-part}
use Rattle.topology.specs.Tree.{Topo, Forest, node, fnil, fcons, count, code, codes, size}
use Rattle.topology.specs.Address.{addr, num, subtree}
use Rattle.topology.proofs.Decoding.{code_at}
use Rattle.topology.proofs.Numbering.{addr_in, num-addr}
use Rattle.topology.proofs.Ancestry.{num-append}
use Rattle.topology_reduction.specs.Kept.{descent, descent_in, if_alone}
use Rattle.topology_reduction.specs.Reduced.{ones, next_kept}
use Rattle.topology_reduction.specs.InnerNodes.{kept_node}

last_ones : (t : Topo) (ts : Forest) (bs : List ℕ) → ones (code t ++ bs) ≡ num t (descent t)
    → ones (suc (count ts) ∷ ((code t ++ codes ts) ++ bs)) ≡ num (node (fcons t ts)) (if_alone ts (1 ∷ descent t))
last_ones t (fcons u ts) bs e = rw (ne_eqb (suc (suc (count ts))) 1 (omega arith))
last_ones t fnil bs e = ap (λ (l : List ℕ). suc (ones (l ++ bs))) (append-nil (code t)) ∙ omega (arith, e)

mutual
  ones_code : (t : Topo) (bs : List ℕ) → ones (code t ++ bs) ≡ num t (descent t)
  ones_code (node ts) bs = ones_codes ts bs

  ones_codes : (ts : Forest) (bs : List ℕ) → ones (count ts ∷ (codes ts ++ bs)) ≡ num (node ts) (descent_in ts)
  ones_codes fnil bs = refl
  ones_codes (fcons t ts) bs = last_ones t ts bs (ones_code t bs)

pub next_kept_lem : (S : Topo) (n : ℕ) → n < size S → next_kept (code S) n ≡ kept_node S n
unfolding next_kept
next_kept_lem S n h =
    let p = code_at S n h in
    ap (λ (k : ℕ). n + k) (ap ones (drop-part p) ∙ ones_code (subtree S n) p.back)
    ∙ ap (λ (k : ℕ). k + num (subtree S n) (descent (subtree S n))) (sym (num-addr S n h))
    ∙ sym (num-append S (addr S n) (descent (subtree S n)) (addr_in S n h))

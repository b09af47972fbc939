-- The descent to the first kept node at or below a node: it exists, its end is kept, and it respects ancestry.
use mathlib.Core.Path.{◌≡◌, refl, sym, ap, ◌∙◌, subst}
use mathlib.Core.Logic.{◌≢◌}
use Prim.Native.Nat.{ℕ, zero, suc, ◌≤◌, ◌<◌}
use native.Mathlib.Omega.{arith}
use mathlib.Core.List.{[], ◌∷◌, ◌++◌, append_assoc, append-nil}
use Rattle.topology.specs.Tree.{Topo, Forest, node, fnil, fcons, count, width, size}
use Rattle.topology.specs.Address.{Addr, child, nth, In, sub, Above, num}
use Rattle.topology.proofs.Numbering.{num_lt, addr-num}
use Rattle.topology.proofs.Ancestry.{in_below, in_join, sub-append}
use Rattle.topology_reduction.specs.Kept.{Kept, descent, descent_in, if_alone, kept_at, top}

-- the end of the descent exists and is kept
mutual
  pub descent_in_lem : (t : Topo) → In t (descent t)
  descent_in_lem (node ts) = descent_ins ts

  descent_ins : (ts : Forest) → In (node ts) (descent_in ts)
  descent_ins fnil = tt
  descent_ins (fcons t ts) = last-in t ts (descent_in_lem t)

  last-in : (t : Topo) (ts : Forest) → In t (descent t) → In (node (fcons t ts)) (if_alone ts (1 ∷ descent t))
  last-in t fnil i = (omega arith, omega arith, i)
  last-in t (fcons u ts) i = tt

last_kept : (t : Topo) (ts : Forest) → width (sub t (descent t)) ≢ 1 → width (sub (node (fcons t ts)) (if_alone ts (1 ∷ descent t))) ≢ 1
last_kept t fnil n = n
last_kept t (fcons u ts) n = λ e. omega arith

mutual
  pub descent_kept : (t : Topo) → width (sub t (descent t)) ≢ 1
  descent_kept (node ts) = descent_keeps ts

  descent_keeps : (ts : Forest) → width (sub (node ts) (descent_in ts)) ≢ 1
  descent_keeps fnil = λ e. omega arith
  descent_keeps (fcons t ts) = last_kept t ts (descent_kept t)

-- the descent from a kept node is empty
last_self : (t : Topo) (ts : Forest) → suc (count ts) ≢ 1 → if_alone ts (1 ∷ descent t) ≡ []
last_self t fnil n = absurd (n refl)
last_self t (fcons u ts) n = refl

pub descent_self : (t : Topo) → width t ≢ 1 → descent t ≡ []
descent_self (node fnil) n = refl
descent_self (node (fcons t ts)) n = last_self t ts n

-- The end of the descent from a node at address e in t lies at or below the end of the descent from the root of t.
last_down : (t : Topo) (ts : Forest) (x : ℕ) (e : Addr) → suc x ≤ suc (count ts) → In (nth (fcons t ts) x) e
    → (In t e → Above (descent t) (e ++ descent (sub t e)))
    → Above (if_alone ts (1 ∷ descent t)) (suc x ∷ (e ++ descent (sub (nth (fcons t ts) x) e)))
last_down t (fcons u ts) x e l i r = (suc x ∷ (e ++ descent (sub (nth (fcons t (fcons u ts)) x) e)), refl)
last_down t fnil (suc x) e l i r = absurd (omega arith)
last_down t fnil zero e l i r = ((r i).0, ap (λ (a : Addr). 1 ∷ a) (r i).1)

mutual
  descent_down : (t : Topo) (e : Addr) → In t e → Above (descent t) (e ++ descent (sub t e))
  descent_down (node ts) [] i = ([], sym (append-nil (descent (node ts))))
  descent_down (node ts) (x ∷ e) i = descents_down ts x e i.0 i.1 i.2

  descents_down : (ts : Forest) (x : ℕ) (e : Addr) → 0 < x → x ≤ count ts → In (child (node ts) x) e
      → Above (descent_in ts) (x ∷ (e ++ descent (sub (child (node ts) x) e)))
  descents_down fnil x e p l i = absurd (omega arith)
  descents_down (fcons t ts) zero e p l i = absurd (omega arith)
  descents_down (fcons t ts) (suc x) e p l i = last_down t ts x e l i (λ j. descent_down t e j)

-- The node that `kept_at` gives exists and is kept, and a kept node gives itself.
module _ (S : Topo) (a : Addr) (i : In S a) where
  pub kept_in : In S (kept_at S a)
  kept_in = in_join S a (descent (sub S a)) i (descent_in_lem (sub S a))

  pub kept-is : Kept S (num S (kept_at S a))
  kept-is e =
      descent_kept (sub S a)
      (ap width (sym (sub-append S a (descent (sub S a)))) ∙ subst (λ (b : Addr). width (sub S b) ≡ 1) (addr-num S (kept_at S a) kept_in) e)

pub kept_self : (S : Topo) (a : Addr) → width (sub S a) ≢ 1 → kept_at S a ≡ a
kept_self S a k = ap (λ (z : Addr). a ++ z) (descent_self (sub S a) k) ∙ append-nil a

-- If a node is another or lies above it, the same holds of their next kept nodes.
pub kept_down : (S : Topo) (a b : Addr) → In S b → Above a b → Above (kept_at S a) (kept_at S b)
kept_down S a b j (d, e) =
    let u = descent_down (sub S a) d (in_below S a d (subst (In S) e j)) in
    let s : sub S b ≡ sub (sub S a) d = ap (sub S) e ∙ sub-append S a d in
    (u.0, joins e s ∙ ap (λ (z : Addr). a ++ z) u.1 ∙ sym (append_assoc a (descent (sub S a)) u.0))
  where
    joins : b ≡ a ++ d → sub S b ≡ sub (sub S a) d → kept_at S b ≡ a ++ (d ++ descent (sub (sub S a) d))
    joins e s =
        ap (λ (z : Addr). z ++ descent (sub S b)) e ∙ ap (λ (u : Topo). (a ++ d) ++ descent u) s ∙ append_assoc a d (descent (sub (sub S a) d))

-- A passed node has the same next kept node as its child.
pub kept-child : (S : Topo) (b : Addr) → width (sub S b) ≡ 1 → kept_at S b ≡ kept_at S (b ++ (1 ∷ []))
kept-child S b w =
    ap (λ (z : Addr). b ++ z) (land (sub S b) w)
    ∙ sym (append_assoc b (1 ∷ []) (descent (child (sub S b) 1)))
    ∙ ap (λ (t : Topo). (b ++ (1 ∷ [])) ++ descent t) (sym (sub-append S b (1 ∷ [])))
  where
    land : (t : Topo) → width t ≡ 1 → descent t ≡ 1 ∷ descent (child t 1)
    land (node fnil) e = absurd (omega arith)
    land (node (fcons t fnil)) e = refl
    land (node (fcons t (fcons u ts))) e = absurd (omega arith)

-- The top node is a node, and it is kept.
pub top_in : (S : Topo) → top S < size S
top_in S = num_lt S (descent S) (descent_in_lem S)

pub top_kept : (S : Topo) → Kept S (top S)
top_kept S e = descent_kept S (subst (λ (a : Addr). width (sub S a) ≡ 1) (addr-num S (descent S) (descent_in_lem S)) e)

-- Permutations of lists, in addition to `mathlib.Core.List`: their length in the kit's numbers, and equal lists.
use mathlib.Core.Path.{◌≡◌, refl, sym, ap, ◌∙◌, subst}
use Prim.Native.Nat.{suc}
use mathlib.Core.List.Permᴰ
use mathlib.Core.List.{List, ◌∷◌, ◌++◌, append_assoc, Permᴰ}
use lib.ListN.{length}

module _ {ℓ} {A : Type ℓ} where
  pub length_perm : {l m : List A} → Permᴰ l m → length l ≡ length m
  length_perm Permᴰ.nil = refl
  length_perm (Permᴰ.cons e p) = ap suc (length_perm p)
  length_perm (Permᴰ.swap e f) = refl
  length_perm (Permᴰ.trans p q) = length_perm p ∙ length_perm q

  pub perm_same : {l m : List A} → l ≡ m → Permᴰ l m
  perm_same {l} e = subst (Permᴰ l) e (Permᴰ.refl l)

  -- one element moved to the front from behind another list
  pub perm_front : (k : List A) {l : List A} (x : A) (m : List A) → Permᴰ l (x ∷ m) → Permᴰ (k ++ l) (x ∷ (k ++ m))
  perm_front k x m p = Permᴰ.trans (Permᴰ.append_left k p) (Permᴰ.middle x k m)

  -- one list moved past another
  pub perm_past : (k l m : List A) → Permᴰ (k ++ (l ++ m)) (l ++ (k ++ m))
  perm_past k l m =
      Permᴰ.trans (perm_same (sym (append_assoc k l m)))
      (Permᴰ.trans (Permᴰ.append_right m (Permᴰ.append_comm k l)) (perm_same (append_assoc l k m)))

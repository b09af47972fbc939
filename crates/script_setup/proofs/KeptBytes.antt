-- A drawing's bytes, one at a time: a list of fixed room keeps those for which it has room.
use Rattle.std.proofs.Common.{◌≡◌, ℕ, ◌≤◌, ◌<◌, Bool, true, false, leb, List, [], ◌∷◌, ◌++◌, length, take, refl, sym, ap, ◌∙◌, arith}
use Rattle.std.proofs.Common.{length-append, length-take}
use Rattle.std.proofs.lemmas.List.{take_all, take-append-le}
use borrow.Author.Tests.{leb-true, leb-false}

pub kept : (n b : ℕ) (s old new : List ℕ) → old ≡ take n s → new ≡ take n (old ++ b ∷ []) → new ≡ take n (s ++ b ∷ [])
kept n b s old new e f = by_room (leb n (length s)) refl
  where
    by_room : (t : Bool) → leb n (length s) ≡ t → new ≡ take n (s ++ b ∷ [])
    by_room true z =
        let many : n ≤ length s = leb-true n (length s) z in
        let full : n ≤ length old = omega (arith, many, ap length e, length-take n s) in
        f ∙ take-append-le n old (b ∷ []) full ∙ take_all n old (omega (arith, ap length e, length-take n s)) ∙ e ∙ sym (take-append-le n s (b ∷ []) many)
    by_room false z = f ∙ ap (λ (l : List ℕ). take n (l ++ b ∷ [])) (e ∙ take_all n s (omega (arith, leb-false n (length s) z)))

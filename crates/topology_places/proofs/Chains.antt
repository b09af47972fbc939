-- What iterator chains over the numbers below a bound count and find.
use Rattle.std.proofs.Common.{◌≡◌, refl, sym, ap, ◌∙◌, ℕ, zero, suc, ◌+◌, ◌-◌, ◌<◌, arith, add-one, Bool, true, false, not, cond, eqb}
use Rattle.std.proofs.Common.{List, [], ◌∷◌, length, get_or, map-id, MatchOption, Option, Some}
use Rattle.std.specs.Prelude.{count_by}
use Rattle.std.specs.Fn.{Called, CalledAt}
use Rattle.std.specs.Iterator.{YieldsThen, Drains}
use Rattle.std.specs.List.{range_with_len, find, FoldsTo, AllWithin, HoldsAt}
use Rattle.std.specs.Option.{unwrap_or}
use Rattle.std.specs.Bool.{⊤, MatchBool}
use Rattle.std.specs.declared.ops.Range.{Range}
use Rattle.std.proofs.lemmas.Iterator.Adapters.{option_map_id}
use Rattle.std.proofs.lemmas.List.FromFn.{sum_by-map-range_with_len_more}
use Rattle.std.proofs.lemmas.Iterator.{YieldsList, YieldsList-from_range, YieldsList-from_slice, cases_from_any}
use Rattle.std.proofs.lemmas.Iterator.Consumers.{YieldsList-at, YieldsList-from_filter, count_from_yields_List}
use Rattle.std.proofs.lemmas.List.Sums.{length-filter}
use Rattle.std.proofs.iter.Yields.{nat_range_steps, fronts}
use Rattle.std.specs.Slice.Iter.{iter_rest}
use Rattle.std.specs.declared.slice.Iter.{Iter}
use borrow.Author.Tests.{eq-eqb, ne_eqb}
use Rattle.topology_places.proofs.Passes.{counted_none, counted-still}
use Rattle.std.specs.Iterator.Adapters.{filter_source, filter_callee, filter_steps}
use Rattle.std.specs.declared.iter.Filter.{Filter}
use Rattle.std.proofs.lemmas.Iterator.Search.{find_from_yields_List}
use Rattle.std.proofs.lemmas.Iterator.Splits.{YieldsList-from_shown_while}
use denote.Param.Members.{Mut}
use denote.Ref.{Bor}
use Rattle.topology_places.specs.Places.{counted, last_of}

-- the numbers below n, the last one first
abbrev falling : ℕ → List ℕ
falling zero = []
falling (suc n) = n ∷ falling n

-- a range of numbers that is taken from the back
abbrev back_steps : Range ℕ → Option ℕ → Range ℕ → Type 0
back_steps s r t =
    (t.start ≡ s.start) × MatchOption r ((s.end - s.start ≡ 0) × (t.end ≡ s.end)) (λ x. (0 < s.end - s.start) × (x ≡ t.end) × (s.end ≡ t.end + 1))

falls : (s : Range ℕ) → s.start ≡ 0 → YieldsList back_steps (λ x. x) s (falling s.end)
falls =
    YieldsList-from_shown_while back_steps (λ x. x) (λ s. falling s.end) (λ s. s.start ≡ 0)
    (λ s t z p. let e : s.end ≡ 0 = omega arith in rw e refl)
    (λ s x t z p. let e : s.end ≡ suc t.end = omega arith in (p.0 ∙ z, rw (e, p.1.1) refl))

find_last : (test : ℕ → Bool) (n : ℕ) → unwrap_or (find test (falling n)) 0 ≡ last_of test n
find_last test zero = refl
find_last test (suc n) = by_test (test n) (find_last test n)
  where
    by_test : (b : Bool) → unwrap_or (find test (falling n)) 0 ≡ last_of test n
        → unwrap_or (cond b (Some n) (find test (falling n))) 0 ≡ cond b n (last_of test n)
    by_test true e = refl
    by_test false e = e

-- `rfind` over the numbers below n
pub last_found : {F : Type 0} {g : Mut F (Bor ℕ × Unit {0}) Bool} (test : ℕ → Bool) (n : ℕ) (s u : Range ℕ) (f : F) (r : Option ℕ)
    → s ≡ record { start = 0; end = n }
    → (xs : List ℕ) × (j : F) × YieldsThen back_steps s xs r u × FoldsTo (λ p x q. CalledAt g p x false q) f xs j
    × MatchOption r ⊤ (λ x. (h : F) × CalledAt g j x true h)
    → ((x : ℕ) (b : Bool) (q : F) → CalledAt g f x b q → (q ≡ f) × (b ≡ test x)) → unwrap_or r 0 ≡ last_of test n
last_found test n s u f r e ran closure =
    let road : YieldsList back_steps (λ x. x) s (falling n) = rw e (falls (record { start = 0; end = n }) refl) in
    let found = find_from_yields_List test u f r ran road closure in
    ap (λ (o : Option ℕ). unwrap_or o 0) (sym (option_map_id r) ∙ found) ∙ find_last test n

counted_list : (test : ℕ → Bool) (n : ℕ) → count_by test (range_with_len 0 n) ≡ counted test n
counted_list test zero = refl
counted_list test (suc n) =
    let more = sum_by-map-range_with_len_more (λ x. cond (test x) 1 0) (λ x. x) 0 n n (omega arith) in
    let next = rw (map-id (range_with_len 0 (n + 1)), map-id (range_with_len 0 n), add-one n) at more in
    next ∙ ap (λ (m : ℕ). m + cond (test n) 1 0) (counted_list test n)

-- `filter` and `count` over the numbers below n
pub counted_all : {F : Type 0} {g : Mut F (Bor ℕ × Unit {0}) Bool} (test : ℕ → Bool) (n : ℕ) (s : Filter (Range ℕ) F) {f : F} (r : ℕ)
    → filter_source s ≡ record { start = 0; end = n } → filter_callee s ≡ f
    → (xs : List ℕ) × Drains (filter_steps nat_range_steps g) s xs × (r ≡ length xs)
    → ((x : ℕ) (b : Bool) (q : F) → CalledAt g f x b q → (q ≡ f) × (b ≡ test x)) → r ≡ counted test n
counted_all test n s r source callee ran closure =
    let road = YieldsList-from_filter _ test (YieldsList-at source (YieldsList-from_range 0 n n refl (omega arith))) callee closure in
    count_from_yields_List s r ran road ∙ length-filter test (range_with_len 0 n) ∙ counted_list test n

some_counted : (test : ℕ → Bool) (items : List ℕ) (r : Bool)
    → MatchBool r ((k : ℕ) × (k < length items) × HoldsAt (λ x. test x ≡ true) items k) (AllWithin (λ x. test x ≡ false) items 0 (length items))
    → r ≡ not (eqb (counted (λ a. test (get_or items a 0)) (length items)) 0)
some_counted test items true (k, l, p) =
    let passes : ℕ → Bool = λ a. test (get_or items a 0) in
    rw (ne_eqb (counted passes (length items)) 0 (λ z. counted_none passes (length items) k z l (p 0)))
some_counted test items false none =
    let passes : ℕ → Bool = λ a. test (get_or items a 0) in
    rw (eq-eqb (counted passes (length items)) 0 (counted-still passes 0 (length items) (omega arith) (λ a l h. none a 0 l h)))

-- `any` over the items of a slice
pub any_counted : {F : Type 0} {g : Mut F (Bor ℕ × Unit {0}) Bool} (test : ℕ → Bool) (items : List ℕ) {s : Iter ℕ} (u : Iter ℕ) (f : F) (r : Bool)
    → iter_rest s ≡ items
    → (xs : List (Bor ℕ)) × (o : Option (Bor ℕ)) × (j : F) × YieldsThen fronts s xs o u × FoldsTo (λ p x q. Called g p (x, tt) false q) f xs j
    × MatchOption o (r ≡ false) (λ x. (r ≡ true) × ((h : F) × Called g j (x, tt) true h))
    → ((x : Bor ℕ) (b : Bool) (q : F) → Called g f (x, tt) b q → (q ≡ f) × (b ≡ test x.now))
    → r ≡ not (eqb (counted (λ a. test (get_or items a 0)) (length items)) 0)
any_counted test items u f r source ran closure =
    some_counted test items r
    (cases_from_any u f r (λ x. test x ≡ true) (λ x. test x ≡ false) ran (YieldsList-from_slice items source) (λ x q k. sym (closure x true q k).1)
    (λ x q k. let y = closure x false q k in (y.0, sym y.1)))

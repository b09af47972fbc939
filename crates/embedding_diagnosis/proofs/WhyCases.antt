-- What the code's chains count and compare, and what it learns of a branch and of a search.
use Rattle.std.proofs.Common.{◌≡◌, ◌≢◌, refl, sym, ap, ◌∙◌, ℕ, zero, suc, ◌+◌, ◌-◌, ◌≤◌, max, arith, add-one}
use Rattle.std.proofs.Common.{List, [], ◌∷◌, Bool, true, false, cond, length, get_or, take, drop, map, map-id}
use Rattle.std.specs.Prelude.{count_by, Result, Ok, Err, IfOk}
use Rattle.std.specs.Result.{result_unwrap_or}
use Rattle.std.specs.Option.{unwrap_or}
use Rattle.std.specs.Ordering.{nat_cmp, max_by_ordering}
use Rattle.std.specs.List.{range_with_len, fold, filter, reduce}
use Rattle.std.proofs.Math.Seq.{take_all}
use Rattle.std.proofs.lemmas.List.Folds.{max_of_map}
use Rattle.std.proofs.lemmas.List.FromFn.{filter_of_map_range_with_len_more}
use Rattle.std.proofs.lemmas.List.Sums.{fold-append, count_by_more_no, count_by_more_yes}
use denote.Ref.{Bor}
use Rattle.refusal.specs.Numbers.{number, number_of}
use Rattle.refusal.specs.declared.Refusal.{Refusal}
use Rattle.refusal.proofs.Numbers.{number-ne0}
use Rattle.base.specs.Refusals.{unless_refused}
use Rattle.topology.specs.Branch.{branch_end, branch_fault, branch_part}
use Rattle.topology_places.specs.Places.{counted}
use Rattle.std.proofs.Math.Option.{none, some}
use Rattle.std.proofs.Math.Option as Math
use Rattle.base.specs.Refusals.{or_else}
use Rattle.topology.specs.Reader.{fault}
use Rattle.topology.proofs.FaultMost.{fault_most}
use Rattle.refusal.specs.Numbers.{refusal_of}
use Rattle.refusal.specs.declared.Refusal.TheVariants.{NoMap}
use Rattle.refusal.proofs.Numbers.{refusal_back}
use Rattle.embedding_model.specs.Least.{least_of, none_fault, search_fault}
use Rattle.embedding_diagnosis.specs.Misfit.{misfit}
use Rattle.embedding_diagnosis.specs.Diagnosis.{greatest, lack_at, diagnosis_by, diagnosis}
use Rattle.embedding_diagnosis.specs.declared.Diagnosis.TheVariants.{Loads, Refused}

-- the branch under a node, or no bytes
pub part_is : (bytes : List ℕ) (node : ℕ) (r : Result (Bor (List ℕ)) Refusal) (no_bytes : Bor (List ℕ)) → number_of r ≡ branch_fault bytes node
    → IfOk r (λ part. part.now ≡ branch_part bytes node) → no_bytes.now ≡ [] → (result_unwrap_or r no_bytes).now ≡ branch_part bytes node
unfolding branch_part
part_is bytes node (Ok part) no_bytes e f z = f
part_is bytes node (Err x) no_bytes e f z = by_fault (branch_fault bytes node) e
  where
    by_fault : (f : ℕ) → number x ≡ f → no_bytes.now ≡ unless_refused f (take (branch_end bytes node - node) (drop node bytes)) []
    by_fault zero q = absurd (number-ne0 x q)
    by_fault (suc f) q = z

module _ (test : ℕ → Bool) (xs : List ℕ) where
  counted_to : (n : ℕ) → n ≤ length xs → count_by test (take n xs) ≡ counted (λ k. test (get_or xs k 0)) n
  counted_to zero h = refl
  counted_to (suc n) h = by_test (test (get_or xs n 0)) refl (counted_to n (omega arith))
    where
      by_test : (b : Bool) → test (get_or xs n 0) ≡ b → count_by test (take n xs) ≡ counted (λ k. test (get_or xs k 0)) n
          → count_by test (take (suc n) xs) ≡ counted (λ k. test (get_or xs k 0)) n + cond (test (get_or xs n 0)) 1 0
      by_test true e r = rw (e, ← add-one n) (count_by_more_yes test xs n 0 (omega arith) e ∙ ap (λ (m : ℕ). m + 1) r)
      by_test false e r = rw (e, ← add-one n) (count_by_more_no test xs n 0 (omega arith) e ∙ r ∙ omega arith)

  -- how many items pass a test, by their places
  pub counted_items : count_by test xs ≡ counted (λ k. test (get_or xs k 0)) (length xs)
  counted_items = ap (count_by test) (sym (take_all (length xs) xs (omega arith))) ∙ counted_to (length xs) (omega arith)

module _ (test : ℕ → Bool) (f : ℕ → ℕ) where
  greatest_to : (n : ℕ) → fold (λ a x. max a (f x)) 0 (filter test (range_with_len 0 n)) ≡ greatest test f n
  greatest_to zero = refl
  greatest_to (suc n) =
      let more = filter_of_map_range_with_len_more test (λ x. x) 0 n n (omega arith) in
      let next = rw (map-id (range_with_len 0 (n + 1)), map-id (range_with_len 0 n), add-one n) at more in
      ap (fold (λ a x. max a (f x)) 0) next
      ∙ fold-append (λ a x. max a (f x)) 0 (filter test (range_with_len 0 n)) (cond (test n) (n ∷ []) [])
      ∙ by_test (test n) (greatest_to n)
    where
      by_test : (b : Bool) → fold (λ a x. max a (f x)) 0 (filter test (range_with_len 0 n)) ≡ greatest test f n
          → fold (λ a x. max a (f x)) (fold (λ a x. max a (f x)) 0 (filter test (range_with_len 0 n))) (cond b (n ∷ []) [])
          ≡ max (greatest test f n) (cond b (f n) 0)
      by_test true r = ap (λ (m : ℕ). max m (f n)) r
      by_test false r = r ∙ omega arith

  -- the greatest value of f among the numbers below n that pass a test
  pub greatest_list : (n : ℕ)
      → unwrap_or (reduce (λ p z. max_by_ordering (nat_cmp p z) p z) (map f (filter test (range_with_len 0 n)))) 0 ≡ greatest test f n
  greatest_list n = max_of_map f (filter test (range_with_len 0 n)) ∙ greatest_to n

-- the same of all numbers below n
pub greatest_all : (f : ℕ → ℕ) (n : ℕ)
    → unwrap_or (reduce (λ p z. max_by_ordering (nat_cmp p z) p z) (map f (range_with_len 0 n))) 0 ≡ greatest (λ t. true) f n
greatest_all f n =
    ap (λ (xs : List ℕ). unwrap_or (reduce (λ p z. max_by_ordering (nat_cmp p z) p z) (map f xs)) 0) (sym (all_pass (range_with_len 0 n)))
    ∙ greatest_list (λ t. true) f n
  where
    all_pass : (xs : List ℕ) → filter (λ t. true) xs ≡ xs
    all_pass [] = refl
    all_pass (x ∷ xs) = ap (λ (ys : List ℕ). x ∷ ys) (all_pass xs)

-- the diagnosis by the search's refusal
module _ (source target : List ℕ) where
  pub diagnosis_loads : search_fault source target ≡ 0 → Loads ≡ diagnosis source target
  unfolding search_fault diagnosis
  diagnosis_loads = by_fault (fault 32 source) (fault 64 target) (least_of source target)
    where
      by_fault : (f g : ℕ) (a : Math.Option (List ℕ)) → or_else f (or_else g (none_fault a)) ≡ 0 → Loads ≡ diagnosis_by (or_else f g) a source target
      by_fault zero zero none e = absurd (omega arith)
      by_fault zero zero (some m) e = refl
      by_fault zero (suc g) a e = absurd (omega arith)
      by_fault (suc f) g a e = absurd (omega arith)

  pub diagnosis_lack : search_fault source target ≡ 12 → lack_at source target (misfit source target) ≡ diagnosis source target
  unfolding search_fault diagnosis
  diagnosis_lack = by_fault (fault 32 source) (fault 64 target) (least_of source target) (fault_most 32 source) (fault_most 64 target)
    where
      by_fault : (f g : ℕ) (a : Math.Option (List ℕ)) → f ≤ 5 → g ≤ 5 → or_else f (or_else g (none_fault a)) ≡ 12
          → lack_at source target (misfit source target) ≡ diagnosis_by (or_else f g) a source target
      by_fault zero zero none h k e = refl
      by_fault zero zero (some m) h k e = absurd (omega arith)
      by_fault zero (suc g) a h k e = absurd (omega arith)
      by_fault (suc f) g a h k e = absurd (omega arith)

  pub diagnosis_refused : (r : Refusal) → r ≢ NoMap → number r ≡ search_fault source target → Refused r ≡ diagnosis source target
  unfolding search_fault diagnosis
  diagnosis_refused r d = by_fault (fault 32 source) (fault 64 target) (least_of source target)
    where
      known : (n : ℕ) → number r ≡ n → r ≡ refusal_of n
      known n e = sym (refusal_back r) ∙ ap refusal_of e

      by_fault : (f g : ℕ) (a : Math.Option (List ℕ)) → number r ≡ or_else f (or_else g (none_fault a))
          → Refused r ≡ diagnosis_by (or_else f g) a source target
      by_fault zero zero none e = absurd (d (known 12 e))
      by_fault zero zero (some m) e = absurd (number-ne0 r e)
      by_fault zero (suc g) a e = ap Refused (known (suc g) e)
      by_fault (suc f) g a e = ap Refused (known (suc f) e)

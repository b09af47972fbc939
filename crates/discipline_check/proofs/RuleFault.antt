-- The tests of the rules of a drawing: one law for each answer of the code, where the bytes are the code of a tree.
use Rattle.std.proofs.Common.{◌≡◌, ◌≢◌, sym, ap, ◌∙◌, ℕ, zero, suc, ◌+◌, ◌≤◌, ◌<◌, add-one, arith}
use Rattle.std.proofs.Common.{List, length, get_or, Result, Err, true, false, eqb, ltb}
use mathlib.Core.Bool.{and-true, and-false}
use borrow.Author.Tests.{lt-ltb, le-ltb, ne_eqb}
use Rattle.base.proofs.Tests.{refuted}
use Rattle.topology.specs.Tree.{width, size}
use Rattle.topology.specs.Address.{subtree, child_of}
use Rattle.topology.specs.Reader.{fault, tree}
use Rattle.topology.specs.Branch.{start}
use Rattle.topology.proofs.Lookup.{valid_size, valid_length, valid_width, valid_start, start_lt}
use Rattle.refusal.specs.Numbers.{number, number_of}
use Rattle.refusal.specs.declared.Refusal.{Refusal}
use Rattle.discipline_model.specs.Figure.{named, weighted, kind_at, weight_at, weighs, sound_at, all_sound_below, rule_fault}
use Rattle.discipline_model.specs.Scheduler.{is_leaf}
use Rattle.discipline_model.specs.declared.Discipline.{Discipline}
use Rattle.discipline_model.specs.declared.Rule.{Rule}
use Rattle.discipline_model.proofs.RuleFault.{weight-below, sound-below}

-- a number that names no discipline
unnamed : (k : ℕ) (r : Refusal) → Err r ≡ named k → (number r ≡ 24) × (weighted < k)
unnamed zero r e = cc
unnamed (suc zero) r e = cc
unnamed (suc (suc zero)) r e = cc
unnamed (suc (suc (suc k))) r e =
    let other : (n : ℕ) → n < 3 → eqb (suc (suc (suc k))) n ≡ false = λ n h. ne_eqb _ n (omega arith) in
    (ap (λ (o : Result Discipline Refusal). number_of o) (rw (other 0 (omega arith), other 1 (omega arith), other 2 (omega arith)) at e), omega arith)

module _ (bytes : List ℕ) (e : fault 64 bytes ≡ 0) where
  pub not_longer : 64 < length bytes → ⊥
  not_longer h = omega (arith, valid_length 64 bytes e)

  pub leaf_byte : (n : ℕ) → n < length bytes → eqb (get_or bytes n 0) 0 ≡ is_leaf (tree bytes) n
  leaf_byte n h = rw (valid_size 64 bytes e, lt-ltb n (length bytes) h, valid_width 64 bytes e n h)

  pub leaf_out : (n : ℕ) → length bytes ≤ n → false ≡ is_leaf (tree bytes) n
  leaf_out n h = rw (valid_size 64 bytes e, le-ltb n (length bytes) h)

  module _ (rules : List Rule) where
    -- a weighted node
    module _ (n : ℕ) (h : n < length bytes) (w : kind_at rules n ≡ weighted) where
      -- its child i + 1
      module _ (i : ℕ) (g : i < get_or bytes n 0) (c : ℕ) (s : c ≡ start bytes n i) where
        child_is : c ≡ child_of (tree bytes) n (suc i)
        child_is = s ∙ valid_start 64 bytes e n i h g

        pub share_within : c < 64
        share_within = omega (arith, start_lt 64 bytes e n i h g, valid_length 64 bytes e)

        pub share_next : weight_at rules c ≢ 0 → weighs (tree bytes) rules n i ≡ true → weighs (tree bytes) rules n (i + 1) ≡ true
        share_next q r = rw (add-one, r, ← child_is) (lt-ltb 0 (weight_at rules c) (omega arith))

        pub share_not : weight_at rules c ≡ 0 → false ≡ sound_at (tree bytes) rules n
        share_not q =
            let all = width (subtree (tree bytes) n) in
            let last : i < all = omega (arith, g, valid_width 64 bytes e n h) in
            rw (
              w,
              ← refuted (weighs (tree bytes) rules n all)
                  (λ r. omega (arith, weight-below (tree bytes) rules n all (suc i) (omega arith) last r, ap (weight_at rules) child_is)),
            )
            (sym (and-false (ltb 0 all)))

      pub share_all : (i : ℕ) → i ≡ get_or bytes n 0 → weighs (tree bytes) rules n i ≡ true → ltb 0 (get_or bytes n 0) ≡ sound_at (tree bytes) rules n
      share_all i a r =
          let all : width (subtree (tree bytes) n) ≡ i = omega (arith, valid_width 64 bytes e n h) in
          rw (w, all, r, ← a) (sym (and-true (ltb 0 i)))

    pub rules_refused : (n : ℕ) → n < length bytes → sound_at (tree bytes) rules n ≡ false → 24 ≡ rule_fault (tree bytes) rules
    unfolding rule_fault
    rules_refused n h s =
        let nodes = size (tree bytes) in
        let node : n < nodes = omega (arith, valid_size 64 bytes e) in
        rw (← refuted (all_sound_below (tree bytes) rules nodes) (λ a. cc (sound-below (tree bytes) rules nodes n node a)))

    pub rules_unnamed : (n : ℕ) → n < length bytes → (r : Refusal) → Err r ≡ named (kind_at rules n) → number r ≡ rule_fault (tree bytes) rules
    rules_unnamed n h r q =
        let no = unnamed (kind_at rules n) r q in
        let k : kind_at rules n ≢ weighted = omega arith in
        no.0 ∙ rules_refused n h (rw (ne_eqb (kind_at rules n) weighted k) (le-ltb (kind_at rules n) weighted (omega arith)))

    pub rules_pass : (n : ℕ) → n ≡ length bytes → all_sound_below (tree bytes) rules n ≡ true → 0 ≡ rule_fault (tree bytes) rules
    unfolding rule_fault
    rules_pass n a s =
        let nodes : size (tree bytes) ≡ n = omega (arith, valid_size 64 bytes e) in
        rw (nodes, s)

-- The answers of `least_depth`, one law for each.
use Rattle.std.proofs.Common.{◌≡◌, ℕ, ◌^◌, ◌≤◌, List, false, true, ◌&&◌, leb, cond, refl, sym, arith}
use borrow.Author.Tests.{leb-true}
use Rattle.std.proofs.lemmas.Bool.{and_parts}
use Rattle.refusal.specs.Numbers.{number}
use Rattle.refusal.specs.declared.Refusal.{Refusal}
use Rattle.refusal.proofs.Numbers.{refused_first}
use Rattle.topology.specs.Reader.{fault, tree}
use Rattle.topology.proofs.Reader.{within}
use Rattle.regular_model.specs.Depth.{LeastDepth, depth_fault}
use Rattle.regular_model.specs.InnerNeed.{enough, need, most_leaves}
use Rattle.regular_model.proofs.Enough.{enough-power}
use Rattle.regular_model.proofs.Bounds.{need_most}
use Rattle.regular_model.proofs.ReducedNeed.{depth_needed}

module _ (source : List ℕ) (d : ℕ) where
  pub not_drawn : (e : Refusal) → number e ≡ fault 32 source → number e ≡ depth_fault source d
  unfolding depth_fault
  not_drawn e h = refused_first e (fault 32 source) (cond (leb 2 d && leb d 8) 0 27) h

  module _ (drawn : 0 ≡ fault 32 source) where
    pub not_2_to_8 : leb 2 d && leb d 8 ≡ false → 27 ≡ depth_fault source d
    unfolding depth_fault
    not_2_to_8 e = rw (← drawn, e)

    module _ (degree : leb 2 d && leb d 8 ≡ true) where
      abbrev bounds : (leb 2 d ≡ true) × (leb d 8 ≡ true)
      bounds = and_parts (leb 2 d) (leb d 8) degree

      module _ (number : ℕ) (is : number ≡ d ^ need d (tree source)) where
        pub needed_most : number ≤ most_leaves
        needed_most =
            let z = leb-true 2 d bounds.0 in
            let most = leb-true d 8 bounds.1 in
            let w = within 32 source (sym drawn) in
            omega (arith, is, need_most d z most (tree source) w)

        pub answered : (0 ≡ depth_fault source d) × LeastDepth (tree source) d (enough d number)
        unfolding depth_fault
        answered =
            let z = leb-true 2 d bounds.0 in
            (rw (← drawn, degree) refl, rw (is, enough-power d z (need d (tree source))) (depth_needed d z (tree source)))

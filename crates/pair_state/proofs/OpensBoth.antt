-- The opening of both trees: it is refused, or the trees are in step.
use mathlib.Core.Path.{◌≡◌, refl, sym, ap, ◌∙◌}
use Prim.Native.Nat.{ℕ}
use mathlib.Core.List.{List}
use lib.ListN.{length, take}
use Rattle.std.specs.Prelude.{Result, Ok, Err, IfOk}
use Rattle.base.specs.Refusals.{or_else}
use Rattle.base.proofs.Refusals.{or_else_none}
use Rattle.refusal.specs.Numbers.{number, number_of}
use Rattle.refusal.specs.declared.Refusal.{Refusal}
use Rattle.refusal.proofs.Numbers.{refused_first}
use Rattle.embedding_model.specs.Least.{search_fault, search_map}
use Rattle.embedding_model.proofs.Search.{faultless, images_pass}
use Rattle.queue_limit.specs.Limit.{limit_fault}
use Rattle.queue_state.specs.Opening.{open_fault, opened_state}
use Rattle.queue_state.proofs.OpenedState.{opens, no_tree_ill}
use Rattle.pair_step.proofs.InStep.{opened_in_step}
use Rattle.pair_step.proofs.Alike.{both-numbers}
use Rattle.pair_state.specs.Opening.{both_fault, opened_pair, OpensBoth}
use Rattle.queue_state.specs.declared.State.{State}
use Rattle.pair_state.specs.declared.Pair.{Pair}

module _ (source target : List ℕ) (limit : ℕ) where
  -- if the search finds a map, both openings are refused by the limit's number alone
  module _ (e : search_fault source target ≡ 0) where
    numbers : (open_fault source limit ≡ limit_fault limit) × (open_fault target limit ≡ limit_fault limit)
    numbers = let f = faultless source target e in both-numbers source target f.0 f.1 limit

    limit_decides : both_fault source target limit ≡ limit_fault limit
    unfolding both_fault
    limit_decides = ap (λ (f : ℕ). or_else f (limit_fault limit)) e

    pub source_decides : open_fault source limit ≡ both_fault source target limit
    source_decides = numbers.0 ∙ sym limit_decides

  pub search_refused : (e : Refusal) → number e ≡ search_fault source target → number e ≡ both_fault source target limit
  unfolding both_fault
  search_refused e h = refused_first e (search_fault source target) (limit_fault limit) h

  found : both_fault source target limit ≡ 0 → (search_fault source target ≡ 0) × (limit_fault limit ≡ 0)
  unfolding both_fault
  found z = or_else_none (search_fault source target) (limit_fault limit) z

  pub opens-both : (r : Result (Pair State) Refusal) → number_of r ≡ both_fault source target limit → IfOk r (λ p. p ≡ opened_pair source target limit)
      → OpensBoth source target limit r
  opens-both (Ok p) e f =
      let z = found (sym e) in
      let g = faultless source target z.0 in
      let a : open_fault source limit ≡ 0 = (numbers z.0).0 ∙ z.1 in
      let b : open_fault target limit ≡ 0 = (numbers z.0).1 ∙ z.1 in
      record {
        refusal = e;
        drawn = rw f (opens source limit (Ok (opened_state source limit)) (sym a) refl).machine;
        chip = rw f (opens target limit (Ok (opened_state target limit)) (sym b) refl).machine;
        map = ap (λ (p : Pair State). p.map) f;
        nothing = no_tree_ill;
        in_step =
            rw f (opened_in_step source target (take (length source) (search_map source target)) g.0 g.1 (images_pass source target z.0) limit a b);
      }
  opens-both (Err r) e f = record { refusal = e; drawn = tt; chip = tt; map = tt; nothing = no_tree_ill; in_step = tt }

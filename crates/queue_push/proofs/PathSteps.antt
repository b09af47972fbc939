-- The steps of the code's path: step i, and the end. A path made of given steps has these steps, and one more step extends them.
use mathlib.Core.Path.{◌≡◌, refl, sym, ap, ◌∙◌}
use Prim.Native.Nat.{ℕ, suc, ◌+◌, ◌-◌, ◌≤◌, ◌<◌}
use native.Mathlib.Omega.{arith}
use mathlib.Core.List.{List, [], ◌∷◌, ◌++◌, map}
use lib.ListN.{length, take, drop, get_or, set, replicate, length-append, drop_of_length-le}
use lib.Seq.{drop-cons}
use borrow.Author.Tests.{lt-ltb}
use Rattle.std.proofs.lemmas.List.{length-map, get_or-map}
use Rattle.pifo_model.specs.Tree.{Step, step}
use Rattle.queue_push.specs.Calls.{step_of, steps_of, code_step, no_step, path_of, Plain, with_step, extended_by}
use Rattle.queue_push.specs.declared.Path.{Path}
use Rattle.queue_push.specs.declared.Step.{Step as CodeStep}

-- of the list that `Path::steps` answers
module _ (path : Path) (steps : List CodeStep) (i : ℕ) (e : steps ≡ take path.count path.steps) where
  pub step_at : i < length steps → drop i (steps_of path) ≡ step_of (get_or steps i no_step) ∷ drop (suc i) (steps_of path)
  step_at h =
      rw (← e)
      (drop-cons (map step_of steps) i (step_of no_step) (omega (arith, length-map steps step_of))
      ∙ ap (λ (s : Step). s ∷ drop (suc i) (map step_of steps)) (get_or-map step_of steps i no_step (step_of no_step) h))

  pub steps_end : length steps ≤ i → drop i (steps_of path) ≡ []
  steps_end h = rw (← e) (drop_of_length-le (map step_of steps) (omega (arith, length-map steps step_of)))

-- ---- paths of given steps

steps_front : (ss : List Step) (rest : List CodeStep) → map step_of (take (length ss) (map code_step ss ++ rest)) ≡ ss
steps_front [] rest = refl
steps_front (step i r ∷ ss) rest = ap (λ (l : List Step). step i r ∷ l) (steps_front ss rest)

pub steps_path : (ss : List Step) (l : ℕ) → steps_of (path_of ss l) ≡ ss
steps_path ss l = steps_front ss (replicate (9 - length ss) no_step)

pub path_plain : (ss : List Step) (l : ℕ) → Plain (path_of ss l)
path_plain ss l = ap (λ (f : List Step). path_of f l) (sym (steps_path ss l))

set_front : (ss : List Step) (s : Step) (n : ℕ)
    → set (map code_step ss ++ replicate (suc n) no_step) (length ss) (code_step s) ≡ map code_step (ss ++ (s ∷ [])) ++ replicate n no_step
set_front [] s n = refl
set_front (x ∷ ss) s n = ap (λ (l : List CodeStep). code_step x ∷ l) (set_front ss s n)

path_step : (ss : List Step) (l : ℕ) (s : Step) → length ss < 9 → with_step (path_of ss l) s ≡ path_of (ss ++ (s ∷ [])) l
path_step ss l s h =
    let n : 9 - length ss ≡ suc (9 - length (ss ++ (s ∷ []))) = omega (arith, length-append ss (s ∷ [])) in
    let count : length ss + 1 ≡ length (ss ++ (s ∷ [])) = omega (arith, length-append ss (s ∷ [])) in
    let places : (with_step (path_of ss l) s).steps ≡ (path_of (ss ++ (s ∷ [])) l).steps =
    ap (λ (k : ℕ). set (map code_step ss ++ replicate k no_step) (length ss) (code_step s)) n
    ∙ set_front ss s (9 - length (ss ++ (s ∷ []))) in
    λ i. record { steps = places i; count = count i; leaf_rank = l }

-- ---- one more step

module _ (path : Path) (child rank : ℕ) where
  pub extended-room : path.count < 9 → with_step path (step child rank) ≡ extended_by path child rank
  unfolding extended_by
  extended-room h = rw (lt-ltb path.count 9 h)

  -- for a path whose places past its last step are 0
  pub path_more : Plain path → path.count < 9 → extended_by path child rank ≡ path_of (steps_of path ++ (step child rank ∷ [])) path.leaf_rank
  path_more e h =
      sym (extended-room h)
      ∙ ap (λ (p : Path). with_step p (step child rank)) e
      ∙ path_step (steps_of path) path.leaf_rank (step child rank) (omega (arith, ap (λ (p : Path). p.count) e))

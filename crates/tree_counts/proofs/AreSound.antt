-- The test of a tree's rules (`test_rules`): what follows for the whole tree.
use mathlib.Core.Path.{◌≡◌, refl, sym, ap, ◌∙◌}
use Prim.Native.Nat.{ℕ, ◌≤◌}
use mathlib.Core.List.{List}
use mathlib.Core.Bool.{Bool, true, false, ◌&&◌, false≢true}
use lib.Dec.{eqb}
use Rattle.std.specs.Prelude.{Result, Ok, Err, is_ok}
use Rattle.refusal.specs.Numbers.{number_of}
use Rattle.refusal.proofs.Numbers.{is_ok-number}
use Rattle.tree_counts.specs.Sound.{TestsRules}
use Rattle.refusal.specs.declared.Refusal.{Refusal}
use Rattle.refusal.specs.declared.Refusal.TheVariants as r
use Rattle.topology.specs.Tree.{Topo}
use Rattle.topology.specs.Reader.{fault, tree}
use Rattle.queue_state.specs.State.{bytes, well_formed}
use Rattle.queue_state.specs.declared.State.{State}
use Rattle.queue_state.proofs.WellFormed.{formed}
use Rattle.queue_counts.specs.Amounts.{amount}
use Rattle.discipline_model.specs.Figure.{rule_fault}
use Rattle.discipline_model.specs.declared.Disciplines.{Disciplines}
use Rattle.tree_state.specs.Calls.{drawing, well_formed_by}
use Rattle.tree_state.specs.declared.Tree.{Tree}

-- If the state is well formed, the test decides whether the tree is.
module _ (t : Tree) (b : Bool) (z : t.state.frame.nodes ≤ 64 → fault 64 (bytes t.state) ≡ 0 → b ≡ eqb (rule_fault (drawing t) t.disciplines.rules) 0) where
  abbrev s : State
  s = t.state

  abbrev d : Disciplines
  d = t.disciplines

  abbrev S : Topo
  S = tree (bytes s)

  pub exact : well_formed s ≡ true → b ≡ eqb (rule_fault S d.rules) 0
  exact w = let f = formed s w in z f.nodes f.valid

  not_kept : b ≡ false → well_formed_by S t ≡ false
  unfolding well_formed_by
  not_kept f = by_form (well_formed s) refl
    where
      by_form : (w : Bool) → well_formed s ≡ w → (w && eqb (rule_fault S d.rules) 0) ≡ false
      by_form false n = refl
      by_form true y = sym (exact y) ∙ f

  kept-formed : b ≡ true → well_formed_by S t ≡ well_formed s
  unfolding well_formed_by
  kept-formed y = by_form (well_formed s) refl
    where
      by_form : (w : Bool) → well_formed s ≡ w → (w && eqb (rule_fault S d.rules) 0) ≡ w
      by_form false n = refl
      by_form true w = sym (exact w) ∙ y

  -- what `held` and `refusals` answer
  pub unanswered : (n : ℕ) → b ≡ false → Err r.State ≡ amount (well_formed_by S t) n
  unanswered n f = sym (ap (λ (w : Bool). amount w n) (not_kept f))

  pub answered : (n : ℕ) → b ≡ true → (o : Result ℕ Refusal) → o ≡ amount (well_formed s) n → o ≡ amount (well_formed_by S t) n
  answered n y o e = e ∙ ap (λ (w : Bool). amount w n) (sym (kept-formed y))

-- what the test of the rules by the tree's own bytes says
module _ (t : Tree) (bs : List ℕ) (same : bs ≡ bytes t.state) (o : Result Unit Refusal)
    (e : fault 64 bs ≡ 0 → number_of o ≡ rule_fault (tree bs) t.disciplines.rules) where
  judged : fault 64 (bytes t.state) ≡ 0 → is_ok o ≡ eqb (rule_fault (drawing t) t.disciplines.rules) 0
  judged v = is_ok-number o (rule_fault (drawing t) t.disciplines.rules) (rw (← same) (e (rw same v)))

  pub rules_refused : is_ok o ≡ false → TestsRules t (Err r.State)
  rules_refused n = record { within = λ y. absurd (false≢true y); passes = λ _ v. sym n ∙ judged v; refusal = refl }

  pub rules_pass : is_ok o ≡ true → t.state.frame.nodes ≤ 64 → TestsRules t (Ok tt)
  rules_pass y l = record { within = λ _. l; passes = λ _ v. sym y ∙ judged v; refusal = tt }

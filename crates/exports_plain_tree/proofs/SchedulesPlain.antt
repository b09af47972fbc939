-- A call on a plain tree: the contract for the tree that it stands for gives the contract for the numbers.
use mathlib.Core.Path.{◌≡◌, refl, sym, ap, ◌∙◌, subst}
use mathlib.Core.Logic.{◌≢◌}
use Prim.Native.Nat.{ℕ, zero, suc}
use native.Mathlib.Omega.{arith}
use Rattle.pifo_model.specs.Machine.{Answer, refused, number_of}
use Rattle.queue_state.specs.State.{Packet}
use Rattle.queue_state.specs.Calls.{answer_of}
use Rattle.queue_state.specs.declared.State.{State}
use Rattle.discipline_model.specs.Scheduler.{Scheduler, Request}
use Rattle.tree_state.specs.Calls.{scheduler_of, Schedules}
use Rattle.tree_state.specs.declared.Tree.{Tree}
use Rattle.tree_state.specs.declared.TreeServed.{TreeServed}
use Rattle.exports_plain_state.proofs.PlainBack.{state_back, is_written}
use Rattle.exports_plain_answers.specs.Answers.{value_of}
use Rattle.base.specs.Refusals.{unless_refused}
use Rattle.exports_plain_tree.specs.Trees.{tree_from, plain_tree}
use Rattle.exports_plain_tree.specs.Answers.{plain_served, answered, SchedulesPlain}
use Rattle.exports_plain_tree.specs.declared.PlainTree.{PlainTree}
use Rattle.exports_plain_tree.specs.declared.PlainTreeAnswer.{PlainTreeAnswer}

-- the tree that written numbers stand for
pub tree_back : (p : PlainTree) (t : Tree) → p ≡ plain_tree t → tree_from p ≡ t
tree_back p t e =
    ap tree_from e ∙ ap (λ (s : State). record { state = s; disciplines = t.disciplines }) (state_back (plain_tree t).state t.state refl)

module _ (refusal : Tree → ℕ) (server : Scheduler Packet → Request Packet → Answer Packet × Scheduler Packet) where
  is_answered : (t r : Tree) (q : Request Packet) (a : Answer Packet) → Schedules refusal server t q a r → a ≡ answered refusal server t q
  unfolding answered
  is_answered t r q a h = by_number (refusal t) (server (scheduler_of t) q).0 h.ill h.answer
    where
      by_number : (n : ℕ) (b : Answer Packet) → (n ≢ 0 → a ≡ refused n) → (n ≡ 0 → a ≡ b) → a ≡ unless_refused n b (refused n)
      by_number zero b i e = e refl
      by_number (suc n) b i e = i (omega arith)

  pub scheduled_plain : (p : PlainTree) (q : Request Packet) (t : Tree) (s : TreeServed) (r : PlainTreeAnswer) → t ≡ tree_from p
      → Schedules refusal server t q (answer_of s.answer) s.tree → r ≡ plain_served s → SchedulesPlain refusal server p q r
  scheduled_plain p q t s r is h e =
      let a = answer_of s.answer in
      let back = tree_back r.tree s.tree (ap (λ (x : PlainTreeAnswer). x.tree) e) in
      let g = subst (λ (u : Tree). Schedules refusal server u q a s.tree) is h in
      let f = subst (Schedules refusal server (tree_from p) q a) (sym back) g in
      let x = is_answered (tree_from p) s.tree q a g in
      record {
        refusal = ap (λ (x : PlainTreeAnswer). x.refusal) e ∙ ap number_of x;
        value = ap (λ (x : PlainTreeAnswer). x.value) e ∙ ap value_of x;
        schedules = subst (λ (z : Answer Packet). Schedules refusal server (tree_from p) q z (tree_from r.tree)) x f;
        written = is_written r.tree.state s.tree.state (ap (λ (x : PlainTreeAnswer). x.tree.state) e);
      }

-- No refusal has the number 0; and what follows for two tests in order.
use Rattle.std.proofs.Common.{◌≡◌, ◌≢◌, ℕ, zero, suc, ◌-◌, ◌<◌, List, [], ◌∷◌, get_or, refl, arith, sym, ap, ◌∙◌, one-add}
use Rattle.std.proofs.lemmas.Grind.{common_steps}
use Rattle.std.proofs.lemmas.List.{get_or-map}
use Rattle.std.proofs.lemmas.List.FromFn.{get_or-range_with_len}
use Rattle.base.specs.Refusals.{or_else, unless_refused}
use Rattle.base.proofs.Refusals.{or_else_first}
use Rattle.std.specs.Prelude.{Result, Ok, Err, is_ok, IfOk}
use Rattle.std.specs.Result.{IsErrAnd}
use Rattle.std.proofs.lemmas.Result.{err_from_is_err_and}
use lib.Dec.{eqb}
use borrow.Author.Tests.{ne_eqb}
use Rattle.refusal.specs.Numbers.{number, in_order, refusal_of, number_of, as_plain}
use Rattle.refusal.specs.declared.Refusal.{Refusal}
use Rattle.refusal.specs.declared.Refusal.TheVariants as r

pub number-ne0 : (e : Refusal) → number e ≢ 0
number-ne0 r.Incomplete = omega arith
number-ne0 r.Excess = omega arith
number-ne0 r.TooManyNodes = omega arith
number-ne0 r.TooManyChildren = omega arith
number-ne0 r.TooDeep = omega arith
number-ne0 r.MapLength = omega arith
number-ne0 r.NoSuchImage = omega arith
number-ne0 r.SharedImage = omega arith
number-ne0 r.RootMoved = omega arith
number-ne0 r.LeafMoved = omega arith
number-ne0 r.OrderBroken = omega arith
number-ne0 r.NoMap = omega arith
number-ne0 r.NoSuchChild = omega arith
number-ne0 r.EndsAboveLeaf = omega arith
number-ne0 r.Full = omega arith
number-ne0 r.Empty = omega arith
number-ne0 r.Limit = omega arith
number-ne0 r.State = omega arith
number-ne0 r.NoSuchBranch = omega arith
number-ne0 r.UnknownCommand = omega arith
number-ne0 r.CutShort = omega arith
number-ne0 r.OutOfTurn = omega arith
number-ne0 r.LateFinish = omega arith
number-ne0 r.Rules = omega arith
number-ne0 r.NoLeaf = omega arith
number-ne0 r.PassedNode = omega arith
number-ne0 r.Degree = omega arith

-- a refusal is known by its number
pub refusal_back : (e : Refusal) → refusal_of (number e) ≡ e
refusal_back r.Incomplete = refl
refusal_back r.Excess = refl
refusal_back r.TooManyNodes = refl
refusal_back r.TooManyChildren = refl
refusal_back r.TooDeep = refl
refusal_back r.MapLength = refl
refusal_back r.NoSuchImage = refl
refusal_back r.SharedImage = refl
refusal_back r.RootMoved = refl
refusal_back r.LeafMoved = refl
refusal_back r.OrderBroken = refl
refusal_back r.NoMap = refl
refusal_back r.NoSuchChild = refl
refusal_back r.EndsAboveLeaf = refl
refusal_back r.Full = refl
refusal_back r.Empty = refl
refusal_back r.Limit = refl
refusal_back r.State = refl
refusal_back r.NoSuchBranch = refl
refusal_back r.UnknownCommand = refl
refusal_back r.CutShort = refl
refusal_back r.OutOfTurn = refl
refusal_back r.LateFinish = refl
refusal_back r.Rules = refl
refusal_back r.NoLeaf = refl
refusal_back r.PassedNode = refl
refusal_back r.Degree = refl

-- a refusal of the first test is that of both
pub refused_first : (e : Refusal) (f rest : ℕ) → number e ≡ f → number e ≡ or_else f rest
refused_first e f rest h = h ∙ or_else_first f rest (λ z. number-ne0 e (h ∙ z))

-- if the first test refuses nothing, the second decides
pub accepted_first : (f rest n : ℕ) → 0 ≡ f → n ≡ rest → n ≡ or_else f rest
accepted_first f rest n h e = rw (← h) e

-- a result is no refusal exactly if its number is 0
pub is_ok-number : {A : Type 0} (o : Result A Refusal) (f : ℕ) → number_of o ≡ f → is_ok o ≡ eqb f 0
is_ok-number (Ok v) f h = rw (← h) refl
is_ok-number (Err e) f h = rw (← h) (sym (ne_eqb (number e) 0 (number-ne0 e)))

-- a result as C gets it, from its number and its value
pub plain_by_number : {A B : Type 0} (g : ℕ → A → B) (none a : A) (o : Result A Refusal) (f : ℕ) → number_of o ≡ f → IfOk o (λ v. v ≡ a)
    → as_plain g none o ≡ g f (unless_refused f a none)
plain_by_number g none a (Ok v) f h e = rw (← h, e) refl
plain_by_number g none a (Err r) zero h e = absurd (number-ne0 r h)
plain_by_number g none a (Err r) (suc f) h e = rw h refl

-- a number stands for one refusal
pub number-injective : (e f : Refusal) → number e ≡ number f → e ≡ f
number-injective e f h = sym (refusal_back e) ∙ ap refusal_of h ∙ refusal_back f

-- each number from 1 to 27 is that of some refusal
pub numbered : (n : ℕ) → n < 27 → (e : Refusal) × (number e ≡ suc n)
numbered n h =
    (get_or in_order n r.Degree, sym (get_or-map number in_order n r.Degree 0 h) ∙ get_or-range_with_len 1 27 n 0 h ∙ one-add n)

-- what the exit of a `?` returns, where the error is a refusal that stays as it is
pub residual_is : {T : Type 0} (r : Result T Refusal) (e : Refusal) → IsErrAnd r (λ y. y ≡ e) → r ≡ Err e
residual_is r e h =
    let p = err_from_is_err_and r h in
    p.1 ∙ ap Err p.2

-- As many pops as a machine holds packets: each gives a packet, the packets that leave are those that were held, and none is left.
use mathlib.Core.Path.{◌≡◌, refl, ap}
use Prim.Native.Nat.{ℕ, zero, suc}
use native.Mathlib.Omega.{arith}
use mathlib.Core.List.Permᴰ
use mathlib.Core.List.{List, [], ◌∷◌}
use mathlib.Core.Bool.{true}
use mathlib.Core.Option.{Option, none, some}
use lib.ListN.{length, replicate}
use Rattle.base.proofs.Permutation.{length_perm, perm_same}
use Rattle.pifo_model.specs.Tree.{PTree, pop, packets, held, well}
use Rattle.pifo_model.specs.Machine.{Machine, Call, popping, Answer, departed, holding, serve_pop, after, answers}
use Rattle.pifo_model.specs.Runs.{Drained}
use Rattle.pifo_model.proofs.Pop.{Popped, popped}

module _ {P : Type 0} where
  none_in : (l : List P) → length l ≡ 0 → [] ≡ l
  none_in [] e = refl
  none_in (x ∷ l) e = absurd (omega arith)

  pub drained : (n : ℕ) (m : Machine P) → well m.tree ≡ true → held m.tree ≡ n
      → let calls = replicate n popping in Drained m (answers m calls) (after m calls)
  drained zero m w e = record { each = refl; contents = perm_same (none_in (packets m.tree) e); empty = e }
  drained (suc n) m w e = by_pop (pop m.tree) (popped m.tree w) (λ k. drained n k)
    where
      calls : List (Call P)
      calls = replicate n popping

      by_pop : (o : Option (P × PTree P)) → Popped m.tree o
          → ((k : Machine P) → well k.tree ≡ true → held k.tree ≡ n → Drained k (answers k calls) (after k calls))
          → let r = serve_pop m o in Drained m (r.0 ∷ answers r.1 calls) (after r.1 calls)
      by_pop none z more = absurd (omega arith)
      by_pop (some (p, u)) z more =
          let rest = more (holding m u) z.sound (omega (arith, length_perm z.contents)) in
          record {
            each = ap (λ (l : List (Answer P)). departed p ∷ l) rest.each;
            contents = Permᴰ.trans (Permᴰ.cons refl rest.contents) (Permᴰ.symm z.contents);
            empty = rest.empty;
          }

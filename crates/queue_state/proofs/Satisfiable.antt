-- The contract of a call can be met: for every call there are an answer and a state after it (`serves_some`), and so every list of calls has an
-- execution (`execution_some`).
use mathlib.Core.Path.{◌≡◌, refl, sym, ap, ◌∙◌, subst}
use Prim.Native.Nat.{ℕ, zero, suc, ◌≤◌, min}
use native.Mathlib.Omega.{arith}
use mathlib.Core.List.{List, [], ◌∷◌}
use mathlib.Core.Bool.{Bool, true, false}
use mathlib.Core.Option.{Option, none, some}
use Rattle.base.proofs.Permutation.{length_perm}
use Rattle.topology.specs.Tree.{Topo}
use Rattle.topology.specs.Reader.{tree}
use Rattle.pifo_model.specs.Tree.{Step, path_fault, PTree, shape, push, pop, held, well}
use Rattle.pifo_model.specs.Machine.{Call, pushing, popping, Answer, accepted, departed, refused, full, room, most, serve, serve_pop, holding, counting as count}
use Rattle.pifo_model.proofs.Answers.{has_room, push-fault, push-full, push-accepted}
use Rattle.pifo_model.proofs.Numbered.{shape_assemble}
use Rattle.pifo_model.proofs.Push.{push_shape, push-held, push_well}
use Rattle.pifo_model.proofs.Pop.{Popped, popped}
use Rattle.queue_state.specs.State.{Packet, queues, bytes, tree_of, machine, in_bounds, well_formed}
use Rattle.queue_state.specs.Calls.{Serves, counting}
use Rattle.queue_state.specs.Demand.{Transition, History, Execution}
use Rattle.queue_state.specs.declared.State.{State}
use Rattle.queue_state.proofs.WellFormed.{Formed, formed}
use Rattle.queue_state.proofs.Serves.{apart, ill_served, served, full_same}
use Rattle.queue_state.proofs.Realized.{state_for, Fits, realized}

-- ---- calls

-- an answer that is no refusal
abbrev Moves : Answer Packet → Type 0
Moves (accepted h) = Unit
Moves (departed p) = Unit
Moves (refused n) = ⊥
Moves (full n c) = ⊥

abbrev Served : State → Call Packet → Type 0
Served s call = (a : Answer Packet) × (r : State) × Serves s call a r

module _ (s : State) (t : well_formed s ≡ true) where
  here : Formed s
  here = formed s t

  same_shape : shape (tree_of s) ≡ tree (bytes s)
  unfolding tree_of
  same_shape = shape_assemble (tree (bytes s)) (queues s) 0

  -- a call that leaves the state as it is
  stays : (call : Call Packet) (n : ℕ) → serve (machine s) call ≡ (refused n, machine s) → Served s call
  stays call n e = (refused n, s, served s s call (refused n) (machine s) e t refl t (λ _ _. refl) (λ _ _ q. apart q))

  -- a call that is counted
  counts : (call : Call Packet) (n c : ℕ) → serve (machine s) call ≡ (full n c, count (machine s) c) → Served s call
  unfolding machine well_formed in_bounds tree_of bytes queues
  counts call n c e = (
    full n c,
    counting s c,
    served s (counting s c) call (full n c) (count (machine s) c) e t refl t (λ _ q. apart (sym q)) (λ _ _ q. ap (counting s) (full_same q)),
  )

  -- a call that changes the tree
  moves : (call : Call Packet) (a : Answer Packet) (u : PTree Packet) → Moves a → serve (machine s) call ≡ (a, holding (machine s) u)
      → Fits (bytes s) (holding (machine s) u) → Served s call
  moves call a u m e f =
      let z = realized (bytes s) (holding (machine s) u) f in
      let r = state_for (bytes s) (holding (machine s) u) in (
        a,
        r,
        served s r call a (holding (machine s) u) e t z.machine z.formed (λ _ q. absurd (subst Moves q m)) (λ _ _ q. absurd (subst Moves q m)),
      )

  fits : (u : PTree Packet) → shape u ≡ shape (tree_of s) → well u ≡ true → held u ≤ s.frame.limit → Fits (bytes s) (holding (machine s) u)
  unfolding machine
  fits u e w h =
      record { valid = here.valid; topology = refl; least = here.least; most = here.most; shape = e ∙ same_shape; tree = w; room = h }

  pushes : (ss : List Step) (l : ℕ) (p : Packet) → Served s (pushing ss l p)
  unfolding machine
  pushes ss l p = by_fault (path_fault (tree (bytes s)) ss) refl
    where
      in_room : (n : ℕ) → path_fault (tree (bytes s)) ss ≡ 0 → room s.frame.limit (held (tree_of s)) ≡ n → Served s (pushing ss l p)
      in_room (suc n) e b = counts (pushing ss l p) (suc n) (min (suc s.refused) most) (push-full (machine s) ss l p n e b)
      in_room zero e b =
          let h = has_room s.frame.limit (held (tree_of s)) b in
          let f : path_fault (shape (tree_of s)) ss ≡ 0 = ap (λ (d : Topo). path_fault d ss) same_shape ∙ e in
          let u = push (tree_of s) ss l p in
          moves (pushing ss l p) (accepted (held u)) u tt (push-accepted (machine s) ss l p e b)
          (fits u (push_shape (tree_of s) ss l p) (push_well (tree_of s) ss l p f here.tree) (omega (arith, push-held (tree_of s) ss l p f)))

      by_fault : (f : ℕ) → path_fault (tree (bytes s)) ss ≡ f → Served s (pushing ss l p)
      by_fault (suc f) e = stays (pushing ss l p) (suc f) (push-fault (machine s) ss l p f e)
      by_fault zero e = in_room (room s.frame.limit (held (tree_of s))) e refl

  pops : Served s popping
  unfolding machine
  pops = by_pop (pop (tree_of s)) refl (popped (tree_of s) here.tree)
    where
      by_pop : (o : Option (Packet × PTree Packet)) → pop (tree_of s) ≡ o → Popped (tree_of s) o → Served s popping
      by_pop none e z = stays popping 16 (ap (serve_pop (machine s)) e)
      by_pop (some (p, u)) e z =
          moves popping (departed p) u tt (ap (serve_pop (machine s)) e)
          (fits u z.same z.sound (omega (arith, length_perm z.contents, here.room)))

pub serves_some : (s : State) (call : Call Packet) → (a : Answer Packet) × (r : State) × Serves s call a r
serves_some s call = by_form (well_formed s) refl call
  where
    by_form : (b : Bool) → well_formed s ≡ b → (call : Call Packet) → Served s call
    by_form false f c = (refused 18, s, ill_served s c f)
    by_form true t (pushing ss l p) = pushes s t ss l p
    by_form true t popping = pops s t

-- ---- lists of calls

module _ {S C : Type 0} (step : Transition S C) (step-some : (s : S) (c : C) → (a : Answer Packet) × (r : S) × step s c a r) where
  pub execution_some : (s : S) (calls : List C) → (vs : History S) × Execution step s calls vs
  execution_some s [] = ([], tt)
  execution_some s (c ∷ cs) =
      let first = step-some s c in
      let rest = execution_some first.1 cs in
      ((first.0, first.1) ∷ rest.0, (first.2, rest.1))

-- The calls on a tree by itself. Its drawing is that of its state, and `serve_own` is its server. So the contract of the call on the state (`Serves`)
-- and the contracts of the functions on disciplines give the contract `OwnServes`.
use mathlib.Core.Path.{◌≡◌, refl, sym, ap, ◌∙◌, subst}
use Prim.Native.Nat.{ℕ, ◌≤◌}
use native.Mathlib.Omega.{arith}
use mathlib.Core.List.{List}
use mathlib.Core.Bool.{Bool, true, false, cond}
use mathlib.Core.Option.{Option, none, some}
use lib.Dec.{eqb}
use Rattle.topology.specs.Tree.{Topo}
use Rattle.topology.specs.Address.{addr}
use Rattle.topology.specs.Reader.{fault, tree}
use Rattle.pifo_model.specs.Queue.{Rank}
use Rattle.pifo_model.specs.Tree.{PTree, pop}
use Rattle.pifo_model.specs.Machine.{Call, pushing, popping, Answer, accepted, departed, refused, full, serve, serve_pop}
use Rattle.queue_state.specs.State.{Packet, bytes, tree_of, machine, well_formed}
use Rattle.queue_state.specs.Calls.{Serves}
use Rattle.queue_state.specs.declared.State.{State}
use Rattle.queue_state.proofs.WellFormed.{formed}
use Rattle.std.specs.Prelude.{Option as CodeOption, Some, None}
use Rattle.base.proofs.Tests.{clash}
use Rattle.queue_push.specs.Calls.{steps_of}
use Rattle.queue_push.specs.declared.Path.{Path}
use Rattle.discipline_model.specs.Figure.{kind_at, rank_by, steps_down, with_finishes, rule_fault}
use Rattle.discipline_model.specs.Scheduler.{Request, calling, pushing_to, is_leaf, rank_at, serve_own}
use Rattle.discipline_model.specs.declared.Disciplines.{Disciplines}
use Rattle.queue_pop.specs.Way.{way_of}
use Rattle.discipline_clock.specs.Clock.{clocked, own_images}
use Rattle.discipline_clock.proofs.Clock.{clock_own}
use Rattle.discipline_clock.proofs.NoDeparture.{clock_ill, clock_idle}
use Rattle.discipline_path.specs.Plans.{Planned}
use Rattle.discipline_path.specs.declared.Plan.{Plan}
use Rattle.discipline_path.proofs.PlannedPush.{planned_call}
use Rattle.discipline_path.proofs.Finishes.{finishes_none, finishes_some}
use Rattle.tree_state.specs.Calls.{tree_with, drawing, own_refusal, OwnServes}
use Rattle.tree_below.specs.Below.{PushesAlong, settled, PushesPlanned, Pops}
use Rattle.tree_counts.proofs.AreSound.{exact}
use Rattle.tree_state.specs.declared.Tree.{Tree}
use Rattle.tree_state.proofs.Schedules.{Below, learnt, ill_scheduled, called, no_leaf, late, taken, not_taken}
use Rattle.tree_state.proofs.Below.{push-learnt, below_of, refused-accepted}
use Rattle.tree_state.proofs.Own.{own_ill, own_kept, own_is, own_after}

module _ (t : Tree) where
  abbrev s : State
  s = t.state

  abbrev d : Disciplines
  d = t.disciplines

  abbrev S : Topo
  S = tree (bytes s)

  -- the code's test of the rules
  module _ (b : Bool) (z : s.frame.nodes ≤ 64 → fault 64 (bytes s) ≡ 0 → b ≡ eqb (rule_fault (drawing t) d.rules) 0) where
    -- refused by 18: the rules have a fault, or the state has one
    pub unsound : b ≡ false → (q : Request Packet) → OwnServes t q (refused 18) t
    unsound f q = by_form (well_formed s) refl
      where
        by_form : (w : Bool) → well_formed s ≡ w → OwnServes t q (refused 18) t
        by_form false n = ill_scheduled own_refusal serve_own t q 18 (own_ill t n) (λ e. omega arith)
        by_form true y = ill_scheduled own_refusal serve_own t q 18 (own_kept t y false (sym (exact t b z y) ∙ f)) (λ e. omega arith)

    module _ (yes : b ≡ true) where
      rules_sound : well_formed s ≡ true → eqb (rule_fault S d.rules) 0 ≡ true
      rules_sound w = sym (exact t b z w) ∙ yes

      own_ok : well_formed s ≡ true → own_refusal t ≡ 0
      own_ok w = own_kept t w true (rules_sound w)

      -- a call on a state that is not well formed
      ill_call : (q : Request Packet) (c : Call Packet) (a : Answer Packet) (r : State) (after : Disciplines) → well_formed s ≡ false → Serves s c a r
          → after ≡ d → OwnServes t q a (tree_with r after)
      ill_call q c a r after n v k =
          let answer = v.ill n in
          let same : tree_with r after ≡ t = λ i. tree_with (v.unaltered 18 answer i) (k i) in
          rw (answer, same) (ill_scheduled own_refusal serve_own t q 18 (own_ill t n) (λ e. omega arith))

      -- a push by path
      pub by_path : (path : Path) (p : Packet) (a : Answer Packet) (u : Tree) → PushesAlong t path p a u
          → OwnServes t (calling (pushing (steps_of path) path.leaf_rank p)) a u
      by_path path p a u o = rw o.after (by_form (well_formed s) refl)
        where
          c : Call Packet
          c = pushing (steps_of path) path.leaf_rank p

          r : State
          r = o.state

          by_form : (w : Bool) → well_formed s ≡ w → OwnServes t (calling c) a (tree_with r d)
          by_form false n = ill_call (calling c) c a r d n o.below refl
          by_form true y =
              called S serve rank_at own_refusal serve_own t (own_ok y) (own_is t) c a r d (below_of s c a r y o.below)
              (sym (ap (learnt S d (rank_at (machine s))) (o.below.answer y)
              ∙ push-learnt S d (rank_at (machine s)) (machine s) (steps_of path) path.leaf_rank p))
              (own_after t c a r d y o.below (rules_sound y) refl)

      -- a pop, which also answers its way
      pub by_pop : (a : Answer Packet) (u : Tree) → Pops t (bytes s) own_images a u → OwnServes t (calling popping) a u
      unfolding machine
      by_pop a u o = rw o.after (by_form (well_formed s) refl)
        where
          r : State
          r = o.state

          v : Serves s popping a r
          v = o.below

          after : Disciplines
          after = clocked d (bytes s) (way_of s) own_images

          k : after ≡ clocked d (bytes s) (way_of s) own_images
          k = refl

          learns : (y : well_formed s ≡ true) (o : Option (Packet × PTree Packet)) → pop (tree_of s) ≡ o
              → after ≡ learnt S d (rank_at (machine s)) (serve_pop (machine s) o).0
          learns y none e = k ∙ clock_idle s d (bytes s) own_images y e
          learns y (some (p, u)) e = clock_own s d after y k

          by_form : (w : Bool) → well_formed s ≡ w → OwnServes t (calling popping) a (tree_with r after)
          by_form false n = ill_call (calling popping) popping a r after n v (k ∙ clock_ill s d (bytes s) own_images n)
          by_form true y =
              called S serve rank_at own_refusal serve_own t (own_ok y) (own_is t) popping a r after (below_of s popping a r y v)
              (learns y (pop (tree_of s)) refl ∙ ap (learnt S d (rank_at (machine s))) (sym (v.answer y)))
              (own_after t popping a r after y v (rules_sound y) (ap (λ (x : Disciplines). x.rules) k))

      -- a push to a leaf
      module _ (leaf class len : ℕ) (p : Packet) where
        abbrev q : Request Packet
        q = pushing_to leaf class len p

        -- refused by 25, tested after 18
        pub not_a_leaf : (l : Bool) → (fault 64 (bytes s) ≡ 0 → l ≡ is_leaf S leaf) → l ≡ false → OwnServes t q (refused (cond (well_formed s) 25 18)) t
        not_a_leaf l is f = by_form (well_formed s) refl
          where
            by_form : (w : Bool) → well_formed s ≡ w → OwnServes t q (refused (cond w 25 18)) t
            by_form false n = ill_scheduled own_refusal serve_own t q 18 (own_ill t n) (λ e. omega arith)
            by_form true y =
                no_leaf S serve rank_at own_refusal serve_own t (own_ok y) (own_is t) leaf class len p (sym (is (formed s y).valid) ∙ f)

        module _ (l : Bool) (is : fault 64 (bytes s) ≡ 0 → l ≡ is_leaf S leaf) (here : l ≡ true) (plan : Plan)
            (planned : fault 64 (bytes s) ≡ 0 → is_leaf S leaf ≡ true → Planned S d leaf class len plan) where
          module _ (w : well_formed s ≡ true) where
            at_leaf : is_leaf S leaf ≡ true
            at_leaf = sym (is (formed s w).valid) ∙ here

            the_plan : Planned S d leaf class len plan
            the_plan = planned (formed s w).valid at_leaf

            abbrev c : Call Packet
            c = pushing (steps_down S d class 0 (addr S leaf)) (rank_by (kind_at d.rules leaf) 0 class) p

          module _ (a : Answer Packet) (r : State) (v : Serves s (pushing (steps_of plan.path) plan.path.leaf_rank p) a r) where
            as_planned : (w : well_formed s ≡ true) → Serves s (c w) a r
            as_planned w = subst (λ (x : Call Packet). Serves s x a r) (planned_call S d leaf class len plan p (the_plan w)) v

            below : (w : well_formed s ≡ true) → Below serve s (c w) a r
            below w = below_of s (c w) a r w (as_planned w)

            -- it is accepted, so the state is well formed
            accepted-formed : (h : ℕ) → a ≡ accepted h → well_formed s ≡ true
            accepted-formed h e = by_form (well_formed s) refl
              where
                by_form : (w : Bool) → well_formed s ≡ w → w ≡ true
                by_form true y = refl
                by_form false n = absurd (refused-accepted (sym (v.ill n) ∙ e))

            pub leaf_late : (h : ℕ) → a ≡ accepted h → plan.finish ≡ None → OwnServes t q (refused 23) t
            leaf_late h e f =
                let w = accepted-formed h e in
                late S serve rank_at own_refusal serve_own t (own_ok w) (own_is t) leaf class len p (at_leaf w) a r (below w) h e
                (finishes_none S d len 0 (addr S leaf) d.finish (sym (the_plan w).finish ∙ f))

            pub leaf-taken : (h : ℕ) → a ≡ accepted h → (fs : List Rank) → plan.finish ≡ Some fs → OwnServes t q a (tree_with r (with_finishes d fs))
            leaf-taken h e fs f =
                let w = accepted-formed h e in
                let fits = finishes_some S d len 0 (addr S leaf) d.finish fs (sym (the_plan w).finish ∙ f) in
                let after = with_finishes d fs in
                taken S serve rank_at own_refusal serve_own t (own_ok w) (own_is t) leaf class len p (at_leaf w) a r (below w) h e fits.0 after
                (ap (with_finishes d) fits.1) (own_after t (c w) a r after w (as_planned w) (rules_sound w) refl)

            pub leaf_rest : ((h : ℕ) → a ≡ accepted h → ⊥) → OwnServes t q a (tree_with r d)
            leaf_rest n = by_form (well_formed s) refl
              where
                by_form : (w : Bool) → well_formed s ≡ w → OwnServes t q a (tree_with r d)
                by_form false i = ill_call q (pushing (steps_of plan.path) plan.path.leaf_rank p) a r d i v refl
                by_form true w =
                    not_taken S serve rank_at own_refusal serve_own t (own_ok w) (own_is t) leaf class len p (at_leaf w) a r (below w) n
                    (own_after t (c w) a r d w (as_planned w) (rules_sound w) refl)

          -- the push that the plan asks for, by the answer below
          leaf_settled : (a : Answer Packet) (r : State) → Serves s (pushing (steps_of plan.path) plan.path.leaf_rank p) a r
              → let v = settled t plan.finish a r in OwnServes t q v.0 v.1
          leaf_settled (accepted h) r v = by_finish plan.finish refl
            where
              by_finish : (o : CodeOption (List Rank)) → plan.finish ≡ o → let u = settled t o (accepted h) r in OwnServes t q u.0 u.1
              by_finish (Some fs) e = leaf-taken (accepted h) r v h refl fs e
              by_finish None e = leaf_late (accepted h) r v h refl e
          leaf_settled (departed x) r v = leaf_rest (departed x) r v (λ h e. clash (cc))
          leaf_settled (refused x) r v = leaf_rest (refused x) r v (λ h e. clash (cc))
          leaf_settled (full x k) r v = leaf_rest (full x k) r v (λ h e. clash (cc))

          pub by_leaf : (a : Answer Packet) (u : Tree) → PushesPlanned t plan.path plan.finish p a u → OwnServes t q a u
          by_leaf a u o =
              let v = leaf_settled o.answer o.state o.below in
              subst (λ (x : Answer Packet × Tree). OwnServes t q x.0 x.1) (sym o.outcome) v

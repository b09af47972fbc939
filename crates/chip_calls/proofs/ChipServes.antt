-- The calls on a chip's tree. The first tests refuse; or the call is refused by 18 if the state is not well formed, or by 6 to 11 or 26 for the map;
-- or it is served: the call below gets the carried path, and disciplines follow the drawing (`ChipServes`).
use mathlib.Core.Path.{◌≡◌, refl, sym, ap, ◌∙◌, subst}
use mathlib.Core.Logic.{◌≢◌}
use Prim.Native.Nat.{ℕ, zero, suc}
use native.Mathlib.Omega.{arith}
use mathlib.Core.List.{List, []}
use mathlib.Core.Bool.{Bool, true, false, cond}
use mathlib.Core.Option.{Option, none, some}
use Rattle.std.specs.Prelude.{Ok, Err, Option as CodeOption, Some, None}
use Rattle.base.specs.Refusals.{or_else}
use Rattle.base.proofs.Tests.{clash}
use Rattle.refusal.specs.Numbers.{number}
use Rattle.refusal.specs.declared.Refusal.{Refusal}
use Rattle.refusal.proofs.Numbers.{number-ne0}
use Rattle.topology.specs.Tree.{Topo}
use Rattle.topology.specs.Address.{addr}
use Rattle.topology.specs.Reader.{fault, tree}
use Rattle.topology.proofs.Lookup.{valid_size}
use Rattle.topology.proofs.Reader.{fault_wider}
use Rattle.pifo_model.specs.Queue.{Rank}
use Rattle.pifo_model.specs.Tree.{Step, path_fault, PTree, pop}
use Rattle.pifo_model.specs.Machine.{Call, pushing, popping, Answer, accepted, departed, refused, full, serve_pop}
use Rattle.embedding_model.specs.Check.{list_fault, map_fault}
use Rattle.embedding_model.specs.Rules.{image, Passes}
use Rattle.embedding_model.proofs.MapFault.{map_fault_none}
use Rattle.pair_model.specs.Carrying.{carry}
use Rattle.pair_model.specs.Simulation.{push_carried, serve_carried}
use Rattle.queue_state.specs.State.{Packet, bytes, tree_of, machine, well_formed}
use Rattle.queue_state.specs.Calls.{Serves}
use Rattle.queue_state.specs.declared.State.{State}
use Rattle.queue_state.proofs.WellFormed.{formed}
use Rattle.queue_push.specs.Calls.{steps_of}
use Rattle.queue_push.specs.declared.Path.{Path}
use Rattle.queue_pop.specs.Way.{way_of}
use Rattle.discipline_model.specs.Figure.{kind_at, rank_by, steps_down, with_finishes}
use Rattle.discipline_model.specs.Scheduler.{Request, calling, pushing_to, is_leaf}
use Rattle.discipline_model.specs.declared.Disciplines.{Disciplines}
use Rattle.discipline_model.proofs.StepsDown.{steps_valid}
use Rattle.discipline_clock.specs.Clock.{clocked}
use Rattle.discipline_clock.proofs.Clock.{rank_way, clock_after}
use Rattle.discipline_clock.proofs.NoDeparture.{clock_ill, clock_idle}
use Rattle.discipline_path.specs.Plans.{Planned}
use Rattle.discipline_path.specs.declared.Plan.{Plan}
use Rattle.discipline_path.proofs.PlannedPush.{planned_call}
use Rattle.discipline_path.proofs.Finishes.{finishes_none, finishes_some}
use Rattle.tree_below.specs.Below.{PushesAlong, settled, PushesPlanned, Pops}
use Rattle.tree_state.specs.declared.Tree.{Tree}
use Rattle.tree_state.specs.Calls.{tree_with}
use Rattle.tree_state.proofs.Schedules.{learnt, ill_scheduled, called, no_leaf, late, taken, not_taken}
use Rattle.tree_state.proofs.Below.{push-learnt, refused-accepted}
use Rattle.pair_step.specs.InStep.{ServesCarried}
use Rattle.pair_step.proofs.InStep.{carried_follows}
use Rattle.pair_schedule.specs.Chip.{image_rank}
use Rattle.translator.specs.Carry.{carry_fault, Carries}
use Rattle.translator.specs.PushesLand.{push_along}
use Rattle.translator.proofs.Carries.{carry_none}
use Rattle.translator.proofs.PushesLand.{carried_serves, refused_serves}
use Rattle.chip_state.specs.Calls.{chip_refusal, serve_mapped, ChipServes}
use Rattle.chip_state.proofs.ChipServes.{chip_after, below_carried, carried_drawing, chip_is}
use Rattle.chip_counts.specs.FirstFault.{first_fault}
use Rattle.chip_counts.proofs.FirstFault.{not_formed, first_number, drawing_valid, kept-formed}

-- ---- the calls

module _ (source m : List ℕ) (t : Tree) where
  abbrev s : State
  s = t.state

  abbrev d : Disciplines
  d = t.disciplines

  abbrev S : Topo
  S = tree source

  abbrev T : Topo
  T = tree (bytes s)

  module _ (n : ℕ) (e : n ≡ first_fault source s.frame.nodes d.rules) where
    -- the first tests refuse
    pub first_refused : n ≢ 0 → (q : Request Packet) → ChipServes source m t q (refused n) t
    unfolding chip_refusal
    first_refused z q =
        ill_scheduled (chip_refusal source m) (serve_mapped source m) t q n (first_number source t n e z (list_fault source (bytes s) m)) z

    -- the first tests do not refuse
    module _ (z : n ≡ 0) where
      valid : fault 32 source ≡ 0
      valid = drawing_valid source t n e z

      wide : fault 64 source ≡ 0
      wide = fault_wider 32 64 source (omega arith) valid

      ill_chip : well_formed s ≡ false → chip_refusal source m t ≡ 18
      unfolding chip_refusal
      ill_chip i = rw (valid, not_formed source t i) refl

      ill : well_formed s ≡ false → (q : Request Packet) → ChipServes source m t q (refused 18) t
      ill i q = ill_scheduled (chip_refusal source m) (serve_mapped source m) t q 18 (ill_chip i) (λ k. omega arith)

      ill_call : (q : Request Packet) (c : Call Packet) (a : Answer Packet) (r : State) (after : Disciplines) → well_formed s ≡ false → Serves s c a r
          → after ≡ d → ChipServes source m t q a (tree_with r after)
      ill_call q c a r after i v k =
          let answer = v.ill i in
          let same : tree_with r after ≡ t = λ j. tree_with (v.unaltered 18 answer j) (k j) in
          rw (answer, same) (ill i q)

      -- the map's number, if the state is well formed
      map-number : well_formed s ≡ true → map_fault source (bytes s) m ≡ list_fault source (bytes s) m
      unfolding map_fault
      map-number w = rw (valid, (formed s w).valid) refl

      map-chip : (w : well_formed s ≡ true) → chip_refusal source m t ≡ map_fault source (bytes s) m
      unfolding chip_refusal
      map-chip w = rw (valid, kept-formed source t n e z, w) (sym (map-number w))

      -- the answer for a refusal that is tested after 18
      abbrev tested : ℕ → Answer Packet
      tested k = refused (cond (well_formed s) k 18)

      -- refused by 6 to 11 or 26
      pub map-refused : (k : ℕ) → k ≡ map_fault source (bytes s) m → k ≢ 0 → (q : Request Packet) → ChipServes source m t q (tested k) t
      map-refused k h y q = by_form (well_formed s) refl
        where
          by_form : (w : Bool) → well_formed s ≡ w → ChipServes source m t q (refused (cond w k 18)) t
          by_form false i = ill i q
          by_form true w = ill_scheduled (chip_refusal source m) (serve_mapped source m) t q k (map-chip w ∙ sym h) y

      -- ---- the map meets the rules, and the state is well formed
      module _ (w : well_formed s ≡ true) (p : map_fault source (bytes s) m ≡ 0) where
        ok : chip_refusal source m t ≡ 0
        ok = map-chip w ∙ p

        passes : Passes S T m
        passes = ((map_fault_none source (bytes s) m).0 p).2

        -- the tree after the call below, with the rules that it had
        after_call : (c : Call Packet) (a : Answer Packet) (r : State) (after : Disciplines) → ServesCarried S T m s c a r → after.rules ≡ d.rules
            → well_formed r ≡ true → chip_refusal source m (tree_with r after) ≡ 0
        after_call c a r after v k y = chip_after source m t ok r after y (carried_drawing S T m s c a r w v) k

        formed_after : (c : Call Packet) (a : Answer Packet) (r : State) → ServesCarried S T m s c a r → well_formed r ≡ true
        formed_after c a r v = (carried_follows S T m s c a r w v).formed

        -- a push by path or a pop, from the call below
        by_call : (c : Call Packet) (a : Answer Packet) (r : State) (after : Disciplines) → ServesCarried S T m s c a r
            → after ≡ learnt S d (image_rank m (machine s)) a → after.rules ≡ d.rules → ChipServes source m t (calling c) a (tree_with r after)
        by_call c a r after v k g =
            called S (serve_carried S T m) (image_rank m) (chip_refusal source m) (serve_mapped source m) t ok (chip_is source m t) c a r after
            (below_carried S T m s c a r w v) k (after_call c a r after v g (formed_after c a r v))

      -- a push by path leaves disciplines as they were
      carried_learnt : (ss : List Step) (l : Rank) (p : Packet)
          → learnt S d (image_rank m (machine s)) (serve_carried S T m (machine s) (pushing ss l p)).0 ≡ d
      carried_learnt ss l p = by_fault (path_fault S ss)
        where
          by_fault : (f : ℕ) → learnt S d (image_rank m (machine s)) (push_carried f (machine s) (pushing (carry S T m ss) l p)).0 ≡ d
          by_fault zero = push-learnt S d (image_rank m (machine s)) (machine s) (carry S T m ss) l p
          by_fault (suc f) = refl

      -- ---- a push by path, whose path was carried over or refused
      module _ (path : Path) (packet : Packet) where
        abbrev request : Request Packet
        request = calling (push_along path packet)

        push-below : (w : well_formed s ≡ true) → map_fault source (bytes s) m ≡ 0 → (a : Answer Packet) (u : State)
            → ServesCarried S T m s (push_along path packet) a u → ChipServes source m t request a (tree_with u d)
        push-below w p a u v =
            by_call w p (push_along path packet) a u d v
            (sym (ap (learnt S d (image_rank m (machine s))) (carried_follows S T m s (push_along path packet) a u w v).answer
            ∙ carried_learnt (steps_of path) path.leaf_rank packet))
            refl

        pub path_refused : (f : Refusal) → Carries source (bytes s) m path (Err f) → ChipServes source m t request (tested (number f)) t
        unfolding carry_fault
        path_refused f o = by_map (map_fault source (bytes s) m) refl
          where
            by_form : (w : Bool) → well_formed s ≡ w → map_fault source (bytes s) m ≡ 0 → ChipServes source m t request (refused (cond w (number f) 18)) t
            by_form false i p = ill i request
            by_form true w p = push-below w p (refused (number f)) s (refused_serves source (bytes s) m path f o p s packet)

            by_map : (k : ℕ) → map_fault source (bytes s) m ≡ k → ChipServes source m t request (tested (number f)) t
            by_map zero p = by_form (well_formed s) refl p
            by_map (suc k) p =
                map-refused (number f) (o.refusal ∙ ap (λ (g : ℕ). or_else g (path_fault S (steps_of path))) p ∙ sym p) (number-ne0 f) request

        pub path_carried : (c : Path) → Carries source (bytes s) m path (Ok c) → (a : Answer Packet) (u : Tree) → PushesAlong t c packet a u
            → ChipServes source m t request a u
        path_carried c o a u g = rw g.after (by_form (well_formed s) refl)
          where
            by_form : (w : Bool) → well_formed s ≡ w → ChipServes source m t request a (tree_with g.state d)
            by_form false i = ill_call request (push_along c packet) a g.state d i g.below refl
            by_form true w =
                push-below w (carry_none source (bytes s) m (steps_of path) (sym o.refusal)).0 a g.state
                (carried_serves source (bytes s) m path c o s packet a g.state g.below)

      -- ---- a pop, which also answers its way
      pub by_pop : map_fault source (bytes s) m ≡ 0 → (a : Answer Packet) (u : Tree) → Pops t source m a u → ChipServes source m t (calling popping) a u
      unfolding machine
      by_pop p a u o = rw o.after (by_form (well_formed s) refl)
        where
          v : Serves s popping a o.state
          v = o.below

          after : Disciplines
          after = clocked d source (way_of s) m

          k : after ≡ clocked d source (way_of s) m
          k = refl

          learns : (w : well_formed s ≡ true) (o : Option (Packet × PTree Packet)) → pop (tree_of s) ≡ o
              → after ≡ learnt S d (image_rank m (machine s)) (serve_pop (machine s) o).0
          learns w none q = k ∙ clock_idle s d source m w q
          learns w (some (x, u)) q =
              let E = passes w p in
              let nodes = valid_size 32 source valid in
              clock_after source wide d (way_of s) m (image_rank m (machine s)) after (omega (arith, E.long, nodes))
              (λ n l kept. rank_way s (image m n) w (E.within n (omega (arith, nodes)) kept)) k

          by_form : (w : Bool) → well_formed s ≡ w → ChipServes source m t (calling popping) a (tree_with o.state after)
          by_form false i = ill_call (calling popping) popping a o.state after i v (k ∙ clock_ill s d source m i)
          by_form true w =
              by_call w p popping a o.state after v
              (learns w (pop (tree_of s)) refl ∙ ap (learnt S d (image_rank m (machine s))) (sym (v.answer w)))
              (ap (λ (x : Disciplines). x.rules) k)

      -- ---- a push to a leaf
      module _ (leaf class len : ℕ) (packet : Packet) where
        abbrev to_leaf : Request Packet
        to_leaf = pushing_to leaf class len packet

        -- refused by the map's number, or by 25
        pub not_a_leaf : (l : Bool) → (fault 64 source ≡ 0 → l ≡ is_leaf S leaf) → l ≡ false → (k : ℕ) → k ≡ or_else (map_fault source (bytes s) m) 25
            → ChipServes source m t to_leaf (tested k) t
        not_a_leaf l is f k e = by_map (map_fault source (bytes s) m) refl
          where
            by_form : (w : Bool) → well_formed s ≡ w → map_fault source (bytes s) m ≡ 0 → ChipServes source m t to_leaf (refused (cond w 25 18)) t
            by_form false i p = ill i to_leaf
            by_form true w p =
                no_leaf S (serve_carried S T m) (image_rank m) (chip_refusal source m) (serve_mapped source m) t (ok w p) (chip_is source m t)
                leaf class len packet (sym (is wide) ∙ f)

            by_map : (j : ℕ) → map_fault source (bytes s) m ≡ j → ChipServes source m t to_leaf (tested k) t
            by_map zero p = rw (e, p) (by_form (well_formed s) refl p)
            by_map (suc j) p =
                let same : k ≡ suc j = e ∙ ap (λ (g : ℕ). or_else g 25) p in
                map-refused k (same ∙ sym p) (omega (arith, same)) to_leaf

        module _ (l : Bool) (is : fault 64 source ≡ 0 → l ≡ is_leaf S leaf) (here : l ≡ true) (plan : Plan)
            (planned : fault 64 source ≡ 0 → is_leaf S leaf ≡ true → Planned S d leaf class len plan) where
          at_leaf : is_leaf S leaf ≡ true
          at_leaf = sym (is wide) ∙ here

          the_plan : Planned S d leaf class len plan
          the_plan = planned wide at_leaf

          abbrev below_call : Call Packet
          below_call = pushing (steps_down S d class 0 (addr S leaf)) (rank_by (kind_at d.rules leaf) 0 class) packet

          same_call : push_along plan.path packet ≡ below_call
          same_call = planned_call S d leaf class len plan packet the_plan

          -- the path of a plan has no fault in the drawing, so only the map can refuse it
          steps_of_lem : steps_of plan.path ≡ steps_down S d class 0 (addr S leaf)
          steps_of_lem = ap steps_in same_call
            where
              steps_in : Call Packet → List Step
              steps_in (pushing ss x y) = ss
              steps_in popping = []

          pub leaf-refused : (f : Refusal) → Carries source (bytes s) m plan.path (Err f) → ChipServes source m t to_leaf (tested (number f)) t
          unfolding carry_fault
          leaf-refused f o = map-refused (number f) (by_map (map_fault source (bytes s) m) refl) (number-ne0 f) to_leaf
            where
              by_map : (k : ℕ) → map_fault source (bytes s) m ≡ k → number f ≡ map_fault source (bytes s) m
              by_map zero p =
                  let none = ap (path_fault S) steps_of_lem ∙ steps_valid S d class leaf at_leaf in
                  absurd (number-ne0 f (o.refusal ∙ ap (λ (g : ℕ). or_else g (path_fault S (steps_of plan.path))) p ∙ none))
              by_map (suc k) p = o.refusal ∙ ap (λ (g : ℕ). or_else g (path_fault S (steps_of plan.path))) p ∙ sym p

          module _ (c : Path) (o : Carries source (bytes s) m plan.path (Ok c)) where
            mapped : map_fault source (bytes s) m ≡ 0
            mapped = (carry_none source (bytes s) m (steps_of plan.path) (sym o.refusal)).0

            module _ (a : Answer Packet) (u : State) (v : Serves s (push_along c packet) a u) where
              carried : ServesCarried S T m s below_call a u
              carried =
                  subst (λ (x : Call Packet). ServesCarried S T m s x a u) same_call
                  (carried_serves source (bytes s) m plan.path c o s packet a u v)

              accepted-formed : (h : ℕ) → a ≡ accepted h → well_formed s ≡ true
              accepted-formed h e = by_form (well_formed s) refl
                where
                  by_form : (w : Bool) → well_formed s ≡ w → w ≡ true
                  by_form true _ = refl
                  by_form false i = absurd (refused-accepted (sym (v.ill i) ∙ e))

              pub leaf_late : (h : ℕ) → a ≡ accepted h → plan.finish ≡ None → ChipServes source m t to_leaf (refused 23) t
              leaf_late h e f =
                  let w = accepted-formed h e in
                  late S (serve_carried S T m) (image_rank m) (chip_refusal source m) (serve_mapped source m) t (ok w mapped) (chip_is source m t)
                  leaf class len packet at_leaf a u (below_carried S T m s below_call a u w carried) h e
                  (finishes_none S d len 0 (addr S leaf) d.finish (sym the_plan.finish ∙ f))

              pub leaf-taken : (h : ℕ) → a ≡ accepted h → (fs : List Rank) → plan.finish ≡ Some fs
                  → ChipServes source m t to_leaf a (tree_with u (with_finishes d fs))
              leaf-taken h e fs f =
                  let w = accepted-formed h e in
                  let fits = finishes_some S d len 0 (addr S leaf) d.finish fs (sym the_plan.finish ∙ f) in
                  let after = with_finishes d fs in
                  taken S (serve_carried S T m) (image_rank m) (chip_refusal source m) (serve_mapped source m) t (ok w mapped) (chip_is source m t)
                  leaf class len packet at_leaf a u (below_carried S T m s below_call a u w carried) h e fits.0 after (ap (with_finishes d) fits.1)
                  (after_call w mapped below_call a u after carried refl (v.formed w))

              pub leaf_rest : ((h : ℕ) → a ≡ accepted h → ⊥) → ChipServes source m t to_leaf a (tree_with u d)
              leaf_rest n = by_form (well_formed s) refl
                where
                  by_form : (w : Bool) → well_formed s ≡ w → ChipServes source m t to_leaf a (tree_with u d)
                  by_form false i = ill_call to_leaf (push_along c packet) a u d i v refl
                  by_form true w =
                      not_taken S (serve_carried S T m) (image_rank m) (chip_refusal source m) (serve_mapped source m) t (ok w mapped) (chip_is source m t)
                      leaf class len packet at_leaf a u (below_carried S T m s below_call a u w carried) n
                      (after_call w mapped below_call a u d carried refl (v.formed w))

            -- the push that the plan asks for, by the answer below
            leaf_settled : (a : Answer Packet) (u : State) → Serves s (push_along c packet) a u
                → let x = settled t plan.finish a u in ChipServes source m t to_leaf x.0 x.1
            leaf_settled (accepted h) u v = by_finish plan.finish refl
              where
                by_finish : (o : CodeOption (List Rank)) → plan.finish ≡ o → let x = settled t o (accepted h) u in ChipServes source m t to_leaf x.0 x.1
                by_finish (Some fs) e = leaf-taken (accepted h) u v h refl fs e
                by_finish None e = leaf_late (accepted h) u v h refl e
            leaf_settled (departed x) u v = leaf_rest (departed x) u v (λ h e. clash (cc))
            leaf_settled (refused x) u v = leaf_rest (refused x) u v (λ h e. clash (cc))
            leaf_settled (full x k) u v = leaf_rest (full x k) u v (λ h e. clash (cc))

            pub by_leaf : (a : Answer Packet) (u : Tree) → PushesPlanned t c plan.finish packet a u → ChipServes source m t to_leaf a u
            by_leaf a u g =
                let v = leaf_settled g.answer g.state g.below in
                subst (λ (x : Answer Packet × Tree). ChipServes source m t to_leaf x.0 x.1) (sym g.outcome) v

-- The answers to a pop, case by case: what the code finds, and the machine's answer.
use Rattle.std.proofs.Common.{◌≡◌, ℕ, suc, ◌-◌, ◌<◌, List, [], ◌∷◌, Bool, true, false, cond, length, drop, get_or, refl, sym, ap, subst, ◌∙◌, arith}
use Rattle.std.specs.Prelude.{Option, None, Some, IsSome}
use Rattle.std.proofs.Math.Option.{Option as ModelOption, none, some}
use Rattle.std.proofs.Math.Seq.{drop-nil}
use Rattle.std.proofs.lemmas.List.{length-take-le}
use Rattle.base.specs.Tests.{is_in}
use Rattle.base.proofs.Permutation.{length_perm}
use Rattle.base.proofs.Tests.{clash}
use Rattle.topology.specs.Address.{sub, subtree}
use Rattle.topology.specs.Reader.{fault, tree}
use Rattle.topology.specs.Tree.{size}
use Rattle.topology.proofs.Numbering.{addr_root}
use Rattle.topology.proofs.Ancestry.{size_pos}
use Rattle.topology.proofs.Reader.{within}
use Rattle.topology.proofs.Lookup.{valid_size}
use Rattle.pifo_model.specs.Queue.{Entry}
use Rattle.pifo_model.specs.Tree.{pop, held}
use Rattle.pifo_model.specs.InnerNumbered.{descent, rest, popped}
use Rattle.pifo_model.specs.Machine.{popping, Answer, departed, refused, full, serve_pop, holding}
use Rattle.pifo_model.specs.Way.{way}
use Rattle.pifo_model.specs.Assembled.{assemble}
use Rattle.pifo_model.proofs.Numbered.{taken, assemble_same, pop_assemble}
use Rattle.pifo_model.proofs.Pop.{pop_none, pop_some}
use Rattle.pifo_model.proofs.Answers.{pop-refused}
use Rattle.pifo_model.proofs.Way.{none_way, Heads, way_assemble}
use Rattle.queue_state.specs.State.{Packet, queue_in, queues, bytes, tree_of, machine, well_formed}
use Rattle.queue_state.specs.Calls.{Serves}
use Rattle.queue_state.specs.InnerQueues.{with_queues}
use Rattle.queue_state.specs.declared.State.{State}
use Rattle.queue_state.specs.declared.Entry.{Entry as CodeEntry}
use Rattle.queue_state.proofs.Stretch.{start_order, queue_length}
use Rattle.queue_state.proofs.WellFormed.{Formed, formed, form}
use Rattle.queue_state.proofs.Arrays.{Arrays}
use Rattle.queue_state.proofs.Serves.{served}
use Rattle.queue_check.specs.Tests.{head_of, head_entry, Tests}
use Rattle.queue_check.specs.declared.Test.{Test}
use Rattle.queue_pop.specs.Way.{way_from, way_of}
use Rattle.queue_pop.specs.InnerDepartures.{Down, Pops}
use Rattle.queue_pop.specs.declared.departures.Trail.{Trail}
use Rattle.queue_pop.proofs.Gaps.{Closed, Closing, begin}

rest_drop : (b : Bool) (q : List (Entry Packet)) → drop (cond b 1 0) q ≡ cond b (rest q) q
rest_drop true [] = refl
rest_drop true (e ∷ q) = refl
rest_drop false q = refl

-- the state is not well formed
pub ill_way : (s : State) → well_formed s ≡ false → way_from 0 [] ≡ way_of s
unfolding way_of
ill_way s f = rw f

module _ (s : State) (ar : Arrays s) (test : Test) (x : Tests s (Some test)) (b : List ℕ) (is : b ≡ bytes s) where
  sound : well_formed s ≡ true
  sound = sym x.sound

  pub valid : fault 64 b ≡ 0
  valid = rw is (formed s sound).valid

  nodes : length b ≡ s.frame.nodes
  unfolding bytes
  nodes = ap length is ∙ length-take-le s.frame.nodes s.frame.topology (omega (arith, ar.topology, (formed s sound).nodes))

  long : (n : ℕ) → n < s.frame.nodes → length (queue_in s.lengths s.entries n) ≡ get_or s.lengths n 0
  long n h = queue_length s.lengths s.entries n (omega (arith, start_order s.lengths (suc n) s.frame.nodes h, (formed s sound).used, ar.entries))

  pub root : 0 < length b
  root = omega (arith, valid_size 64 b valid, size_pos (tree b))

  pub filled : (n : ℕ) → n < length b → IsSome (get_or test.heads n None) → 0 < get_or s.lengths n 0
  unfolding queues
  filled n h i =
      let low : n < s.frame.nodes = omega (arith, nodes) in
      omega (arith, long n low, by_head (get_or test.heads n None) (queue_in s.lengths s.entries n) i (x.heads.head n low))
    where
      by_head : (o : Option CodeEntry) (q : List (Entry Packet)) → IsSome o → head_of q ≡ head_entry o → 0 < length q
      by_head None q i h = absurd (clash (cc))
      by_head (Some e) [] i h = absurd (clash (cc))
      by_head (Some e) (y ∷ q) i h = omega arith

  -- the definition's way down by the heads of the state's queues, and its pop
  abbrev descends : ModelOption (Packet × List ℕ)
  descends = descent 9 (tree (bytes s)) 0 (queues s)

  popped_by : (o : ModelOption (Packet × List ℕ)) → descends ≡ o → pop (tree_of s) ≡ taken (tree (bytes s)) 0 (queues s) o
  unfolding tree_of
  popped_by o e =
      pop_assemble 9 (tree (bytes s)) (queues s) 0 (omega (arith, (within 64 (bytes s) (formed s sound).valid).steps))
      ∙ ap (taken (tree (bytes s)) 0 (queues s)) e

  module _ (r : Option Trail) (d : Pops b s.lengths test.heads 0 9 r) where
    here : Down s.lengths 0 (queues s) descends r
    here =
        let e : subtree (tree (bytes s)) 0 ≡ tree (bytes s) = ap (sub (tree (bytes s))) (addr_root (tree (bytes s))) in
        rw (is, e) at (d (queues s) (rw nodes x.heads))

  -- there is no way: the tree is empty
  module _ (d : Pops b s.lengths test.heads 0 9 None) where
    none_held : held (tree_of s) ≡ 0
    none_held = by_way descends refl (here None d)
      where
        by_way : (o : ModelOption (Packet × List ℕ)) → descends ≡ o → Down s.lengths 0 (queues s) o None → held (tree_of s) ≡ 0
        by_way none e y = pop_none (tree_of s) (formed s sound).tree (popped_by none e)
        by_way (some (p, ns)) e y = absurd y

    pub none_served : Serves s popping (refused 16) s
    unfolding machine
    none_served =
        served s s popping (refused 16) (machine s) (pop-refused (machine s) (formed s sound).tree none_held) sound refl sound
        (λ _ _. refl) (λ _ _ q. absurd (clash (cc)))

    pub none_way_of : way_from 0 [] ≡ way_of s
    unfolding way_of
    none_way_of = rw (none_way (tree_of s) 0 (formed s sound).tree none_held, ← x.sound)

  -- The way ends at a packet, and the definition's pop takes the head from each queue on the way.
  pub record Route (t : Trail) : Type 0 where
    pub nodes_of : List ℕ
    pub lengths : (m : ℕ) → get_or t.lengths m 0 ≡ get_or s.lengths m 0 - cond (is_in m nodes_of) 1 0
    pub leaves : pop (tree_of s) ≡ some (t.packet, assemble (tree (bytes s)) (popped nodes_of (queues s)) 0)
    pub taken : t.way ≡ way_from 0 (way (tree_of s) 0)

  module _ (t : Trail) (d : Pops b s.lengths test.heads 0 9 (Some t)) where
    route : Route t
    unfolding tree_of
    route = by_way descends refl (here (Some t) d)
      where
        by_way : (o : ModelOption (Packet × List ℕ)) → descends ≡ o → Down s.lengths 0 (queues s) o (Some t) → Route t
        by_way none e y = absurd y
        by_way (some (p, ns)) e w =
            let heads = subst (Heads (tree (bytes s)) 0 (queues s)) e (way_assemble 9 (tree (bytes s)) (queues s) 0) in
            record {
              nodes_of = ns;
              lengths = w.shorter;
              leaves = rw w.packet (popped_by (some (p, ns)) e);
              taken = w.way ∙ ap (way_from 0) (sym heads);
            }

    -- the way that it answers
    pub departed_way : t.way ≡ way_of s
    unfolding way_of
    departed_way = rw (← x.sound) route.taken

    pub closing : Closing s.frame.nodes s.lengths t.lengths s.entries s.entries 0 0 0
    closing =
        let f = formed s sound in begin s.frame.nodes s.lengths t.lengths s.entries ar.entries f.nodes f.used (λ n. omega (arith, route.lengths n))

    module _ (es : List CodeEntry) (cl : Closed s.frame.nodes s.lengths t.lengths s.entries es) where
      abbrev next : State
      next = with_queues s t.lengths es

      tree_after : tree_of next ≡ assemble (tree (bytes s)) (popped route.nodes_of (queues s)) 0
      unfolding tree_of bytes queues
      tree_after =
          let w = route in
          assemble_same (tree (bytes s)) (queue_in t.lengths es) (popped w.nodes_of (queue_in s.lengths s.entries)) 0
          (λ m g u.
          let h : m < s.frame.nodes = omega (arith, valid_size 64 b valid, ap (λ (l : List ℕ). size (tree l)) is, nodes) in
          cl.queues m h
          ∙ by_length m (is_in m w.nodes_of) (queue_in s.lengths s.entries m) (long m h) (w.lengths m)
          ∙ rest_drop (is_in m w.nodes_of) (queue_in s.lengths s.entries m))
        where
          by_length : (m : ℕ) (i : Bool) (q : List (Entry Packet)) → length q ≡ get_or s.lengths m 0
              → get_or t.lengths m 0 ≡ get_or s.lengths m 0 - cond i 1 0
              → drop (get_or s.lengths m 0 - get_or t.lengths m 0) q ≡ drop (cond i 1 0) q
          by_length m false q e x = let z : get_or s.lengths m 0 - get_or t.lengths m 0 ≡ 0 = omega arith in ap (λ (k : ℕ). drop k q) z
          by_length m true [] e x = drop-nil (get_or s.lengths m 0 - get_or t.lengths m 0)
          by_length m true (y ∷ q) e x = let z : get_or s.lengths m 0 - get_or t.lengths m 0 ≡ 1 = omega arith in ap (λ (k : ℕ). drop k (y ∷ q)) z

      popped_tree : pop (tree_of s) ≡ some (t.packet, tree_of next)
      popped_tree = rw tree_after route.leaves

      closed_served : Serves s popping (departed t.packet) next
      unfolding machine bytes
      closed_served =
          served s next popping (departed t.packet) (holding (machine s) (tree_of next)) (ap (serve_pop (machine s)) popped_tree) sound refl
          (form next next_formed) (λ _ e. never e) (λ _ _ e. never_full e)
        where
          never : {n p : ℕ} {A : Type 0} → ◌≡◌ {A = Answer Packet} (departed p) (refused n) → A
          never e = absurd (clash (cc))

          never_full : {n c p : ℕ} {A : Type 0} → ◌≡◌ {A = Answer Packet} (departed p) (full n c) → A
          never_full e = absurd (clash (cc))

          next_formed : Formed next
          next_formed =
              let f = formed s sound in
              let l = pop_some (tree_of s) t.packet (tree_of next) f.tree popped_tree in
              record {
                nodes = f.nodes;
                used = omega (arith, f.used, cl.fewer);
                valid = f.valid;
                least = f.least;
                most = f.most;
                tree = l.sound;
                room = omega (arith, f.room, length_perm l.contents);
              }

    pub departed_served : (r : State) → r.frame ≡ s.frame → r.refused ≡ s.refused → r.lengths ≡ t.lengths
        → Closed s.frame.nodes s.lengths t.lengths s.entries r.entries
        → Serves s popping (departed t.packet) r
    departed_served r f n l c =
        let same : r ≡ with_queues s t.lengths r.entries = λ i. record { frame = f i; lengths = l i; entries = r.entries; refused = n i } in
        subst (Serves s popping (departed t.packet)) (sym same) (closed_served r.entries c)

-- The way down from a node: the cases of `pop_from`, each as in the definition `descent`.
use Rattle.std.proofs.Common.{◌≡◌, ◌≢◌, ℕ, zero, suc, ◌-◌, ◌≤◌, ◌<◌, List, [], ◌∷◌, map, Bool, true, false, ◌||◌, cond, length}
use Rattle.std.proofs.Common.{get_or, set, replicate, eqb, ltb, refl, sym, ap, ◌∙◌, arith}
use Rattle.std.specs.Prelude.{Option, None, Some}
use Rattle.std.proofs.Math.Option.{Option as ModelOption, none, some}
use Rattle.std.proofs.lemmas.List.{length-set, get_or-set_same, get_or-set_other}
use native.Mathlib.Decide.{ℕ_discrete}
use borrow.Author.Tests.{eq-eqb, ne_eqb, lt-ltb, ltb-true}
use Rattle.base.specs.Tests.{is_in}
use Rattle.base.proofs.Tests.{clash}
use Rattle.topology.specs.Tree.{kids, width}
use Rattle.topology.specs.Address.{nth, child as child_tree, subtree, child_of}
use Rattle.topology.specs.Reader.{fault, tree}
use Rattle.topology.specs.Branch.{child_at}
use Rattle.topology.proofs.Children.{HasChild, child_of_lt, child_of_ahead, subtree-child_of}
use Rattle.topology.proofs.Lookup.{valid_size, valid_length, valid_child, valid_missing}
use Rattle.pifo_model.specs.Queue.{Entry, entry, child, packet}
use Rattle.pifo_model.specs.InnerNumbered.{kid_at, through, descent_by, descent}
use Rattle.pifo_model.specs.Way.{Taken, taken, taken_at, head_taken, head_at}
use Rattle.pifo_model.specs.Assembled.{Queues}
use Rattle.queue_state.specs.State.{Packet, entry_of, item_of}
use Rattle.queue_state.specs.declared.Item.{Item as CodeItem}
use Rattle.queue_state.specs.declared.Item.TheVariants.{Child, Packet as PacketItem}
use Rattle.queue_state.specs.declared.Entry.{Entry as CodeEntry}
use Rattle.queue_check.specs.Tests.{head_of, head_entry, Heading}
use Rattle.queue_pop.specs.InnerDepartures.{Leads, Down}
use Rattle.queue_pop.specs.Way.{code_taken, no_taken, way_from}
use Rattle.queue_pop.specs.declared.Way.{Way}
use Rattle.queue_pop.specs.declared.departures.Trail.{Trail}
use Rattle.queue_pop.proofs.WayLoop.{before, nothing}

a_head : (l : List (Entry Packet)) (x : Entry Packet) → head_of l ≡ Some x → (back : List (Entry Packet)) × (l ≡ x ∷ back)
a_head [] x e = absurd (clash (cc))
a_head (y ∷ l) x e = let same : y ≡ x = cc in (l, ap (λ (z : Entry Packet). z ∷ l) same)

-- one more queue loses an entry
less : (lengths after ns : List ℕ) (node : ℕ) → node < length after → ((m : ℕ) → get_or after m 0 ≡ get_or lengths m 0 - cond (is_in m ns) 1 0)
    → (m : ℕ) → get_or (set after node (get_or lengths node 0 - 1)) m 0 ≡ get_or lengths m 0 - cond (is_in m (node ∷ ns)) 1 0
less lengths after ns node h f m = by_node (ℕ_discrete node m)
  where
    by_node : Dec (node ≡ m) → get_or (set after node (get_or lengths node 0 - 1)) m 0 ≡ get_or lengths m 0 - cond (eqb node m || is_in m ns) 1 0
    by_node (yes e) = rw (← e, eq-eqb node node refl) (get_or-set_same after node (get_or lengths node 0 - 1) 0 h)
    by_node (no d) = rw (ne_eqb node m d) (get_or-set_other after node m (get_or lengths node 0 - 1) 0 (λ y. d (sym y)) ∙ f m)

-- the trail with the head of a node's queue taken, `depth` steps below the root; `rest` entries stay in that queue
abbrev pub taking : Trail → ℕ → ℕ → ℕ → ℕ → ℕ → Trail
taking t depth node i rank rest =
    record {
      packet = t.packet;
      way = record { taken = set t.way.taken depth (record { node = node; child = i; rank = rank }); count = t.way.count };
      lengths = set t.lengths node rest;
    }

pub next_lt : (bytes : List ℕ) → fault 64 bytes ≡ 0 → (node c next : ℕ) → child_at bytes node c ≡ Some next → next < length bytes
next_lt bytes v node c next m =
    let has = valid_child 64 bytes v node c next m in
    omega (arith, has.1, child_of_lt (tree bytes) node c has.0, valid_size 64 bytes v)

module _ (bytes : List ℕ) (v : fault 64 bytes ≡ 0) (lengths : List ℕ) (wide : length lengths ≡ 64) (heads : List (Option CodeEntry))
    (node : ℕ) (there : node < length bytes) (left : ℕ) (z : left ≢ 0) (short : left ≤ 9) (head : CodeEntry) (is : get_or heads node None ≡ Some head)
    (q : Queues Packet) (g : Heading heads q (length bytes)) where
  abbrev rest : ℕ
  rest = get_or lengths node 0 - 1

  abbrev here : ModelOption (Packet × List ℕ)
  here = descent left (subtree (tree bytes) node) node q

  -- the way down from child i of the node, and the way down by a queue of the node
  abbrev at_child : ℕ → ModelOption (Packet × List ℕ)
  at_child i = descent (left - 1) (nth (kids (subtree (tree bytes) node)) i) (kid_at (subtree (tree bytes) node) node i) q

  abbrev by_queue : List (Entry Packet) → ModelOption (Packet × List ℕ)
  by_queue l = descent_by l (width (subtree (tree bytes) node)) node at_child

  -- the queue has this head, and the definition takes its step from it
  by_head : (back : List (Entry Packet)) × (q node ≡ entry_of head ∷ back)
  by_head = a_head (q node) (entry_of head) (g.head node there ∙ ap head_entry is)

  by_item : (x : CodeItem) → head.item ≡ x → (back : List (Entry Packet)) × (q node ≡ entry head.rank (item_of x) ∷ back)
  by_item x e = (by_head.0, by_head.1 ∙ ap (λ (y : CodeItem). entry head.rank (item_of y) ∷ by_head.0) e)

  step : here ≡ by_queue (q node)
  step = by_left left refl
    where
      by_left : (k : ℕ) → left ≡ k → here ≡ by_queue (q node)
      by_left zero e = absurd (z e)
      by_left (suc k) e = let l : left ≡ suc (left - 1) = omega arith in ap (λ (n : ℕ). descent n (subtree (tree bytes) node) node q) l

  -- one more node on the way, whose queue has the head that the way takes
  takes : (i : ℕ) (back : List (Entry Packet)) (x : Entry Packet) → q node ≡ x ∷ back → taken_at node x ≡ taken node i head.rank
      → (d : ℕ) (p : Packet) (ns : List ℕ) (t : Trail) → Leads lengths (suc d) q p ns t
      → Leads lengths d q p (node ∷ ns) (taking t d node i head.rank rest)
  takes i back x e k d p ns t w =
      record {
        packet = w.packet;
        long = length-set t.lengths node rest ∙ w.long;
        shorter = less lengths t.lengths ns node (omega (arith, w.long, valid_length 64 bytes v)) w.shorter;
        way =
            ap (λ (y : Way). record { taken = set y.taken d (code_taken (taken node i head.rank)); count = y.count }) w.way
            ∙ before d node i head.rank (map (head_at q) ns)
            ∙ ap (λ (y : Taken). way_from d (y ∷ map (head_at q) ns)) (sym (ap (head_taken node) e ∙ k));
      }

  depth : 10 - left ≡ suc (9 - left)
  depth = omega (arith, z)

  -- the trail at a leaf, before its head is taken
  abbrev none_taken : ℕ → Trail
  none_taken p = record { packet = p; way = record { taken = replicate 9 no_taken; count = 10 - left }; lengths = lengths }

  pub a_packet : (p : ℕ) → head.item ≡ PacketItem p → Down lengths (9 - left) q here (Some (taking (none_taken p) (9 - left) node 0 head.rank rest))
  a_packet p e =
      let h = by_item (PacketItem p) e in
      let start : Leads lengths (suc (9 - left)) q p [] (none_taken p) =
      record {
        packet = refl;
        long = wide;
        shorter = λ m. omega arith;
        way = nothing (10 - left) (omega (arith, z)) ∙ ap (λ (k : ℕ). way_from k []) depth;
      } in
      rw (step, h.1) (takes 0 h.0 (entry head.rank (packet p)) h.1 refl (9 - left) p [] (none_taken p) start)

  module _ (c : ℕ) (e : head.item ≡ Child c) where
    pub no_child : child_at bytes node c ≡ None → Down lengths (9 - left) q here None
    no_child m = rw (step, (by_item (Child c) e).1) (by_child c refl)
      where
        by_test : (i : ℕ) (k : Bool) → ltb i (width (subtree (tree bytes) node)) ≡ k → c ≡ suc i
            → Down lengths (9 - left) q (cond k (through node (at_child i)) none) None
        by_test i true t y =
            absurd
            (valid_missing 64 bytes v node c m
            (omega (arith, there, valid_size 64 bytes v), omega arith, omega (arith, ltb-true i (width (subtree (tree bytes) node)) t)))
        by_test i false t y = tt

        by_child : (k : ℕ) → c ≡ k → Down lengths (9 - left) q (by_queue (entry head.rank (child k) ∷ (by_item (Child c) e).0)) None
        by_child zero y = tt
        by_child (suc i) y = by_test i (ltb i (width (subtree (tree bytes) node))) refl y

    module _ (next : ℕ) (m : child_at bytes node c ≡ Some next) where
      has : HasChild (tree bytes) node c × (next ≡ child_of (tree bytes) node c)
      has = valid_child 64 bytes v node c next m

      abbrev below : ModelOption (Packet × List ℕ)
      below = descent (left - 1) (subtree (tree bytes) next) next q

      -- the definition continues at the same child
      same_way : here ≡ through node below
      same_way = step ∙ ap by_queue (by_item (Child c) e).1 ∙ by_child c refl
        where
          by_child : (k : ℕ) → c ≡ k
              → by_queue (entry head.rank (child k) ∷ (by_item (Child c) e).0) ≡ through node below
          by_child zero y = absurd (omega (arith, has.0.1))
          by_child (suc i) y =
              let tr : nth (kids (subtree (tree bytes) node)) i ≡ subtree (tree bytes) next =
              sym (ap (subtree (tree bytes)) has.1 ∙ subtree-child_of (tree bytes) node c has.0
              ∙ ap (child_tree (subtree (tree bytes) node)) y) in
              let kd : kid_at (subtree (tree bytes) node) node i ≡ next =
              sym (has.1 ∙ ap (child_of (tree bytes) node) y ∙ child_of_ahead (tree bytes) node i has.0.0) in
              rw (lt-ltb i (width (subtree (tree bytes) node)) (omega (arith, has.0.2)), tr, kd)

      pub none_below : Down lengths (9 - (left - 1)) q below None → Down lengths (9 - left) q here None
      none_below d = rw same_way (by_way below d)
        where
          by_way : (w : ModelOption (Packet × List ℕ)) → Down lengths (9 - (left - 1)) q w None → Down lengths (9 - left) q (through node w) None
          by_way none y = tt
          by_way (some (p, ns)) y = absurd y

      pub found_below : (b : Trail) → Down lengths (9 - (left - 1)) q below (Some b)
          → Down lengths (9 - left) q here (Some (taking b (9 - left) node c head.rank rest))
      found_below b d = rw same_way (by_way below d)
        where
          by_way : (w : ModelOption (Packet × List ℕ)) → Down lengths (9 - (left - 1)) q w (Some b)
              → Down lengths (9 - left) q (through node w) (Some (taking b (9 - left) node c head.rank rest))
          by_way none y = absurd y
          by_way (some (p, ns)) y =
              let h = by_item (Child c) e in
              let k : 9 - (left - 1) ≡ suc (9 - left) = omega (arith, z) in
              takes c h.0 (entry head.rank (child c)) h.1 refl (9 - left) p ns b (rw k at y)

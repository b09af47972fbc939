-- Push and pop queue by queue: the queue at each address before and after. A path makes one entry at each address on its way (`along`). A push inserts
-- these entries (`push_queue`). A pop takes the entries of some path from the heads of the queues (`pop_trail`). Conversely, if the entries of a path
-- are at the heads, a pop takes them (`trail_pop`).
use mathlib.Core.Path.{◌≡◌, refl, ap, ◌∙◌}
use Prim.Native.Nat.{ℕ, zero, suc, ◌<◌}
use native.Mathlib.Nat.{not-suc-le-zero, le_of_suc-le-suc, zero-lt-suc}
use mathlib.Core.List.{List, [], ◌∷◌}
use mathlib.Core.Bool.{true, cond}
use mathlib.Core.Option.{Option, none, some}
use lib.ListN.{length}
use lib.Dec.{eqb, eqb-zero-suc, eqb-suc-zero, eqb-suc-suc}
use borrow.Author.Tests.{eq-eqb}
use Rattle.std.proofs.lemmas.Bool.{and_parts}
use Rattle.topology.specs.Tree.{Topo, Forest, node, fnil, fcons, count}
use Rattle.topology.specs.Address.{Addr, nth, In}
use Rattle.pifo_model.specs.Queue.{Entry, child, packet, entry, rises_from, insert_some}
use Rattle.pifo_model.specs.Tree.{Step, step, path_fault, PTree, PForest, pnode, pnil, pcons, shape, shapes, push, push_at, pop, pop_at, with_queue, with_later, with-elder, empty, empties, held, well, wells}
use Rattle.pifo_model.specs.Addressed.{queue_at, queue_in, along, atop}
use Rattle.pifo_model.specs.Way.{takes, takes_in}
use Rattle.pifo_model.proofs.Well.{well_parts, length-held}
use Rattle.pifo_model.proofs.PathFault.{end_fault, fault_step, step_fault}
use Rattle.pifo_model.proofs.Pop.{child_own, leaf_own}

module _ {P : Type 0} where
  mutual
    pub push_queue : (t : PTree P) (ss : List Step) (l : ℕ) (p : P) (a : Addr) → path_fault (shape t) ss ≡ 0
        → queue_at (push t ss l p) a ≡ insert_some (along ss l p a) (queue_at t a)
    push_queue (pnode q ts) [] l p [] h = refl
    push_queue (pnode q ts) [] l p (zero ∷ a) h = refl
    push_queue (pnode q ts) [] l p (suc j ∷ a) h = refl
    push_queue (pnode q ts) (step i r ∷ ss) l p [] h = refl
    push_queue (pnode q ts) (step zero r ∷ ss) l p (j ∷ a) h = absurd (not-suc-le-zero (fault_step (node (shapes ts)) 0 r ss h).low)
    push_queue (pnode q ts) (step (suc i) r ∷ ss) l p (zero ∷ a) h = rw (eqb-suc-zero i)
    push_queue (pnode q ts) (step (suc i) r ∷ ss) l p (suc j ∷ a) h =
        let f = fault_step (node (shapes ts)) (suc i) r ss h in
        rw (eqb-suc-suc i j) (push_at_queue ts i ss l p j a f.high f.rest)

    push_at_queue : (ts : PForest P) (i : ℕ) (ss : List Step) (l : ℕ) (p : P) (j : ℕ) (a : Addr) → i < count (shapes ts)
        → path_fault (nth (shapes ts) i) ss ≡ 0
        → queue_in (push_at ts (suc i) ss l p) j a ≡ insert_some (cond (eqb i j) (along ss l p a) none) (queue_in ts j a)
    push_at_queue pnil i ss l p j a g h = absurd (not-suc-le-zero g)
    push_at_queue (pcons t ts) zero ss l p zero a g h = push_queue t ss l p a h
    push_at_queue (pcons t ts) zero ss l p (suc j) a g h = rw (eqb-zero-suc j)
    push_at_queue (pcons t ts) (suc i) ss l p zero a g h = rw (eqb-suc-zero i)
    push_at_queue (pcons t ts) (suc i) ss l p (suc j) a g h = rw (eqb-suc-suc i j) (push_at_queue ts i ss l p j a (le_of_suc-le-suc g) h)

  -- for a pop that gives packet p and leaves tree u: the path whose entries it takes from the heads
  pub record Trail (t : PTree P) (p : P) (u : PTree P) : Type 0 where
    pub steps : List Step
    pub last : ℕ
    pub valid : path_fault (shape t) steps ≡ 0
    pub queues : (a : Addr) → queue_at t a ≡ atop (along steps last p a) (queue_at u a)

  abbrev pub Trails : PTree P → Option (P × PTree P) → Type 0
  Trails t none = Unit
  Trails t (some (p, u)) = Trail t p u

  record TrailAt (ts : PForest P) (i : ℕ) (p : P) (us : PForest P) : Type 0 where
    steps : List Step
    last : ℕ
    valid : path_fault (nth (shapes ts) i) steps ≡ 0
    queues : (j : ℕ) (a : Addr) → queue_in ts j a ≡ atop (cond (eqb i j) (along steps last p a) none) (queue_in us j a)

  abbrev TrailsAt : PForest P → ℕ → Option (P × PForest P) → Type 0
  TrailsAt ts i none = Unit
  TrailsAt ts i (some (p, us)) = TrailAt ts i p us

  of_packet : (r : ℕ) (p : P) (q : List (Entry P)) (ts : PForest P) → count (shapes ts) ≡ 0 → Trail (pnode (entry r (packet p) ∷ q) ts) p (pnode q ts)
  of_packet r p q ts e = record { steps = []; last = r; valid = end_fault (node (shapes ts)) e; queues = same }
    where
      same : (a : Addr) → queue_at (pnode (entry r (packet p) ∷ q) ts) a ≡ atop (along [] r p a) (queue_at (pnode q ts) a)
      same [] = refl
      same (zero ∷ a) = refl
      same (suc j ∷ a) = refl

  of_child : (r i : ℕ) (q : List (Entry P)) (ts : PForest P) → i < count (shapes ts) → (o : Option (P × PForest P)) → TrailsAt ts i o
      → Trails (pnode (entry r (child (suc i)) ∷ q) ts) (with_queue q o)
  of_child r i q ts g none z = tt
  of_child r i q ts g (some (p, us)) z =
      record {
        steps = step (suc i) r ∷ z.steps;
        last = z.last;
        valid = step_fault (node (shapes ts)) (suc i) r z.steps record { low = zero-lt-suc i; high = g; rest = z.valid };
        queues = same;
      }
    where
      same : (a : Addr) → queue_at (pnode (entry r (child (suc i)) ∷ q) ts) a ≡ atop (along (step (suc i) r ∷ z.steps) z.last p a) (queue_at (pnode q us) a)
      same [] = refl
      same (zero ∷ a) = rw (eqb-suc-zero i)
      same (suc j ∷ a) = rw (eqb-suc-suc i j) (z.queues j a)

  here : (t : PTree P) (ts : PForest P) (o : Option (P × PTree P)) → Trails t o → TrailsAt (pcons t ts) 0 (with_later ts o)
  here t ts none z = tt
  here t ts (some (p, u)) z = record { steps = z.steps; last = z.last; valid = z.valid; queues = same }
    where
      same : (j : ℕ) (a : Addr) → queue_in (pcons t ts) j a ≡ atop (cond (eqb 0 j) (along z.steps z.last p a) none) (queue_in (pcons u ts) j a)
      same zero a = z.queues a
      same (suc j) a = rw (eqb-zero-suc j)

  later : (t : PTree P) (ts : PForest P) (i : ℕ) (o : Option (P × PForest P)) → TrailsAt ts i o → TrailsAt (pcons t ts) (suc i) (with-elder t o)
  later t ts i none z = tt
  later t ts i (some (p, us)) z = record { steps = z.steps; last = z.last; valid = z.valid; queues = same }
    where
      same : (j : ℕ) (a : Addr) → queue_in (pcons t ts) j a ≡ atop (cond (eqb (suc i) j) (along z.steps z.last p a) none) (queue_in (pcons t us) j a)
      same zero a = rw (eqb-suc-zero i)
      same (suc j) a = rw (eqb-suc-suc i j) (z.queues j a)

  mutual
    pub pop_trail : (t : PTree P) → well t ≡ true → Trails t (pop t)
    pop_trail (pnode [] ts) h = tt
    pop_trail (pnode (entry r (packet p) ∷ q) ts) h =
        of_packet r p q ts (leaf_own (count (shapes ts)) r p q (well_parts (entry r (packet p) ∷ q) ts h).own)
    pop_trail (pnode (entry r (child zero) ∷ q) ts) h =
        absurd (not-suc-le-zero (child_own (count (shapes ts)) r 0 q (well_parts (entry r (child 0) ∷ q) ts h).own).0)
    pop_trail (pnode (entry r (child (suc i)) ∷ q) ts) h =
        let w = well_parts (entry r (child (suc i)) ∷ q) ts h in
        let o = child_own (count (shapes ts)) r (suc i) q w.own in
        of_child r i q ts o.1 (pop_at ts (suc i)) (pop_trail_at ts i w.below)

    pop_trail_at : (ts : PForest P) (i : ℕ) → wells ts ≡ true → TrailsAt ts i (pop_at ts (suc i))
    pop_trail_at pnil i w = tt
    pop_trail_at (pcons t ts) zero w = here t ts (pop t) (pop_trail t (and_parts (well t) (wells ts) w).0)
    pop_trail_at (pcons t ts) (suc i) w = later t ts i (pop_at ts (suc i)) (pop_trail_at ts i (and_parts (well t) (wells ts) w).1)

  -- an entry, if there is one, is at the head of a queue
  abbrev pub Heads : Option (Entry P) → List (Entry P) → Type 0
  Heads none q = Unit
  Heads (some e) q = (rest : List (Entry P)) × (q ≡ e ∷ rest)

  pub record Pops (t : PTree P) (ss : List Step) (l : ℕ) (p : P) : Type 0 where
    pub tree : PTree P
    pub is : pop t ≡ some (p, tree)
    pub queues : (a : Addr) → queue_at t a ≡ atop (along ss l p a) (queue_at tree a)
    pub entries : (a : Addr) → takes t a ≡ along ss l p a

  record PopsAt (ts : PForest P) (i : ℕ) (ss : List Step) (l : ℕ) (p : P) : Type 0 where
    trees : PForest P
    is : pop_at ts (suc i) ≡ some (p, trees)
    queues : (j : ℕ) (a : Addr) → queue_in ts j a ≡ atop (cond (eqb i j) (along ss l p a) none) (queue_in trees j a)
    entries : (a : Addr) → takes_in ts (suc i) a ≡ along ss l p a

  pops_packet : (q : List (Entry P)) (ts : PForest P) (l : ℕ) (p : P) → Heads (some (entry l (packet p))) q → Pops (pnode q ts) [] l p
  pops_packet q ts l p (rest, e) =
      record {
        tree = pnode rest ts;
        is = ap (λ (k : List (Entry P)). pop (pnode k ts)) e;
        queues = same;
        entries = λ a. ap (λ (k : List (Entry P)). takes (pnode k ts) a) e ∙ taken a;
      }
    where
      taken : (a : Addr) → takes (pnode (entry l (packet p) ∷ rest) ts) a ≡ along [] l p a
      taken [] = refl
      taken (j ∷ a) = refl

      same : (a : Addr) → queue_at (pnode q ts) a ≡ atop (along [] l p a) (queue_at (pnode rest ts) a)
      same [] = e
      same (zero ∷ a) = refl
      same (suc j ∷ a) = refl

  pops_child : (q : List (Entry P)) (ts : PForest P) (i r : ℕ) (ss : List Step) (l : ℕ) (p : P) → Heads (some (entry r (child (suc i)))) q
      → PopsAt ts i ss l p → Pops (pnode q ts) (step (suc i) r ∷ ss) l p
  pops_child q ts i r ss l p (rest, e) z =
      record {
        tree = pnode rest z.trees;
        is = ap (λ (k : List (Entry P)). pop (pnode k ts)) e ∙ ap (with_queue rest) z.is;
        queues = same;
        entries = λ a. ap (λ (k : List (Entry P)). takes (pnode k ts) a) e ∙ taken a;
      }
    where
      taken : (a : Addr) → takes (pnode (entry r (child (suc i)) ∷ rest) ts) a ≡ along (step (suc i) r ∷ ss) l p a
      taken [] = refl
      taken (j ∷ a) = ap (λ (o : Option (Entry P)). cond (eqb (suc i) j) o none) (z.entries a)

      same : (a : Addr) → queue_at (pnode q ts) a ≡ atop (along (step (suc i) r ∷ ss) l p a) (queue_at (pnode rest z.trees) a)
      same [] = e
      same (zero ∷ a) = rw (eqb-suc-zero i)
      same (suc j ∷ a) = rw (eqb-suc-suc i j) (z.queues j a)

  pops_here : (t : PTree P) (ts : PForest P) (ss : List Step) (l : ℕ) (p : P) → Pops t ss l p → PopsAt (pcons t ts) 0 ss l p
  pops_here t ts ss l p z = record { trees = pcons z.tree ts; is = ap (with_later ts) z.is; queues = same; entries = z.entries }
    where
      same : (j : ℕ) (a : Addr) → queue_in (pcons t ts) j a ≡ atop (cond (eqb 0 j) (along ss l p a) none) (queue_in (pcons z.tree ts) j a)
      same zero a = z.queues a
      same (suc j) a = rw (eqb-zero-suc j)

  pops_later : (t : PTree P) (ts : PForest P) (i : ℕ) (ss : List Step) (l : ℕ) (p : P) → PopsAt ts i ss l p → PopsAt (pcons t ts) (suc i) ss l p
  pops_later t ts i ss l p z = record { trees = pcons t z.trees; is = ap (with-elder t) z.is; queues = same; entries = z.entries }
    where
      same : (j : ℕ) (a : Addr) → queue_in (pcons t ts) j a ≡ atop (cond (eqb (suc i) j) (along ss l p a) none) (queue_in (pcons t z.trees) j a)
      same zero a = rw (eqb-suc-zero i)
      same (suc j) a = rw (eqb-suc-suc i j) (z.queues j a)

  mutual
    pub trail_pop : (t : PTree P) (ss : List Step) (l : ℕ) (p : P) → path_fault (shape t) ss ≡ 0
        → ((a : Addr) → In (shape t) a → Heads (along ss l p a) (queue_at t a)) → Pops t ss l p
    trail_pop (pnode q ts) [] l p f h = pops_packet q ts l p (h [] tt)
    trail_pop (pnode q ts) (step zero r ∷ ss) l p f h = absurd (not-suc-le-zero (fault_step (node (shapes ts)) 0 r ss f).low)
    trail_pop (pnode q ts) (step (suc i) r ∷ ss) l p f h =
        let s = fault_step (node (shapes ts)) (suc i) r ss f in
        pops_child q ts i r ss l p (h [] tt)
        (trail_pop_at ts i ss l p s.high s.rest (λ a j. rw (eqb-suc-suc i i, eq-eqb i i refl) at (h (suc i ∷ a) (zero-lt-suc i, s.high, j))))

    trail_pop_at : (ts : PForest P) (i : ℕ) (ss : List Step) (l : ℕ) (p : P) → i < count (shapes ts) → path_fault (nth (shapes ts) i) ss ≡ 0
        → ((a : Addr) → In (nth (shapes ts) i) a → Heads (along ss l p a) (queue_in ts i a)) → PopsAt ts i ss l p
    trail_pop_at pnil i ss l p g f h = absurd (not-suc-le-zero g)
    trail_pop_at (pcons t ts) zero ss l p g f h = pops_here t ts ss l p (trail_pop t ss l p f h)
    trail_pop_at (pcons t ts) (suc i) ss l p g f h = pops_later t ts i ss l p (trail_pop_at ts i ss l p (le_of_suc-le-suc g) f h)

  -- The queues of an empty tree are empty; in those of a well-formed tree the ranks never fall.
  mutual
    pub queue_empty : (t : Topo) (a : Addr) → queue_at (empty {P = P} t) a ≡ []
    queue_empty (node ts) [] = refl
    queue_empty (node ts) (zero ∷ a) = refl
    queue_empty (node ts) (suc i ∷ a) = queue_empties ts i a

    queue_empties : (ts : Forest) (i : ℕ) (a : Addr) → queue_in (empties {P = P} ts) i a ≡ []
    queue_empties fnil i a = refl
    queue_empties (fcons t ts) zero a = queue_empty t a
    queue_empties (fcons t ts) (suc i) a = queue_empties ts i a

  mutual
    pub queue_rises : (t : PTree P) (a : Addr) → well t ≡ true → rises_from 0 (queue_at t a) ≡ true
    queue_rises (pnode q ts) [] h = (well_parts q ts h).rises
    queue_rises (pnode q ts) (zero ∷ a) h = refl
    queue_rises (pnode q ts) (suc i ∷ a) h = queues_rise ts i a (well_parts q ts h).below

    queues_rise : (ts : PForest P) (i : ℕ) (a : Addr) → wells ts ≡ true → rises_from 0 (queue_in ts i a) ≡ true
    queues_rise pnil i a h = refl
    queues_rise (pcons t ts) zero a h = queue_rises t a (and_parts (well t) (wells ts) h).0
    queues_rise (pcons t ts) (suc i) a h = queues_rise ts i a (and_parts (well t) (wells ts) h).1

  -- The root's queue of a well-formed tree has as many entries as there are packets.
  pub root_held : (t : PTree P) → well t ≡ true → length (queue_at t []) ≡ held t
  root_held (pnode q ts) h = length-held q ts h

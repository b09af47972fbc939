-- The walk down to a leaf. If the bytes are the code of a tree and the leaf is one of its leaves, the plan has what the definitions give for the way
-- so far; with the rest of the way added it has all (`Planning`). At the leaf nothing is left (`planning_end`).
use Rattle.std.proofs.Common.{◌≡◌, ◌≢◌, refl, sym, ap, ◌∙◌, ℕ, ◌≤◌, ◌<◌, arith}
use Rattle.std.proofs.Common.{List, [], ◌∷◌, ◌++◌, append_assoc, length, drop, get_or, Option, None, Some, Bool, true, false, cond, eqb, ltb}
use Rattle.std.specs.Prelude.{◌&&◌, option_and_then}
use mathlib.Core.Path.{ap₂, subst}
use mathlib.Core.List.{append-nil}
use native.Mathlib.Decide.{dec_lt, ℕ_discrete}
use lib.ListN.{length-append}
use borrow.Author.Tests.{ltb-true}
use Rattle.std.proofs.lemmas.Bool.{and_parts}
use Rattle.topology.specs.Tree.{Topo, width, size, height}
use Rattle.topology.specs.Address.{Addr, Above, addr, subtree, child_of, depth, route}
use Rattle.topology.specs.Reader.{fault, tree}
use Rattle.topology.specs.Branch.{toward_at}
use Rattle.topology.specs.declared.Child.{Child}
use Rattle.topology.proofs.Cases.{toward_out, toward_between}
use Rattle.topology.proofs.Numbering.{addr_root, addr_in}
use Rattle.topology.proofs.Ancestry.{size_pos, in_height}
use Rattle.topology.proofs.Children.{child_of_lt, depth-child_of, route_self, route_step}
use Rattle.topology.proofs.Lookup.{valid_size, valid_length, valid_width, IsToward, Leads, valid_toward}
use Rattle.topology.proofs.Reader.{within}
use Rattle.pifo_model.specs.Queue.{Rank}
use Rattle.pifo_model.specs.Tree.{Step, step}
use Rattle.queue_push.specs.Calls.{steps_of, path_of, extended_by}
use Rattle.queue_push.specs.declared.Path.{Path}
use Rattle.queue_push.proofs.PathSteps.{steps_path, path_more}
use Rattle.discipline_model.specs.Figure.{kind_at, acts_by, acts_at, start, finish, rank_by, finish_by, fits_by, steps_down, finishes_down, fits_down}
use Rattle.discipline_model.specs.Scheduler.{is_leaf}
use Rattle.discipline_model.specs.declared.Disciplines.{Disciplines}
use Rattle.discipline_path.specs.Plans.{finishes_after, Planned}
use Rattle.discipline_path.specs.InnerShares.{finishes_by, stepped}
use Rattle.discipline_path.specs.declared.Plan.{Plan}

-- a finish that fits (a), and the rest of the way, whose finishes fit (b)
joined : (a b : Bool) (after : List Rank → List Rank) (fs : List Rank)
    → option_and_then (λ (x : List Rank). cond b (Some (after x)) None) (cond a (Some fs) None) ≡ cond (a && b) (Some (after fs)) None
joined true b after fs = refl
joined false b after fs = refl

module _ (t : Topo) (d : Disciplines) (leaf class len l : ℕ) where
  pub record Planning (node : ℕ) (p : Plan) : Type 0 where
    pub here : node < size t
    pub above : Above (addr t node) (addr t leaf)
    pub path : p.path ≡ path_of (steps_of p.path) l
    pub deep : p.path.count ≡ depth t node
    pub steps : steps_of p.path ++ steps_down t d class node (route t node leaf) ≡ steps_down t d class 0 (addr t leaf)
    pub finish : option_and_then (finishes_after t d len node (route t node leaf)) p.finish ≡ finishes_after t d len 0 (addr t leaf) d.finish

  pub planning_start : Planning 0 (record { path = path_of [] l; finish = Some d.finish })
  planning_start =
      let root = addr_root t in
      let all : route t 0 leaf ≡ addr t leaf = ap (λ (a : Addr). drop (length a) (addr t leaf)) root in
      record {
        here = size_pos t;
        above = (addr t leaf, ap (λ (a : Addr). a ++ addr t leaf) (sym root));
        path = refl;
        deep = sym (ap length root);
        steps = ap (steps_down t d class 0) all;
        finish = ap (λ (a : Addr). finishes_after t d len 0 a d.finish) all;
      }

module _ {t : Topo} {d : Disciplines} {leaf class len l node : ℕ} {p : Plan} (w : Planning t d leaf class len l node p) where
  -- at the leaf the plan is complete
  pub planning_end : node ≡ leaf → l ≡ rank_by (kind_at d.rules leaf) 0 class → Planned t d leaf class len p
  planning_end e q =
      let none : route t node leaf ≡ [] = ap (route t node) (sym e) ∙ route_self t node in
      let steps : steps_of p.path ≡ steps_down t d class 0 (addr t leaf) =
      sym (append-nil (steps_of p.path)) ∙ ap (λ (a : Addr). steps_of p.path ++ steps_down t d class node a) (sym none) ∙ w.steps in
      record {
        path = w.path ∙ ap₂ path_of steps q;
        finish =
            sym (unchanged p.finish) ∙ ap (λ (a : Addr). option_and_then (finishes_after t d len node a) p.finish) (sym none) ∙ w.finish;
      }
    where
      unchanged : (o : Option (List Rank)) → option_and_then (finishes_after t d len node []) o ≡ o
      unchanged None = refl
      unchanged (Some fs) = refl

  -- one step down, to the child toward the leaf
  module _ {c : Child} (o : IsToward t node leaf c.number c.node) (low : height t ≤ 8) where
    abbrev k : ℕ
    k = acts_at t d.rules node

    abbrev next : Step
    next = step c.number (rank_by k (start d node c.node) class)

    way : route t node leaf ≡ c.number ∷ route t c.node leaf
    way =
        route_step t node leaf c.number o.has (subst (λ (n : ℕ). Above (addr t n) (addr t leaf)) o.node o.above)
        ∙ ap (λ (n : ℕ). c.number ∷ route t n leaf) (sym o.node)

    more : extended_by p.path c.number (rank_by k (start d node c.node) class) ≡ path_of (steps_of p.path ++ (next ∷ [])) l
    more =
        let rank : p.path.leaf_rank ≡ l = ap (λ (x : Path). x.leaf_rank) w.path in
        let room : p.path.count < 9 = omega (arith, w.deep, in_height t (addr t node) (addr_in t node w.here)) in
        path_more p.path c.number (rank_by k (start d node c.node) class) (w.path ∙ ap (path_of (steps_of p.path)) (sym rank)) room
        ∙ ap (path_of (steps_of p.path ++ (next ∷ []))) rank

    finish_step : (a : Addr) (fs : Option (List Rank))
        → option_and_then (finishes_after t d len (child_of t node c.number) a)
        (finishes_by k (child_of t node c.number) (finish d node (child_of t node c.number) len) fs)
        ≡ option_and_then (finishes_after t d len node (c.number ∷ a)) fs
    finish_step a None = refl
    finish_step a (Some fs) =
        let x = child_of t node c.number in
        joined (fits_by k (finish d node x len)) (fits_down t d len x a) (finishes_down t d len x a) (finish_by k x (finish d node x len) fs)

    pub planning_next : Planning t d leaf class len l c.node (stepped d k node c class len p)
    planning_next =
        let steps : steps_of (extended_by p.path c.number (rank_by k (start d node c.node) class)) ≡ steps_of p.path ++ (next ∷ []) =
        ap steps_of more ∙ steps_path (steps_of p.path ++ (next ∷ [])) l in
        record {
          here = omega (arith, o.node, child_of_lt t node c.number o.has);
          above = o.above;
          path = more ∙ ap (λ (ss : List Step). path_of ss l) (sym steps);
          deep =
              omega (
                arith,
                ap (λ (x : Path). x.count) more,
                length-append (steps_of p.path) (next ∷ []),
                ap (λ (x : Path). x.count) w.path,
                w.deep,
                depth-child_of t node c.number o.has,
                ap (depth t) o.node,
              );
          steps =
              ap (λ (ss : List Step). ss ++ steps_down t d class c.node (route t c.node leaf)) steps
              ∙ append_assoc (steps_of p.path) (next ∷ []) (steps_down t d class c.node (route t c.node leaf))
              ∙ ap (λ (n : ℕ). steps_of p.path ++ (step c.number (rank_by k (start d node n) class) ∷ steps_down t d class n (route t c.node leaf)))
              o.node
              ∙ ap (λ (a : Addr). steps_of p.path ++ steps_down t d class node a) (sym way)
              ∙ w.steps;
          finish =
              ap (λ (n : ℕ). option_and_then (finishes_after t d len n (route t c.node leaf)) (finishes_by k n (finish d node n len) p.finish))
              o.node
              ∙ finish_step (route t c.node leaf) p.finish
              ∙ ap (λ (a : Addr). option_and_then (finishes_after t d len node a) p.finish) (sym way)
              ∙ w.finish;
        }

-- ---- the loop, for any bytes: if they are the code of a tree and the leaf is one of its leaves, the loop computes the plan

leaf_lt : (t : Topo) (leaf : ℕ) → is_leaf t leaf ≡ true → leaf < size t
leaf_lt t leaf e = ltb-true leaf (size t) (and_parts (ltb leaf (size t)) (eqb (width (subtree t leaf)) 0) e).0

-- no tree has a 65th node
pub too_far : (bytes : List ℕ) (leaf : ℕ) → 64 ≤ leaf → fault 64 bytes ≡ 0 → is_leaf (tree bytes) leaf ≡ true → ⊥
too_far bytes leaf h f e = omega (arith, leaf_lt (tree bytes) leaf e, valid_size 64 bytes f, valid_length 64 bytes f)

module _ (bytes : List ℕ) (d : Disciplines) (leaf class len : ℕ) where
  abbrev l : ℕ
  l = rank_by (kind_at d.rules leaf) 0 class

  -- the loop has reached `node` with the plan p
  pub record Walking (node : ℕ) (p : Plan) : Type 0 where
    pub low : node ≤ leaf
    pub plans : fault 64 bytes ≡ 0 → is_leaf (tree bytes) leaf ≡ true → Planning (tree bytes) d leaf class len l node p

  pub walking_start : {p : Plan} → p ≡ record { path = path_of [] l; finish = Some d.finish } → Walking 0 p
  walking_start e = record { low = omega arith; plans = λ f is. rw e (planning_start (tree bytes) d leaf class len l) }

module _ {bytes : List ℕ} {d : Disciplines} {leaf class len node : ℕ} {p : Plan} (w : Walking bytes d leaf class len node p) where
  leads : (f : fault 64 bytes ≡ 0) → is_leaf (tree bytes) leaf ≡ true → node ≢ leaf → Leads (tree bytes) node leaf (toward_at bytes node leaf)
  leads f is n =
      let at = w.plans f is in
      let size_is = valid_size 64 bytes f in
      valid_toward 64 bytes f node leaf (omega (arith, at.here)) (omega (arith, leaf_lt (tree bytes) leaf is)) at.above n

  -- no child leads to the leaf: this node is the leaf
  pub walking_end : None ≡ toward_at bytes node leaf → fault 64 bytes ≡ 0 → is_leaf (tree bytes) leaf ≡ true
      → Planned (tree bytes) d leaf class len p
  walking_end e f is = planning_end (w.plans f is) (by_end (ℕ_discrete node leaf)) refl
    where
      by_end : Dec (node ≡ leaf) → node ≡ leaf
      by_end (yes q) = q
      by_end (no n) = absurd (rw (sym e) at (leads f is n))

  module _ {c : Child} (e : Some c ≡ toward_at bytes node leaf) where
    pub walking_down : (node < c.node) × (c.node ≤ leaf)
    walking_down = toward_between bytes node leaf c.number c.node (sym e)

    -- past the bytes there is no child
    pub walking_inside : node < length bytes
    walking_inside = by_length (dec_lt node (length bytes))
      where
        by_length : Dec (node < length bytes) → node < length bytes
        by_length (yes h) = h
        by_length (no h) = let out = toward_out bytes node leaf (omega arith) in cc

    pub walking_next : {r : Plan} → r ≡ stepped d (acts_by (get_or bytes node 0) (kind_at d.rules node)) node c class len p
        → Walking bytes d leaf class len c.node r
    walking_next z =
        record {
          low = walking_down.1;
          plans = λ f is.
              let toward = rw (← e) at (leads f is (omega (arith, walking_down.0, walking_down.1))) in
              rw (z, ← valid_width 64 bytes f node walking_inside) (planning_next (w.plans f is) toward (within 64 bytes f).steps);
        }

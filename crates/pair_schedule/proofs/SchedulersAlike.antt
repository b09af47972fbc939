-- Source and chip with disciplines (demand 3 for lists that mix both kinds of push): for every map that meets the rules, the drawing's own tree and
-- the chip's tree answer every request alike. The relation between the two is `PairedSchedulers`: the machines are paired, and both keep the same for
-- disciplines. So a push to a leaf gets the same path, rank at the leaf and finishes on both sides, and goes to both machines as a push by path. A
-- pop that departs takes the same rank at a kept node and at its image, and no other node keeps a virtual time, so the virtual times stay the same.
-- `alike` is one request; by induction over the list of requests the same is observed of both (`schedulers_alike`).
use mathlib.Core.Path.{◌≡◌, refl, sym, ap, subst}
use Prim.Native.Nat.{ℕ, ◌<◌}
use mathlib.Core.List.{List, [], ◌∷◌}
use mathlib.Core.Bool.{Bool, true, false, cond}
use mathlib.Core.Option.{Option}
use Rattle.topology.specs.Tree.{Topo, size}
use Rattle.topology.specs.Address.{Addr, addr}
use Rattle.pifo_model.specs.Queue.{Rank}
use Rattle.pifo_model.specs.Machine.{Machine, Call, pushing, Answer, accepted, departed, refused, full, opened, serve}
use Rattle.pifo_model.proofs.Answers.{departed_pop}
use Rattle.topology_reduction.specs.Kept.{Kept}
use Rattle.topology_reduction.specs.Reduced.{reduced}
use Rattle.embedding_model.specs.Rules.{Passes}
use Rattle.pair_model.specs.Simulation.{serve_carried, Paired}
use Rattle.pair_model.specs.Reduced.{places_of}
use Rattle.pair_model.proofs.MachinesAlike.{paired_opened, paired_next, answers_alike, counts_alike}
use Rattle.pair_model.proofs.ReducedAlike.{places_pass}
use Rattle.discipline_model.specs.Figure.{kind_at, rank_by, steps_down, finishes_down, fits_down, with_finishes, after_pop, fresh}
use Rattle.discipline_model.specs.Scheduler.{Scheduler, Request, calling, pushing_to, is_leaf, rank_at, with, pushed_by, called_by, serve_by, serve_own, observation_of, observed_over}
use Rattle.discipline_model.specs.declared.Rule.{Rule}
use Rattle.discipline_model.specs.declared.Disciplines.{Disciplines}
use Rattle.discipline_model.proofs.AfterPop.{times_same}
use Rattle.pair_schedule.specs.Chip.{image_rank, serve_chip, SchedulersAlike, ReducedSchedulersAlike}
use Rattle.pair_schedule.proofs.RankAlike.{rank_alike}
use Rattle.pair_schedule.specs.InnerPaired.{PairedSchedulers}

module _ (S T : Topo) (m : List ℕ) (E : Passes S T m) {P : Type 0} where
  -- answered alike, and paired after it
  abbrev pub Alike : Answer P × Scheduler P → Answer P × Scheduler P → Type 0
  Alike r s = (r.0 ≡ s.0) × PairedSchedulers S T m r.1 s.1

  -- two schedulers that keep the same for disciplines
  module _ (d : Disciplines) (u v : Machine P) (h : Paired S T m u v) where
    abbrev x : Scheduler P
    x = with u d

    abbrev y : Scheduler P
    y = with v d

    same : (after : Disciplines) (a b : Machine P) → Paired S T m a b → PairedSchedulers S T m (with a after) (with b after)
    same after a b q = record { cores = q; disciplines = refl }

    pushed_alike : (after : Disciplines) (fits : Bool) (o : Answer P) (a b : Machine P) → Paired S T m a b
        → Alike (pushed_by x after fits (o, a)) (pushed_by y after fits (o, b))
    pushed_alike after true (accepted n) a b q = (refl, same after a b q)
    pushed_alike after false (accepted n) a b q = (refl, same d u v h)
    pushed_alike after fits (departed p) a b q = (refl, same d a b q)
    pushed_alike after fits (refused n) a b q = (refl, same d a b q)
    pushed_alike after fits (full n c) a b q = (refl, same d a b q)

    called_alike : (f g : ℕ → Option Rank) (o : Answer P) (a b : Machine P) → Paired S T m a b
        → ((p : P) → o ≡ departed p → (n : ℕ) → n < size S → Kept S n → g n ≡ f n) → Alike (called_by S x f (o, a)) (called_by S y g (o, b))
    called_alike f g (accepted n) a b q ranks = (refl, same d a b q)
    called_alike f g (departed p) a b q ranks =
        let times = times_same S d.rules g f (ranks p refl) 0 d.virtual_time in
        let after : after_pop S d g ≡ after_pop S d f =
        ap (λ (vs : List Rank). record { rules = d.rules; virtual_time = vs; finish = d.finish }) times in
        (refl, record { cores = q; disciplines = after })
    called_alike f g (refused n) a b q ranks = (refl, same d a b q)
    called_alike f g (full n c) a b q ranks = (refl, same d a b q)

    module _ (c : Call P) where
      -- the chip's machine answers as the source's does
      chip_answer : serve_carried S T m v c ≡ ((serve u c).0, (serve_carried S T m v c).1)
      chip_answer = ap (λ (o : Answer P). (o, (serve_carried S T m v c).1)) (sym (answers_alike S T m E u v h c))

      by_push : (after : Disciplines) (fits : Bool) → Alike (pushed_by x after fits (serve u c)) (pushed_by y after fits (serve_carried S T m v c))
      by_push after fits =
          rw chip_answer (pushed_alike after fits (serve u c).0 (serve u c).1 (serve_carried S T m v c).1 (paired_next S T m E u v h c))

      by_call : Alike (called_by S x (rank_at u) (serve u c)) (called_by S y (image_rank m v) (serve_carried S T m v c))
      by_call =
          rw chip_answer
          (called_alike (rank_at u) (image_rank m v) (serve u c).0 (serve u c).1 (serve_carried S T m v c).1 (paired_next S T m E u v h c)
          (λ p e. let z = departed_pop u c p e in rank_alike S T m E u v h p z.1.0 z.1.1))

    request_alike : (r : Request P) → Alike (serve_by S serve rank_at x r) (serve_chip S T m y r)
    request_alike (calling c) = by_call c
    request_alike (pushing_to leaf class length p) = by_leaf (is_leaf S leaf)
      where
        down : Addr
        down = addr S leaf

        push : Call P
        push = pushing (steps_down S d class 0 down) (rank_by (kind_at d.rules leaf) 0 class) p

        after : Disciplines
        after = with_finishes d (finishes_down S d length 0 down d.finish)

        fits : Bool
        fits = fits_down S d length 0 down

        by_leaf : (b : Bool) → Alike (cond b (pushed_by x after fits (serve u push)) (refused 25, x))
            (cond b (pushed_by y after fits (serve_carried S T m v push)) (refused 25, y))
        by_leaf true = by_push push after fits
        by_leaf false = (refl, same d u v h)

  -- one request to each of two paired schedulers
  pub alike : (x y : Scheduler P) → PairedSchedulers S T m x y → (r : Request P) → Alike (serve_own x r) (serve_chip S T m y r)
  alike x y h r =
      let d = x.disciplines in
      subst (λ (t : Topo). Alike (serve_by t serve rank_at x r) (serve_chip S T m y r)) (sym h.cores.source_topology)
      (subst (λ (e : Disciplines). Alike (serve_by S serve rank_at x r) (serve_chip S T m (with y.core e) r)) (sym h.disciplines)
      (request_alike d x.core y.core h.cores r))

  -- both opened empty
  pub paired_fresh : (limit : ℕ) (rules : List Rule)
      → PairedSchedulers S T m (with (opened {P = P} S limit) (fresh rules)) (with (opened {P = P} T limit) (fresh rules))
  paired_fresh limit rules = record { cores = paired_opened S T m E limit; disciplines = refl }

  observed_of : (x y : Scheduler P) → PairedSchedulers S T m x y → observation_of x ≡ observation_of y
  observed_of x y h =
      let counted = counts_alike S T m E x.core y.core h.cores in
      λ k. (counted k, sym h.disciplines k)

  observed-alike : (x y : Scheduler P) → PairedSchedulers S T m x y → (requests : List (Request P))
      → observed_over serve_own x requests ≡ observed_over (serve_chip S T m) y requests
  observed-alike x y h [] = refl
  observed-alike x y h (r ∷ rs) =
      let next = alike x y h r in
      let answer = next.0 in
      let seen = observed_of (serve_own x r).1 (serve_chip S T m y r).1 next.1 in
      let rest = observed-alike (serve_own x r).1 (serve_chip S T m y r).1 next.1 rs in
      λ k. (answer k, seen k) ∷ rest k

pub schedulers_alike : SchedulersAlike
schedulers_alike P S T m E limit rules requests =
    let x = with {P = P} (opened S limit) (fresh rules) in
    let y = with {P = P} (opened T limit) (fresh rules) in
    let start = paired_fresh S T m E limit rules in
    record { before = observed_of S T m E x y start; every = observed-alike S T m E x y start requests }

pub reduced_schedulers_alike : ReducedSchedulersAlike
reduced_schedulers_alike P S limit rules requests = schedulers_alike P S (reduced S) (places_of S) (places_pass S) limit rules requests

-- The chip's tree with disciplines (paper 02, 2.1), and the promise that the same is observed of it as of the drawing's own tree (`SchedulersAlike`).
-- The same for a drawing and its reduced drawing (`ReducedSchedulersAlike`).
use Rattle.std.specs.Prelude.{◌≡◌, ℕ, List}
use Rattle.std.proofs.Math.Option.{Option}
use Rattle.topology.specs.Tree.{Topo}
use Rattle.pifo_model.specs.Queue.{Rank}
use Rattle.pifo_model.specs.Machine.{Machine, Answer, opened}
use Rattle.topology_reduction.specs.Reduced.{reduced}
use Rattle.embedding_model.specs.Rules.{image, Passes}
use Rattle.pair_model.specs.Simulation.{serve_carried}
use Rattle.pair_model.specs.Reduced.{places_of}
use Rattle.discipline_model.specs.Figure.{fresh}
use Rattle.discipline_model.specs.Scheduler.{Scheduler, Request, rank_at, with, serve_by, serve_own, observation_of, observed_over}
use Rattle.discipline_model.specs.declared.Rule.{Rule}

module _ {P : Type 0} where
  -- the rank that a pop of the chip's machine takes for source node n: the rank at its image. For a node that is passed over the value does not
  -- matter, since it keeps no virtual time
  abbrev pub image_rank : List ℕ → Machine P → ℕ → Option Rank
  image_rank images m n = rank_at m (image images n)

  -- A request to the chip's tree. Ranks, faults and what is kept for disciplines are determined by the drawing S, as in the drawing's own tree;
  -- pushes are made along the paths carried over.
  abbrev pub serve_chip : Topo → Topo → List ℕ → Scheduler P → Request P → Answer P × Scheduler P
  serve_chip S T images = serve_by S (serve_carried S T images) (image_rank images)

-- Both trees are opened empty with one limit and the same rules, and a list of requests goes to both, pushes by path, pushes to a leaf and pops in
-- any order: the same is observed of them before the first request, at every request and after it.
pub record SchedulesAlike (P : Type 0) (S T : Topo) (m : List ℕ) (limit : ℕ) (rules : List Rule) (requests : List (Request P)) : Type 0 where
  pub before : observation_of {P = P} (with (opened S limit) (fresh rules)) ≡ observation_of {P = P} (with (opened T limit) (fresh rules))
  pub every : observed_over serve_own (with (opened S limit) (fresh rules)) requests
      ≡ observed_over (serve_chip S T m) (with (opened T limit) (fresh rules)) requests

-- This holds for all packets, trees, maps that meet the four rules, limits, rules of disciplines and lists of requests. Proved as `schedulers_alike`
-- in proofs/SchedulersAlike.
abbrev pub SchedulersAlike : Type 1
SchedulersAlike =
    (P : Type 0) (S T : Topo) (m : List ℕ) → Passes S T m → (limit : ℕ) (rules : List Rule) (requests : List (Request P))
    → SchedulesAlike P S T m limit rules requests

-- The same for a drawing and its reduced drawing, with the disciplines of the drawing's nodes for both. Proved as `reduced_schedulers_alike` in
-- proofs/SchedulersAlike.
abbrev pub ReducedSchedulersAlike : Type 1
ReducedSchedulersAlike =
    (P : Type 0) (S : Topo) (limit : ℕ) (rules : List Rule) (requests : List (Request P))
    → SchedulesAlike P S (reduced S) (places_of S) limit rules requests

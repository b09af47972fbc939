-- Paper 01, "Both trees on one sheet", for machines: the chip's machine with paths carried over, what holds between the two machines, and the promise
-- that they answer alike (`MachinesAlike`).
use Rattle.std.specs.Prelude.{◌≡◌, ℕ, zero, suc, List}
use Rattle.topology.specs.Tree.{Topo}
use Rattle.pifo_model.specs.Tree.{path_fault}
use Rattle.pifo_model.specs.Machine.{Machine, Call, pushing, popping, Answer, refused, opened, serve, counts, observed_by}
use Rattle.pifo_model.specs.Runs.{Sound}
use Rattle.embedding_model.specs.Rules.{Passes}
use Rattle.pair_model.specs.Embedding.{image_at}
use Rattle.pair_model.specs.Carrying.{carry}
use Rattle.pair_model.specs.Mirror.{Mirrors}

module _ {P : Type 0} where
  -- A push is made along the path carried over; for a path at fault in the source the answer is the fault's number.
  abbrev pub push_carried : ℕ → Machine P → Call P → Answer P × Machine P
  push_carried zero m c = serve m c
  push_carried (suc f) m c = (refused (suc f), m)

  abbrev pub serve_carried : Topo → Topo → List ℕ → Machine P → Call P → Answer P × Machine P
  serve_carried S T images m (pushing ss l p) = push_carried (path_fault S ss) m (pushing (carry S T images ss) l p)
  serve_carried S T images m popping = serve m popping

  -- What holds between the two machines before and after each call: both are sound, with the same limit and the same count of refusals, and the
  -- chip's tree mirrors the source's.
  pub record Paired (S T : Topo) (m : List ℕ) (x y : Machine P) : Type 0 where
    pub source : Sound x
    pub chip : Sound y
    pub source_topology : x.topology ≡ S
    pub chip_topology : y.topology ≡ T
    pub limit : y.limit ≡ x.limit
    pub refusals : y.refusals ≡ x.refusals
    pub trees : Mirrors S T (image_at S T m) x.tree y.tree

-- Both machines are opened empty with one limit, and a list of calls goes to both: the same is observed of them before the first call, at every call
-- and after it.
pub record Simulates (P : Type 0) (S T : Topo) (m : List ℕ) (limit : ℕ) (calls : List (Call P)) : Type 0 where
  pub before : counts {P = P} (opened S limit) ≡ counts {P = P} (opened T limit)
  pub every : observed_by serve (opened S limit) calls ≡ observed_by (serve_carried S T m) (opened T limit) calls

-- This holds for all packets, trees, maps that meet the rules, limits and lists of calls. Proved as `machines_alike` in proofs/MachinesAlike.
abbrev pub MachinesAlike : Type 1
MachinesAlike =
    (P : Type 0) (S T : Topo) (m : List ℕ) → Passes S T m → (limit : ℕ) (calls : List (Call P)) → Simulates P S T m limit calls

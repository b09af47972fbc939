-- The least map of paper 01, and the search as a definition: the first list, in the order of lists, that meets the rules for the reduced drawing,
-- found by plain backtracking, with 255 at the nodes that are passed over (paper 02, 2.2).
use Rattle.std.specs.Prelude.{ℕ, zero, suc, List, [], ◌∷◌, ◌++◌, Bool, ◌&&◌, cond, length, replicate}
use Rattle.std.proofs.Math.Option.{Option, none, some}
use Rattle.base.specs.Refusals.{or_else, unless_refused}
use Rattle.topology.specs.Tree.{Topo}
use Rattle.topology.specs.Reader.{fault}
use Rattle.topology_reduction.specs.Reduced.{kept_bytes, spread, in32}
use Rattle.embedding_model.specs.Rules.{Passes, Before}
use Rattle.embedding_model.specs.Check.{are_nodes, rule1, rule2, rule3, rule4}

-- A list that passes, with no list that passes before it.
pub record LeastPassing (S T : Topo) (m : List ℕ) : Type 0 where
  pub passes : Passes S T m
  pub first : (l : List ℕ) → Passes S T l → Before l m → ⊥

-- the first of two answers or, if that is none, the second
abbrev pub or_next : Option (List ℕ) → Option (List ℕ) → Option (List ℕ)
or_next none r = r
or_next (some m) r = some m

-- the list that f gives for the first of the `count` numbers from x on for which it gives one
abbrev pub first_of : ℕ → ℕ → (ℕ → Option (List ℕ)) → Option (List ℕ)
first_of zero x f = none
first_of (suc count) x f =
    let rest = first_of count (suc x) f in
    or_next (f x) rest

-- The first list, in the order of lists, that extends `front` by k numbers below `width`, such that each beginning longer than `front` passes the
-- test.
abbrev pub first_list : (List ℕ → Bool) → ℕ → ℕ → List ℕ → Option (List ℕ)
first_list test width zero front = some front
first_list test width (suc k) front =
    first_of width 0 (λ x.
    let longer = front ++ (x ∷ []) in
    let rest = first_list test width k longer in
    cond (test longer) rest none)

-- whether the images listed so far are target nodes and break no rule
unfoldable pub meets_rules : List ℕ → List ℕ → List ℕ → Bool
meets_rules source target m =
    let n = length m in
    let r4 = rule4 source target n m in
    let r3 = rule3 source target n m && r4 in
    let r2 = rule2 source m && r3 in
    let r1 = rule1 n m && r2 in
    are_nodes target n m && r1

-- the least list of images between a drawing without passed nodes and a target, both given by their bytes
unfoldable pub least_map : List ℕ → List ℕ → Option (List ℕ)
least_map source target = first_list (meets_rules source target) (length target) (length source) []

-- a list of images, if there is one, spread over all nodes of the source
abbrev pub spread_some : List ℕ → Option (List ℕ) → Option (List ℕ)
spread_some source none = none
spread_some source (some l) = some (spread source l)

-- the least map between two trees
unfoldable pub least_of : List ℕ → List ℕ → Option (List ℕ)
least_of source target = spread_some source (least_map (kept_bytes source) target)

-- 12 if no list is found, else 0
abbrev pub none_fault : Option (List ℕ) → ℕ
none_fault none = 12
none_fault (some m) = 0

-- The refusal of a search; 0 if there is a map.
unfoldable pub search_fault : List ℕ → List ℕ → ℕ
search_fault source target =
    let rest = none_fault (least_of source target) in
    let second = or_else (fault 64 target) rest in
    or_else (fault 32 source) second

-- The map that the search answers: 32 numbers, those past the last source node 0; all of them 0 if the search is refused.
abbrev pub padded : Option (List ℕ) → List ℕ
padded none = replicate 32 0
padded (some m) = in32 m

unfoldable pub search_map : List ℕ → List ℕ → List ℕ
search_map source target =
    let map = padded (least_of source target) in
    unless_refused (search_fault source target) map (replicate 32 0)

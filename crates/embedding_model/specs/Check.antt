-- The map check of paper 01, in the order of its tests, as a definition over the bytes of the source, the bytes of the target and a list of
-- numbers. Since paper 02, 2.2 the rules apply to the reduced drawing.
use Rattle.std.specs.Prelude.{ℕ, List, Bool, not, ◌||◌, cond, length, get_or, ltb, eqb}
use Rattle.base.specs.Refusals.{or_else}
use Rattle.base.specs.Tests.{all, same}
use Rattle.topology.specs.Reader.{fault}
use Rattle.topology.specs.Branch.{is_above}
use Rattle.topology_reduction.specs.Reduced.{passed_over, restricted, kept_bytes}
use Rattle.embedding_model.specs.Rules.{image}

-- The tests for the source nodes below n: each image is a target node; then rules 1 to 4.
unfoldable pub are_nodes : List ℕ → ℕ → List ℕ → Bool
are_nodes target n m = all n (λ a. ltb (image m a) (length target))

unfoldable pub rule1 : ℕ → List ℕ → Bool
rule1 n m = all n (λ a. all a (λ b. not (eqb (image m b) (image m a))))

-- rule 2 does not apply to a lone leaf
unfoldable pub rule2 : List ℕ → List ℕ → Bool
rule2 source m = eqb (image m 0) 0 || eqb (get_or source 0 0) 0

unfoldable pub rule3 : List ℕ → List ℕ → ℕ → List ℕ → Bool
rule3 source target n m = all n (λ a. not (eqb (get_or source a 0) 0) || eqb (get_or target (image m a) 0) 0)

unfoldable pub rule4 : List ℕ → List ℕ → ℕ → List ℕ → Bool
rule4 source target n m = all n (λ a. all n (λ b. same (is_above source a b) (is_above target (image m a) (image m b))))

-- The refusal of a list of images, one for each node of a drawing without passed nodes, as a map into the target; 0 if it breaks no rule.
unfoldable pub images_fault : List ℕ → List ℕ → List ℕ → ℕ
images_fault source target m =
    let n = length source in
    let f11 : ℕ = cond (rule4 source target n m) 0 11 in
    let f10 : ℕ = cond (rule3 source target n m) f11 10 in
    let f9 : ℕ = cond (rule2 source m) f10 9 in
    let f8 : ℕ = cond (rule1 n m) f9 8 in
    cond (are_nodes target n m) f8 7

-- whether a node with c children is kept, or is passed over and has 255 as its image
unfoldable pub marked : ℕ → ℕ → Bool
marked c image = not (eqb c 1) || eqb image passed_over

unfoldable pub are_marked : List ℕ → List ℕ → Bool
are_marked source m = all (length source) (λ a. marked (get_or source a 0) (image m a))

-- The refusal of a list as a map between two trees; 0 if it passes. 7 to 11 are tested for the reduced drawing and the images of the kept nodes.
unfoldable pub list_fault : List ℕ → List ℕ → List ℕ → ℕ
list_fault source target m =
    let f7 = images_fault (kept_bytes source) target (restricted source m) in
    let f26 : ℕ = cond (are_marked source m) f7 26 in
    cond (eqb (length m) (length source)) f26 6

-- The same with both trees read first, the source and then the target.
unfoldable pub map_fault : List ℕ → List ℕ → List ℕ → ℕ
map_fault source target m =
    let rest = list_fault source target m in
    let second = or_else (fault 64 target) rest in
    or_else (fault 32 source) second

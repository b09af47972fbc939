-- The images of a list with a test of all, and rule 4 by the tables of branch ends.
use Rattle.std.proofs.Common.{◌≡◌, ℕ, ◌<◌, List, true, length, get_or, ltb, ◌∙◌, ap, arith}
use Rattle.std.specs.List.{zip}
use Rattle.std.proofs.lemmas.Slice.Zip.{get_or-zip}
use Rattle.std.proofs.lemmas.List.{get_or_default}
use borrow.Author.Tests.{ltb-true}
use Rattle.base.specs.Tests.{all, same}
use Rattle.base.proofs.Chains.{length_zip_same}
use Rattle.base.proofs.Tests.{all_below, all_cong}
use Rattle.topology.specs.Branch.{is_above}
use Rattle.embedding_model.specs.Rules.{image}
use Rattle.embedding_model.specs.Check.{are_nodes, rule4}
use Rattle.embedding_trees.specs.Trees.{branch_ends}
use Rattle.embedding_trees.proofs.BranchEnds.{is_table}
use Rattle.embedding_check.specs.InnerTests.{above_by, alike, Sized, Tabled}

-- an element of two lists side by side has its second part from the second list
pub zip_second : (xs ys : List ℕ) → length ys ≡ length xs → (i : ℕ) (p : ℕ × ℕ) → i < length (zip xs ys) → p ≡ get_or (zip xs ys) i p
    → (i < length ys) × (p.1 ≡ get_or ys i 0)
zip_second xs ys e i p h q =
    let inside : i < length ys = omega (arith, length_zip_same xs ys e) in
    (inside, ap (λ (r : ℕ × ℕ). r.1) (q ∙ get_or-zip xs ys i p (omega (arith, e)) inside) ∙ get_or_default ys i p.1 0 inside)

-- an image is a target node
pub node_at : (target m : List ℕ) (a : ℕ) → are_nodes target (length m) m ≡ true → a < length m → image m a < length target
unfolding are_nodes
node_at target m a e h =
    ltb-true (image m a) (length target) (all_below (length m) (λ a. ltb (image m a) (length target)) e a h)

module _ (source target m : List ℕ) (z : Sized source target m) where
  pub tabled : Tabled m
  tabled =
      record {
        places = omega (arith, z.long, z.source_fits);
        images = λ b h. omega (arith, node_at target m b z.nodes h, z.target_fits);
      }

  -- With the tables of the two trees, the tests of all nodes are rule 4.
  pub alike_rule : (s t : List ℕ) → s ≡ branch_ends source → t ≡ branch_ends target → all (length m) (alike s t m) ≡ rule4 source target (length m) m
  unfolding alike rule4 is_above
  alike_rule s t e f =
      let p = is_table source s z.source_fits e in
      let q = is_table target t z.target_fits f in
      all_cong (length m) (alike s t m)
      (λ a. all (length m) (λ b. same (is_above source a b) (is_above target (image m a) (image m b))))
      (λ a h. all_cong (length m) (λ b. same (above_by s a b) (above_by t (image m a) (image m b)))
      (λ b. same (is_above source a b) (is_above target (image m a) (image m b)))
      (λ b g. rw (p.at a (omega (arith, z.long)), q.at (image m a) (node_at target m a z.nodes h))))

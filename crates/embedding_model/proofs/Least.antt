-- The least map of a drawing without passed nodes. The list that the definition finds is an embedding, and no embedding comes before it; the
-- definition finds none exactly where no list is an embedding; and an embedding with none before it is the list found.
use mathlib.Core.Path.{◌≡◌, refl, sym, ap, ◌∙◌, subst}
use mathlib.Core.Logic.{◌↔◌, ◌⊎◌, inl, inr}
use Prim.Native.Nat.{ℕ}
use mathlib.Core.List.{List, []}
use mathlib.Core.Option.{Option, none, some}
use lib.ListN.{length}
use Rattle.topology.specs.Tree.{Topo, code}
use Rattle.topology.proofs.Decoding.{length_code}
use Rattle.embedding_model.specs.Rules.{Embeds, Before}
use Rattle.embedding_model.specs.Least.{first_list, meets_rules, least_map}
use Rattle.embedding_model.specs.Check.{are_nodes, rule1, rule2, rule3, rule4}
use Rattle.embedding_model.proofs.FirstList.{Best, compare_lists, first_best}
use Rattle.embedding_model.proofs.MeetsRules.{front_meets, next_node, meets_embeds, embeds_meets}
use Rattle.embedding_model.specs.InnerLeast.{LeastEmbedding, least}

module _ (S T : Topo) where
  abbrev Answers : Option (List ℕ) → Type 0
  Answers none = (l : List ℕ) → Embeds S T l → ⊥
  Answers (some m) = LeastEmbedding S T m

  answers : (f : Option (List ℕ)) → Best (meets_rules (code S) (code T)) (length (code T)) (length (code S)) [] f → Answers f
  answers none never = λ l p. never l (p.long ∙ sym (length_code S)) (embeds_meets S T l p)
  answers (some m) (r, is, long, t, first) =
      record {
        embeds = meets_embeds S T m (ap length is ∙ long ∙ length_code S) t;
        first = λ l p b. first l (p.long ∙ sym (length_code S)) (embeds_meets S T l p) (subst (Before l) is b);
      }

  least_answers : Answers (least S T)
  unfolding least_map meets_rules are_nodes rule1 rule2 rule3 rule4
  least_answers =
      answers (first_list (meets_rules (code S) (code T)) (length (code T)) (length (code S)) [])
      (first_best (meets_rules (code S) (code T)) (length (code T)) (front_meets (code S) (code T)) (next_node (code S) (code T)) (length (code S)) [] refl)

  pub least_embedding : (m : List ℕ) → least S T ≡ some m → LeastEmbedding S T m
  least_embedding m e = subst Answers e least_answers

  pub least_none : (least S T ≡ none) ↔ ((l : List ℕ) → Embeds S T l → ⊥)
  least_none = (λ e. subst Answers e least_answers, by_answer (least S T) refl)
    where
      by_answer : (f : Option (List ℕ)) → least S T ≡ f → ((l : List ℕ) → Embeds S T l → ⊥) → f ≡ none
      by_answer none e n = refl
      by_answer (some m) e n = absurd (n m (least_embedding m e).embeds)

  pub least-is : (m : List ℕ) → LeastEmbedding S T m → least S T ≡ some m
  least-is m p = by_answer (least S T) refl
    where
      same : (l : List ℕ) → LeastEmbedding S T l → (l ≡ m) ⊎ (Before l m ⊎ Before m l) → l ≡ m
      same l q (inl e) = e
      same l q (inr (inl b)) = absurd (p.first l q.embeds b)
      same l q (inr (inr b)) = absurd (q.first m p.embeds b)

      by_answer : (f : Option (List ℕ)) → least S T ≡ f → f ≡ some m
      by_answer none e = absurd (least_none.0 e m p.embeds)
      by_answer (some l) e =
          let q = least_embedding l e in
          ap some (same l q (compare_lists l m (q.embeds.long ∙ sym p.embeds.long)))

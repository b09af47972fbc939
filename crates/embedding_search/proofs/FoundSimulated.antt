-- A map that the search has found meets the rules, so that the chip's tree simulates the drawing.
use mathlib.Core.Path.{sym}
use Prim.Native.Nat.{ℕ}
use mathlib.Core.List.{List}
use Rattle.std.specs.Prelude.{Result, Ok, Err}
use Rattle.refusal.specs.declared.Refusal.{Refusal}
use Rattle.topology.specs.Reader.{tree}
use Rattle.embedding_model.specs.Rules.{Passes}
use Rattle.embedding_model.proofs.Search.{faultless, images_pass}
use Rattle.embedding_least.specs.Answers.{Searches}
use Rattle.pair_step.proofs.Alike.{both-numbers, both-alike}
use Rattle.embedding_search.specs.Search.{images, Simulated, Finds}

module _ (source target : List ℕ) where
  module _ (m : List ℕ) (s : Searches source target (Ok m)) where
    pub found_passes : Passes (tree source) (tree target) (images source m)
    found_passes = rw s.map (images_pass source target (sym s.number))

    pub found_simulated : Simulated source target m
    found_simulated =
        let f = faultless source target (sym s.number) in
        record {
          opens = both-numbers source target f.0 f.1;
          alike = λ limit. both-alike source target f.0 f.1 limit (images source m) found_passes;
        }

  pub finds : (r : Result (List ℕ) Refusal) → Searches source target r → Finds source target r
  finds (Ok m) s = record { answer = s; simulated = found_simulated m s }
  finds (Err e) s = record { answer = s; simulated = tt }

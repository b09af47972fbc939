-- The text of an 04 in turn: the line of its refusal, or the line of the map and the text of what is read after it. The drawings as they are kept
-- give the same text as the whole ones.
use Rattle.std.proofs.Common.{◌≡◌, ◌≢◌, ℕ, zero, suc, ◌≤◌, List, [], ◌++◌, None, Some, Ok, length, take, refl, sym, ◌∙◌, arith}
use Rattle.std.proofs.lemmas.List.{append-nil}
use Rattle.refusal.specs.Numbers.{number}
use Rattle.refusal.specs.declared.Refusal.{Refusal}
use Rattle.refusal.proofs.Numbers.{number-ne0}
use Rattle.topology.specs.Reader.{tree}
use Rattle.pifo_model.specs.Machine.{opened}
use Rattle.embedding_model.specs.Least.{search_map}
use Rattle.embedding_model.proofs.Search.{map-room}
use Rattle.queue_push.specs.Calls.{path_of}
use Rattle.queue_state.specs.State.{machine}
use Rattle.pair_state.specs.Opening.{both_fault, OpensBoth}
use Rattle.queue_state.specs.declared.State.{State}
use Rattle.pair_state.specs.declared.Pair.{Pair}
use Rattle.pair_state.proofs.Truncated.{both-kept, both_whole, both_few}
use Rattle.text.specs.declared.Text.{Text}
use Rattle.text.specs.Appending.{Appends}
use Rattle.script_lines.specs.Lines.{no_line, map_line}
use Rattle.script_commands.specs.declared.Read.{Read}
use Rattle.script_setup.specs.declared.Drawing.{Drawing}
use Rattle.script_run.specs.Execute.{serving}
use Rattle.script_run.specs.Output.{text_of}
use Rattle.script_run.specs.InnerParts.{opening_text, limit_in, Comes}
use Rattle.script_run.proofs.Stops.{stops-opening}

-- a part of a script that stops it
pub stopped : {whole : List Read → List ℕ} {before after : Text} (line : List ℕ) → Appends before line after
    → ((rest : List Read) → whole rest ≡ line) → Comes whole before None after
stopped line p w = record { text = line; appends = p; ready = tt; follows = λ rest. w rest ∙ sym (append-nil line) }

module _ (s t : List ℕ) (n at : ℕ) where
  refused-text : (rest : List Read) (f : ℕ) → f ≡ both_fault s t n → f ≢ 0 → opening_text s t n at rest ≡ no_line f at
  unfolding opening_text
  refused-text rest zero e z = absurd (z refl)
  refused-text rest (suc f) e z =
      let stop = rw (← e) at (stops-opening s t n) in
      rw (← e, stop) (append-nil (no_line (suc f) at))

  pub refused-comes : (e : Refusal) → number e ≡ both_fault s t n → {before after : Text} → Appends before (no_line (number e) at) after
      → Comes (opening_text s t n at) before None after
  refused-comes e h p = stopped (no_line (number e) at) p (λ rest. refused-text rest (number e) h (number-ne0 e))

pub kept-text : (rest : List Read) (s t : List ℕ) (n at : ℕ) → opening_text (take 33 s) (take 65 t) n at rest ≡ opening_text s t n at rest
kept-text rest s t n at = by_fault (both_fault s t n) refl
  where
    by_fault : (f : ℕ) → both_fault s t n ≡ f → opening_text (take 33 s) (take 65 t) n at rest ≡ opening_text s t n at rest
    by_fault zero e = let all = both_whole s t n e in rw (all.0, all.1) refl
    by_fault (suc f) e =
        refused-text (take 33 s) (take 65 t) n at rest (suc f) (sym (both-kept s t n ∙ e)) (λ z. absurd (omega arith))
        ∙ sym (refused-text s t n at rest (suc f) (sym e) (λ z. absurd (omega arith)))

-- an opening that is not refused
module _ (s t : List ℕ) (n : ℕ) (p : Pair State) (w : OpensBoth s t n (Ok p)) where
  -- the map has an image for each node
  pub map-fits : length s ≤ length p.map
  map-fits = omega (arith, both_few s t n (sym w.refusal), map-room s t p.map w.map)

  opened-text : (at : ℕ) (rest : List Read)
      → opening_text s t n at rest ≡ map_line (take (length s) p.map) ++ text_of rest (serving (machine p.source) [])
  unfolding opening_text
  opened-text at rest =
      let e : opening_text s t n at rest ≡ map_line (take (length s) (search_map s t)) ++ text_of rest (serving (opened (tree s) n) []) =
      rw (← w.refusal) refl in
      e ∙ rw (w.map, w.drawn) refl

-- 04 that opens both trees
pub opened-comes : (d : Drawing) (at : ℕ) (p : Pair State) → OpensBoth d.source.items d.target.items (limit_in d) (Ok p) → {before after : Text}
    → Appends before (map_line (take (length d.source.items) p.map)) after
    → Comes (opening_text d.source.items d.target.items (limit_in d) at) before (Some (record { drawing = d; pair = p; path = path_of [] 0 })) after
opened-comes d at p w q =
    record {
      text = map_line (take (length d.source.items) p.map);
      appends = q;
      ready = record {
        images = map-fits d.source.items d.target.items (limit_in d) p w;
        served = record { in_step = w.in_step; few = omega arith; plain = refl };
      };
      follows = opened-text d.source.items d.target.items (limit_in d) p w at;
    }

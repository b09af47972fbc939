-- The search's answers: refused, without room, and with a map.
use Rattle.std.proofs.Common.{◌≡◌, ◌≢◌, ℕ, zero, suc, ◌≤◌, ◌<◌, List, ◌++◌, length, drop, refl, sym, ap, ◌∙◌}
use borrow.Author.Tests.{lt-ltb, le-ltb}
use Rattle.embedding_model.specs.Least.{search_fault, search_map}
use Rattle.exports_maps.specs.Search.{search_number, search_out}

module _ (source target out : List ℕ) where
  pub search-refused : (n : ℕ) → n ≡ search_fault source target → n ≢ 0 → (n ≡ search_number source target out) × (out ≡ search_out source target out)
  unfolding search_number search_out
  search-refused zero e z = absurd (z refl)
  search-refused (suc n) e z = rw (sym e) (refl, refl)

  module _ (e : 0 ≡ search_fault source target) where
    pub search_no_room : length out < 32 → (255 ≡ search_number source target out) × (out ≡ search_out source target out)
    unfolding search_number search_out
    search_no_room h = rw (← e, lt-ltb (length out) 32 h) (refl, refl)

    pub search-room : 32 ≤ length out → (m after : List ℕ) → m ≡ search_map source target → after ≡ m ++ drop 32 out
        → (0 ≡ search_number source target out) × (after ≡ search_out source target out)
    unfolding search_number search_out
    search-room h m after f g = rw (← e, le-ltb (length out) 32 h) (refl, g ∙ ap (λ (l : List ℕ). l ++ drop 32 out) f)

-- The properties of `written`: writing one text after another writes the two joined; the buffer keeps its length; a text at place 0 comes before the
-- rest of the buffer; and all places past the end are alike. So calls of which each begins where the previous one ended write their texts joined:
-- `puts_then`.
use mathlib.Core.Path.{◌≡◌, refl, sym, ap, ◌∙◌}
use Prim.Native.Nat.{ℕ, suc, ◌+◌, ◌≤◌, ◌<◌, min}
use native.Mathlib.Omega.{arith}
use mathlib.Core.Bool.{Bool, true, false}
use mathlib.Core.List.{List, [], ◌∷◌, ◌++◌}
use lib.ListN.{length, take, drop, set, length-set, length-append}
use lib.Seq.{set_out, drop-nil}
use lib.Dec.{leb}
use borrow.Author.Tests.{leb-true, leb-false}
use Rattle.text.specs.Text.{written, Puts}

pub written-++ : (buffer : List ℕ) (at : ℕ) (a b : List ℕ)
    → written (written buffer at a) (at + length a) b ≡ written buffer at (a ++ b)
unfolding written
written-++ buffer at [] b = let e : at + 0 ≡ at = omega arith in rw e
written-++ buffer at (x ∷ a) b =
    let e : at + suc (length a) ≡ suc at + length a = omega arith in
    rw e (written-++ (set buffer at x) (suc at) a b)

pub length-written : (buffer : List ℕ) (at : ℕ) (text : List ℕ) → length (written buffer at text) ≡ length buffer
unfolding written
length-written buffer at [] = refl
length-written buffer at (x ∷ text) = length-written (set buffer at x) (suc at) text ∙ length-set buffer at x

written_behind : (x : ℕ) (buffer : List ℕ) (at : ℕ) (text : List ℕ) → written (x ∷ buffer) (suc at) text ≡ x ∷ written buffer at text
unfolding written
written_behind x buffer at [] = refl
written_behind x buffer at (y ∷ text) = written_behind x (set buffer at y) (suc at) text

written_past : (buffer : List ℕ) (at : ℕ) (text : List ℕ) → length buffer ≤ at → written buffer at text ≡ buffer
unfolding written
written_past buffer at [] h = refl
written_past buffer at (x ∷ text) h =
    ap (λ (b : List ℕ). written b (suc at) text) (set_out buffer at x h) ∙ written_past buffer (suc at) text (omega arith)

pub written_at_0 : (buffer text : List ℕ) → written buffer 0 text ≡ take (length buffer) text ++ drop (length text) buffer
unfolding written
written_at_0 [] text = written_past [] 0 text (omega arith) ∙ sym (drop-nil (length text))
written_at_0 (x ∷ buffer) [] = refl
written_at_0 (x ∷ buffer) (y ∷ text) = written_behind y buffer 0 text ∙ ap (λ (l : List ℕ). y ∷ l) (written_at_0 buffer text)

-- a place past the end is the same as the end
written-min : (buffer : List ℕ) (at : ℕ) (text : List ℕ) → written buffer (min at (length buffer)) text ≡ written buffer at text
written-min buffer at text = by_test (leb at (length buffer)) refl
  where
    by_test : (t : Bool) → leb at (length buffer) ≡ t → written buffer (min at (length buffer)) text ≡ written buffer at text
    by_test true e = let f : min at (length buffer) ≡ at = omega (arith, leb-true at (length buffer) e) in rw f
    by_test false e =
        let past : length buffer < at = leb-false at (length buffer) e in
        let f : min at (length buffer) ≡ length buffer = omega arith in
        rw f (written_past buffer (length buffer) text (omega arith) ∙ sym (written_past buffer at text (omega arith)))

module _ (buffer : List ℕ) (at byte : ℕ) where
  pub byte_in : at < length buffer → Puts buffer at (byte ∷ []) (set buffer at byte) (at + 1)
  unfolding written
  byte_in h = record { bytes = refl; next = omega arith }

  pub byte_out : length buffer ≤ at → Puts buffer at (byte ∷ []) buffer (length buffer)
  byte_out h = record { bytes = sym (written_past buffer at (byte ∷ []) h); next = omega arith }

pub puts_none : (buffer : List ℕ) (at place : ℕ) → place ≡ min at (length buffer) → Puts buffer at [] buffer place
unfolding written
puts_none buffer at place e = record { bytes = refl; next = omega arith }

pub puts_length : {before text after : List ℕ} {at place : ℕ} → Puts before at text after place → length after ≡ length before
puts_length {before} {text} {after} {at} p = ap length p.bytes ∙ length-written before at text

pub puts_then : {before s middle t after : List ℕ} {at place end : ℕ} → Puts before at s middle place → Puts middle place t after end
    → Puts before at (s ++ t) after end
puts_then {before} {s} {middle} {t} {after} {at} {place} p q =
    let same = puts_length p in
    let further : place ≡ min (at + length s) (length middle) = rw same p.next in
    record {
      bytes =
          q.bytes
          ∙ ap (λ (j : ℕ). written middle j t) further
          ∙ written-min middle (at + length s) t
          ∙ ap (λ (m : List ℕ). written m (at + length s) t) p.bytes
          ∙ written-++ before at s t;
      next = omega (arith, length-append s t, p.next, q.next, same);
    }

-- a place past the end is the same as the end
pub puts_from : {before text after : List ℕ} {at place : ℕ} → Puts before (min at (length before)) text after place → Puts before at text after place
puts_from {before} {text} {after} {at} p =
    record { bytes = p.bytes ∙ written-min before at text; next = omega (arith, p.next) }

-- the whole text from the start of a buffer, by list operations
pub puts_at_0 : {before text after : List ℕ} {place : ℕ} → Puts before 0 text after place
    → after ≡ take (length before) text ++ drop (length text) before
puts_at_0 {before} {text} p = p.bytes ∙ written_at_0 before text

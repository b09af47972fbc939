-- Laws of texts that are put into a caller's buffer one behind another.
use Rattle.std.proofs.Common.{◌≡◌, ℕ, ◌+◌, ◌<◌, List, [], ◌∷◌, ◌++◌, length, get_or, take, refl, ◌∙◌, arith, add-one}
use lib.Seq.{take-suc}
use Rattle.std.specs.Borrow.{MutBor}
use Rattle.text.specs.Text.{Puts}
use Rattle.text.specs.Appending.{Begins, Appends}
use Rattle.text.specs.declared.Text.{Text}
use Rattle.text.proofs.Written.{puts_none, puts_then, puts_from}

pub appends_none : (text : Text) → Appends text [] text
appends_none text = record { same = refl; puts = puts_none _ _ _ (omega (arith, text.within)) }

pub appends_as : {a b : Text} {s t : List ℕ} → s ≡ t → Appends a s b → Appends a t b
appends_as e p = rw e at p

-- calls of which each begins where the previous one ended put their texts joined
pub appends_then : {a b c : Text} {s t : List ℕ} → Appends a s b → Appends b t c → Appends a (s ++ t) c
appends_then p q = record { same = q.same ∙ p.same; puts = puts_then p.puts q.puts }

-- one more byte of a word
pub appends_next : {a b c : Text} (word : List ℕ) (i : ℕ) → i < length word → Appends a (take i word) b
    → Appends b (get_or word i 0 ∷ []) c → Appends a (take (i + 1) word) c
appends_next word i h p q = rw (add-one, take-suc word i 0) (appends_then p q)

-- a text that began at a place of a buffer has put there all that was appended; `out` is the buffer in the end
pub puts_all : {buffer : MutBor (List ℕ)} {at : ℕ} {first last : Text} {bytes out : List ℕ} {place : ℕ} → Begins buffer at first
    → Appends first bytes last → out ≡ last.out.now → place ≡ last.at → Puts buffer.now at bytes out place
puts_all b p e f =
    let kept = rw b.kept at p.puts in
    puts_from (rw (b.place, ← e, ← f) at kept)

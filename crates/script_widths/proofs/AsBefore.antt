-- A script that reaches neither 09 nor 0A prints what it printed. At an offset with another first byte both readers read the same and go on at the same
-- offset (`reads-alike`); so they do along the whole run, and the texts are the same (`text-alike`).
use Rattle.std.proofs.Common.{◌≡◌, ◌≢◌, ℕ, zero, suc, ◌+◌, List, [], ◌∷◌, ◌++◌, None, Bool, true, false, cond, length, take, drop, eqb, leb}
use Rattle.std.proofs.Common.{refl, sym, ap, subst, ◌∙◌}
use borrow.Author.Tests.{eqb-true, ne_eqb}
use Rattle.refusal.specs.declared.Refusal.TheVariants.{CutShort}
use Rattle.script_commands.specs.declared.Command.{Command}
use Rattle.script_commands.specs.declared.Read.{Read}
use Rattle.script_commands.specs.declared.Read.TheVariants.{End, Next, Refused}
use Rattle.script_commands.specs.Reading.{size_by, sized, command_by, command_of, first_size, read_at, behind, next_at, reads_by, reads_from, reads}
use Rattle.script_run.specs.Execute.{Stage, drawing, stops, execute}
use Rattle.script_run.specs.Output.{line_of, text_of, output}
use Rattle.script_widths.specs.Before as Before
use Rattle.script_widths.specs.Reached.{reached_by, reached_from, reached}
use Rattle.script_widths.specs.Widths.{Neither, AsBefore}

-- ---- one read

-- both readers read the same, and go on at the same offset
record Alike (at size : ℕ) (now before : Read) : Type 0 where
  read : now ≡ before
  next : behind at size now ≡ Before.behind at before

module _ (code : ℕ) (bytes : List ℕ) (at : ℕ) where
  -- one command, by its first byte k, and the others
  one : (k : ℕ) (c : Command) (now before : Read) → size_by k ≡ Before.size_of c → Alike at (size_by code) now before
      → Alike at (size_by code) (cond (eqb code k) (sized code bytes at c) now) (cond (eqb code k) (Before.sized bytes at c) before)
  unfolding sized Before.sized
  one k c now before e others = by_code (eqb code k) refl
    where
      by_size : (t : Bool) → size_by code ≡ Before.size_of c → Alike at (size_by code) (cond t (Next c at) (Refused CutShort at)) (cond t (Next c at) (Refused CutShort at))
      by_size true q = record { read = refl; next = ap (λ (n : ℕ). at + n) q }
      by_size false q = record { read = refl; next = refl }

      by_code : (t : Bool) → eqb code k ≡ t
          → Alike at (size_by code) (cond t (cond (leb (size_by code) (length bytes)) (Next c at) (Refused CutShort at)) now)
          (cond t (cond (leb (Before.size_of c) (length bytes)) (Next c at) (Refused CutShort at)) before)
      by_code true q =
          let same : size_by code ≡ Before.size_of c = ap size_by (eqb-true code k q) ∙ e in
          rw (← same) (by_size (leb (size_by code) (length bytes)) same)
      by_code false q = others

  -- a command that the script does not have here
  absent : (k : ℕ) (c : Command) (now before : Read) → code ≢ k → Alike at (size_by code) now before
      → Alike at (size_by code) (cond (eqb code k) (sized code bytes at c) now) before
  absent k c now before n others = subst (λ (t : Bool). Alike at (size_by code) (cond t (sized code bytes at c) now) before) (sym (ne_eqb code k n)) others

  commands_alike : code ≢ 9 → code ≢ 10 → Alike at (size_by code) (command_by code bytes at) (Before.command_by code bytes at)
  unfolding command_by Before.command_by
  commands_alike n9 n10 =
      one 1 _ _ _ refl
      (one 2 _ _ _ refl
      (one 3 _ _ _ refl
      (one 4 _ _ _ refl
      (one 5 _ _ _ refl
      (one 6 _ _ _ refl
      (one 7 _ _ _ refl
      (absent 9 _ _ _ n9
      (absent 10 _ _ _ n10 (record { read = refl; next = refl })))))))))

module _ (script : List ℕ) where
  reads-alike : (at : ℕ) → Neither (take 1 (drop at script))
      → (read_at script at ≡ Before.read_at script at) × (next_at script at ≡ Before.next_at script at)
  unfolding read_at next_at Before.read_at Before.next_at
  reads-alike at = by_bytes (drop at script)
    where
      by_bytes : (bytes : List ℕ) → Neither (take 1 bytes)
          → (command_of bytes at ≡ Before.command_of bytes at)
          × (behind at (first_size bytes) (command_of bytes at) ≡ Before.behind at (Before.command_of bytes at))
      by_bytes [] n = (refl, refl)
      by_bytes (code ∷ rest) n = let a = commands_alike code (code ∷ rest) at n.0 n.1 in (a.read, a.next)

  -- ---- the whole run

  both_parts : (l m : List ℕ) → Neither (l ++ m) → Neither l × Neither m
  both_parts [] m n = (tt, n)
  both_parts (code ∷ l) m n = let p = both_parts l m n.2 in ((n.0, n.1, p.0), p.1)

  -- after one read, if the texts of what is read later are the same
  module _ (most at : ℕ) (later : (stage : Stage) → Neither (reached_from most script at stage)
      → text_of (reads_from most script at) stage ≡ text_of (Before.reads_from most script at) stage) where
    by_stop : (b : Bool) (stage : Stage) (line : List ℕ) → Neither (cond b [] (reached_from most script at stage))
        → line ++ cond b [] (text_of (reads_from most script at) stage) ≡ line ++ cond b [] (text_of (Before.reads_from most script at) stage)
    by_stop true stage line n = refl
    by_stop false stage line n = ap (λ (t : List ℕ). line ++ t) (later stage n)

    by_read : (r : Read) (stage : Stage) → Neither (reached_by r stage (λ next. reached_from most script at next))
        → text_of (reads_by r (reads_from most script at)) stage ≡ text_of (reads_by r (Before.reads_from most script at)) stage
    by_read End stage n = refl
    by_read (Refused m offset) stage n = refl
    by_read (Next c offset) stage n = let r = execute stage c in by_stop (stops r.0) r.1 (line_of r.0 offset) n

  text-alike : (most at : ℕ) (stage : Stage) → Neither (reached_from most script at stage)
      → text_of (reads_from most script at) stage ≡ text_of (Before.reads_from most script at) stage
  text-alike zero at stage n = refl
  text-alike (suc most) at stage n =
      let parts = both_parts (take 1 (drop at script)) _ n in
      let alike = reads-alike at parts.0 in
      rw (← alike.0, ← alike.1) (by_read most (next_at script at) (λ next k. text-alike most (next_at script at) next k) (read_at script at) stage parts.1)

pub as_before : AsBefore
unfolding reached output Before.output reads Before.reads
as_before script n = text-alike script (suc (length script)) 0 (drawing [] [] None) n

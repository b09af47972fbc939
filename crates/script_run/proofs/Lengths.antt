-- The length of the text of a script: each command prints at most 13 bytes, except for one line of a map with at most 132. So gatewalk's buffer has
-- room for the text of every script of at most 65,536 bytes (`output-fits`).
--
-- The bound is proved from the last command back. At a stage before the trees are opened 132 bytes are reserved for the map. The machine of an opened
-- tree is sound, so that a count of packets has at most three digits.
use Rattle.std.proofs.Common.{◌≡◌, ℕ, zero, suc, ◌+◌, ◌-◌, ◌*◌, ◌≤◌, ◌<◌, List, [], ◌∷◌, ◌++◌, None, Some, Bool, true, false, ◌&&◌, cond}
use Rattle.std.proofs.Common.{length, take, get_or, leb, ltb, refl, arith, length-append}
use borrow.Author.Tests.{leb-true}
use Rattle.base.proofs.Refusals.{or_else_none}
use Rattle.std.proofs.lemmas.Bool.{and_parts}
use Rattle.refusal.specs.Numbers.{number}
use Rattle.topology.specs.Reader.{tree}
use Rattle.topology.proofs.Reader.{within}
use Rattle.pifo_model.specs.Tree.{Step, step, held}
use Rattle.pifo_model.specs.Machine.{Machine, Call, pushing, popping, Answer, accepted, departed, refused, full, number_of, serve}
use Rattle.pifo_model.specs.Runs.{Sound}
use Rattle.pifo_model.proofs.Runs.{served as serve-sound, opened-sound}
use Rattle.pifo_model.proofs.Answers.{accepted-held, serve-number}
use Rattle.embedding_model.specs.Least.{search_fault, search_map}
use Rattle.queue_state.specs.State.{Packet}
use Rattle.queue_limit.specs.Limit.{limit_fault}
use Rattle.pair_state.specs.Opening.{both_fault}
use Rattle.pair_state.proofs.BothFault.{both_most}
use Rattle.embedding_model.proofs.Passes.{image-fits}
use Rattle.embedding_model.proofs.Search.{faultless, images_pass}
use Rattle.text.specs.Text.{decimal, hex8}
use Rattle.script_lines.specs.Lines.{all_spaced, in_line, out_line, map_line}
use Rattle.text.proofs.Digits.{length-decimal, length-hex8}
use Rattle.script_lines.proofs.Lengths.{no_length}
use Rattle.script_commands.specs.declared.Command.{Command}
use Rattle.script_commands.specs.declared.Command.TheVariants.{Setup, Compile, Call as Calling}
use Rattle.script_commands.specs.declared.Setup.TheVariants.{Source, Target, Limit}
use Rattle.script_commands.specs.declared.Call.TheVariants.{Step as StepTo, Push, Pop}
use Rattle.script_commands.specs.declared.Read.{Read}
use Rattle.script_commands.specs.declared.Read.TheVariants.{End, Next, Refused}
use Rattle.script_commands.specs.Reading.{read_at, next_at, reads_by, reads}
use Rattle.script_run.specs.Execute.{Stage, drawing, serving, Reply, silent, refused_by, stops, compiled, served, execute}
use Rattle.script_run.specs.Output.{line_of, text_of, output}
use Rattle.script_commands.proofs.ReadAt.{within as command_within, told, further}
use Rattle.script_commands.proofs.ReadsFrom.{reads_by_lem}

-- ---- the lines

in_length : (n : ℕ) → n ≤ 256 → length (in_line n) ≤ 13
unfolding in_line
in_length n h = omega (arith, length-append (decimal n) (10 ∷ []), length-decimal 2 n (omega arith))

out_length : (p : ℕ) → length (out_line p) ≤ 13
unfolding out_line
out_length p = omega (arith, length-append (hex8 p) (10 ∷ []), length-hex8 p)

spaced-length : (m : List ℕ) → ((i : ℕ) → i < length m → get_or m i 0 < 256) → length (all_spaced m) ≤ 4 * length m
spaced-length [] h = omega arith
spaced-length (n ∷ m) h =
    let small : n < 256 = h 0 (omega arith) in
    omega (
      arith,
      length-append (decimal n) (all_spaced m),
      length-decimal 2 n (omega (arith, small)),
      spaced-length m (λ i g. h (suc i) (omega (arith, g))),
    )

map-length : (m : List ℕ) → length m ≤ 32 → ((i : ℕ) → i < length m → get_or m i 0 < 256) → length (map_line m) ≤ 132
unfolding map_line
map-length m h g = omega (arith, length-append (all_spaced m) (10 ∷ []), spaced-length m g)

-- ---- one command

-- what holds of a stage, and the bytes that a map may still take
abbrev Good : Stage → Type 0
Good (drawing s t l) = Unit
Good (serving m steps) = Sound m × (m.limit ≤ 256)

abbrev room : Stage → ℕ
room (drawing s t l) = 132
room (serving m steps) = 0

-- a command's line takes at most 13 bytes, or those reserved for the map
record Short (at : ℕ) (before : Stage) (r : Reply × Stage) : Type 0 where
  good : Good r.1
  line : length (line_of r.0 at) + room r.1 ≤ 13 + room before

module _ (at : ℕ) (h : at < 65536) where
  short-compiled : (s t : List ℕ) (n f : ℕ) → both_fault s t n ≡ f → Short at (drawing s t (Some n)) (compiled f s t n)
  unfolding both_fault
  short-compiled s t n (suc f) e = record { good = tt; line = omega (arith, no_length (suc f) at (omega (arith, e, both_most s t n)) (omega arith)) }
  short-compiled s t n zero e =
      let none = or_else_none (search_fault s t) (limit_fault n) e in
      let fine = faultless s t none.0 in
      let E = images_pass s t none.0 in
      let few = (within 32 s fine.0).nodes in
      let low = (within 64 t fine.1).nodes in
      record {
        good = (opened-sound Packet (tree s) n, limited n none.1);
        line = omega (
          arith,
          map-length (take (length s) (search_map s t)) (omega (arith, E.long, few))
              (λ i g. image-fits (tree s) (tree t) (take (length s) (search_map s t)) E low i (omega (arith, E.long, g))),
        );
      }
    where
      limited : (n : ℕ) → limit_fault n ≡ 0 → n ≤ 256
      limited n z = by_test (leb 1 n && leb n 256) refl z
        where
          by_test : (b : Bool) → leb 1 n && leb n 256 ≡ b → ◌≡◌ {A = ℕ} (cond b 0 17) 0 → n ≤ 256
          by_test true q z = leb-true n 256 (and_parts (leb 1 n) (leb n 256) q).1
          by_test false q z = absurd (omega arith)

  short-served : (m : Machine Packet) (steps after : List Step) (c : Call Packet) → Sound m → m.limit ≤ 256
      → Short at (serving m steps) (served (serve m c) after)
  short-served m steps after c s g =
      let z = serve-sound m c s in
      by_answer (serve m c).0 (serve m c).1 z.sound (omega (arith, z.limit, g)) (serve-number m c) (accepted-held m c)
    where
      by_answer : (a : Answer Packet) (n : Machine Packet) → Sound n → n.limit ≤ 256 → number_of a ≤ 99 → ((k : ℕ) → a ≡ accepted k → k ≡ held n.tree)
          → Short at (serving m steps) (served (a, n) after)
      by_answer (accepted k) n t l x e = record { good = (t, l); line = omega (arith, in_length k (omega (arith, e k refl, t.limit, l))) }
      by_answer (departed p) n t l x e = record { good = (t, l); line = omega (arith, out_length p) }
      by_answer (refused k) n t l x e = record { good = (t, l); line = omega (arith, no_length k at (omega (arith, x)) (omega arith)) }
      by_answer (full k c) n t l x e = record { good = (t, l); line = omega (arith, no_length k at (omega (arith, x)) (omega arith)) }

  out_of_turn_lem : (stage : Stage) → Good stage → Short at stage (refused_by 22, stage)
  out_of_turn_lem stage g = record { good = g; line = omega (arith, no_length 22 at (omega arith) (omega arith)) }

  short : (stage : Stage) (c : Command) → Good stage → Short at stage (execute stage c)
  unfolding execute
  short (drawing s t l) (Setup (Source b)) g = record { good = tt; line = omega arith }
  short (drawing s t l) (Setup (Target b)) g = record { good = tt; line = omega arith }
  short (drawing s t None) (Setup (Limit n)) g = record { good = tt; line = omega arith }
  short (drawing s t (Some m)) (Setup (Limit n)) g = out_of_turn_lem (drawing s t (Some m)) g
  short (drawing s t None) Compile g = out_of_turn_lem (drawing s t None) g
  short (drawing s t (Some n)) Compile g = short-compiled s t n (both_fault s t n) refl
  short (drawing s t l) (Calling c) g = out_of_turn_lem (drawing s t l) g
  short (serving m steps) (Setup c) g = out_of_turn_lem (serving m steps) g
  short (serving m steps) Compile g = out_of_turn_lem (serving m steps) g
  short (serving m steps) (Calling (StepTo i r)) g = by_test (ltb (length steps) 8)
    where
      by_test : (b : Bool) → Short at (serving m steps) (cond b (silent, serving m (steps ++ (step i r ∷ []))) (refused_by 22, serving m steps))
      by_test true = record { good = g; line = omega arith }
      by_test false = out_of_turn_lem (serving m steps) g
  short (serving m steps) (Calling (Push p r)) g = short-served m steps [] (pushing steps r p) g.0 g.1
  short (serving m steps) (Calling Pop) g = short-served m steps steps popping g.0 g.1

-- ---- the whole text

module _ (script : List ℕ) (h : length script ≤ 65536) where
  by_stop : (at next : ℕ) (stage after : Stage) (b : Bool) (line rest : List ℕ) → length line + room after ≤ 13 + room stage
      → length rest ≤ 13 * (length script - next) + room after → at < next → next ≤ length script
      → length (line ++ cond b [] rest) ≤ 13 * (length script - at) + room stage
  by_stop at next stage after true line rest l k f i = omega (arith, length-append line [], l, i)
  by_stop at next stage after false line rest l k f i = omega (arith, length-append line rest, l, k, i, f)

  by_read : (at : ℕ) (stage : Stage) → Good stage → (r : Read) → read_at script at ≡ r
      → (at < next_at script at → next_at script at ≤ length script → (s : Stage) → Good s
      → length (text_of (reads script (next_at script at)) s) ≤ 13 * (length script - next_at script at) + room s)
      → length (text_of (reads_by r (reads script (next_at script at))) stage) ≤ 13 * (length script - at) + room stage
  by_read at stage g End e more = omega arith
  by_read at stage g (Refused n offset) e more =
      let t = told script at n offset e in
      omega (arith, no_length (number n) offset (omega (arith, t.0)) (omega (arith, t.1, t.2, h)), t.2)
  by_read at stage g (Next c offset) e more =
      let f = further script at c offset e in
      let w = command_within script at c offset e in
      let s = short offset (omega (arith, w.is_at, f, h)) stage c g in
      let r = execute stage c in
      by_stop at (next_at script at) stage r.1 (stops r.0) (line_of r.0 offset) (text_of (reads script (next_at script at)) r.1) s.line
      (more f.0 f.1 r.1 s.good) f.0 f.1

  -- the length of the text from an offset on, where at most `bytes` bytes are left
  from_length : (bytes at : ℕ) (stage : Stage) → length script ≤ at + bytes → Good stage
      → length (text_of (reads script at) stage) ≤ 13 * (length script - at) + room stage
  from_length zero at stage l g =
      rw (reads_by_lem script at) (by_read at stage g (read_at script at) refl (λ f i s k. absurd (omega (arith, f, i, l))))
  from_length (suc bytes) at stage l g =
      rw (reads_by_lem script at)
      (by_read at stage g (read_at script at) refl (λ f i s k. from_length bytes (next_at script at) s (omega (arith, f, l)) k))

  pub output-fits : length (output script) ≤ 852100
  unfolding output
  output-fits = omega (arith, from_length (length script) 0 (drawing [] [] None) (omega arith) tt, h)

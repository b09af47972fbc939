-- A well-formed state has room for the entries of every push that it accepts: there are at most nine entries for each packet held.
use mathlib.Core.Path.{◌≡◌, refl, sym, ap, ◌∙◌}
use Prim.Native.Nat.{ℕ, zero, suc, ◌+◌, ◌*◌, ◌≤◌}
use native.Mathlib.Nat.{mul-le-mul_right, zero-add}
use native.Mathlib.Omega.{arith}
use mathlib.Core.List.{List}
use lib.ListN.{length, take}
use lib.Seq.{length-take-le}
use Rattle.topology.specs.Tree.{size, height}
use Rattle.topology.specs.Reader.{tree}
use Rattle.topology.proofs.Reader.{within}
use Rattle.topology.proofs.Lookup.{valid_size}
use Rattle.pifo_model.specs.Tree.{shape, held}
use Rattle.pifo_model.proofs.Numbered.{shape_assemble}
use Rattle.pifo_model.proofs.Total.{total, total_held, total_assemble, sum_from, sum-add}
use Rattle.queue_state.specs.State.{start_of, queue_in, queues, bytes, tree_of}
use Rattle.queue_state.specs.declared.Entry.{Entry as CodeEntry}
use Rattle.queue_state.specs.declared.State.{State}
use Rattle.queue_state.proofs.WellFormed.{Formed}
use Rattle.queue_state.proofs.Arrays.{Arrays}
use Rattle.queue_state.proofs.Stretch.{start_next, start_order, queue_length}

start-sum : (ls : List ℕ) (es : List CodeEntry) (n : ℕ) → start_of ls n ≤ length es → sum_from 0 n (λ m. length (queue_in ls es m)) ≡ start_of ls n
start-sum ls es zero h = refl
start-sum ls es (suc n) h =
    let e : suc n ≡ n + 1 = omega arith in
    let f : ℕ → ℕ = λ m. length (queue_in ls es m) in
    ap (λ (k : ℕ). sum_from 0 k f) e
    ∙ sum-add 0 n 1 f
    ∙ omega (
      arith,
      start-sum ls es n (omega (arith, start_order ls n (suc n) (omega arith))),
      ap (λ (k : ℕ). length (queue_in ls es k)) (zero-add n),
      queue_length ls es n h,
      start_next ls n,
    )

used_total : (s : State) → Arrays s → Formed s → start_of s.lengths s.frame.nodes ≡ total (tree_of s)
unfolding tree_of queues bytes
used_total s a f =
    let n : s.frame.nodes ≡ size (tree (take s.frame.nodes s.frame.topology)) =
    sym (length-take-le s.frame.nodes s.frame.topology (omega (arith, a.topology, f.nodes)))
    ∙ sym (valid_size 64 (take s.frame.nodes s.frame.topology) f.valid) in
    sym (start-sum s.lengths s.entries s.frame.nodes (omega (arith, a.entries, f.used)))
    ∙ ap (λ (k : ℕ). sum_from 0 k (λ m. length (queue_in s.lengths s.entries m))) n
    ∙ sym (total_assemble (tree (take s.frame.nodes s.frame.topology)) (queue_in s.lengths s.entries) 0)

pub fits : (s : State) → Arrays s → Formed s → start_of s.lengths s.frame.nodes ≤ 9 * held (tree_of s)
unfolding tree_of bytes
fits s a f =
    let h = total_held (tree_of s) f.tree in
    let g : height (shape (tree_of s)) ≤ 8 =
    omega (arith, ap height (shape_assemble (tree (bytes s)) (queues s) 0), (within 64 (bytes s) f.valid).steps) in
    let m : suc (height (shape (tree_of s))) * held (tree_of s) ≤ 9 * held (tree_of s) = mul-le-mul_right (held (tree_of s)) (omega arith) in
    omega (arith, used_total s a f)
